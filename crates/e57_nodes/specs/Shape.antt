-- The tree of what is read of the elements, and its nodes by number.
use Rattle.std.specs.Prelude.{ℕ, ◌+◌, List, [], ◌∷◌, ◌++◌}
use Rattle.e57_elements.specs.Tree.{Element, element, Elements, none, more}
use Rattle.e57_nodes.specs.Facts.{Facts, facts_of}

mutual
  -- a node: what is read of it, and its children
  pub data Shape : Type 0 where
    shape : Facts → Shapes → Shape

  -- nodes one after another
  pub data Shapes : Type 0 where
    no_shapes : Shapes
    shapes : Shape → Shapes → Shapes

abbrev mutual
  pub shape_of : Element → Shape
  shape_of (element name attrs text children) = shape (facts_of name attrs text) (shapes_of children)

  pub shapes_of : Elements → Shapes
  shapes_of none = no_shapes
  shapes_of (more e es) = shapes (shape_of e) (shapes_of es)

-- how many nodes there are, the node itself and all below it
abbrev mutual
  pub node_count : Shape → ℕ
  node_count (shape facts below) = node_count_all below + 1

  pub node_count_all : Shapes → ℕ
  node_count_all no_shapes = 0
  node_count_all (shapes s ss) = node_count s + node_count_all ss

-- A node with its number. The nodes of a tree are numbered in preorder; the root has the number 0.
pub record Node : Type 0 where
  pub number : ℕ
  pub facts : Facts
  pub below : Shapes

abbrev pub node_at : ℕ → Shape → Node
node_at n (shape facts below) = record { number = n; facts = facts; below = below }

-- nodes one after another, without those below them, where the first has this number
abbrev pub children_from : ℕ → Shapes → List Node
children_from n no_shapes = []
children_from n (shapes s ss) = node_at n s ∷ children_from (n + node_count s) ss

abbrev pub children_of : Node → List Node
children_of x = children_from (x.number + 1) x.below

-- all nodes in preorder, where the first has this number
abbrev mutual
  pub nodes_from : ℕ → Shape → List Node
  nodes_from n (shape facts below) = node_at n (shape facts below) ∷ nodes_from_all (n + 1) below

  pub nodes_from_all : ℕ → Shapes → List Node
  nodes_from_all n no_shapes = []
  nodes_from_all n (shapes s ss) = nodes_from n s ++ nodes_from_all (n + node_count s) ss

-- the nodes below a node
abbrev pub nodes_below : Node → List Node
nodes_below x = nodes_from_all (x.number + 1) x.below
