-- The tree of elements, and the list of its nodes in preorder.
use Rattle.std.specs.Prelude.{ℕ, ◌+◌, max, List, [], ◌∷◌, ◌++◌, length}
use Rattle.e57_pieces.specs.declared.piece.Attr.{Attr}
use Rattle.e57_elements.specs.declared.tree.RawNode.{RawNode}

mutual
  -- an element: its name, its attributes, its text and its children
  pub data Element : Type 0 where
    element : List ℕ → List Attr → List ℕ → Elements → Element

  -- elements one after another
  pub data Elements : Type 0 where
    none : Elements
    more : Element → Elements → Elements

-- each node before those below it; its size counts it and all below it
abbrev mutual
  pub preorder : Element → List RawNode
  preorder (element name attrs text children) =
      record { name = name; attrs = attrs; text = text; size = length (preorder_all children) + 1 } ∷ preorder_all children

  pub preorder_all : Elements → List RawNode
  preorder_all none = []
  preorder_all (more e es) = preorder e ++ preorder_all es

-- how deep an element reaches: an element without children has the depth 1
abbrev mutual
  pub depth : Element → ℕ
  depth (element name attrs text children) = depth_all children + 1

  pub depth_all : Elements → ℕ
  depth_all none = 0
  depth_all (more e es) = max (depth e) (depth_all es)
