-- A tree that is made by calls, one node after another in preorder.
use Rattle.std.specs.Prelude.{◌≡◌, ℕ, ◌+◌, ◌<◌, ◌≤◌, true, ◌⊎◌, List, [], ◌∷◌, ◌++◌, length}
use Rattle.std.specs.List.{AllByRecursion}
use Rattle.e57_pieces.specs.Characters.{AreCharacters}
use Rattle.e57_pieces.specs.Words.{IsName}
use Rattle.e57_pieces.specs.Grammar.{differ}
use Rattle.e57_elements.specs.declared.tree.RawNode.{RawNode}
use Rattle.e57_elements.specs.Limits.{max_attrs, max_depth, max_elements}
use Rattle.e57_elements.specs.Tree.{Element, element, preorder, preorder_all, depth, depth_all}
use Rattle.e57_elements.specs.Nested.{only_space}
use Rattle.e57_elements.specs.Lawful.{IsLawfulNode}
use Rattle.e57_elements.specs.Machine.{Open, State, reading, done}

-- The nodes so far, and the places of the begun ones, the innermost last. A begun node has the size 0.
pub record TreeSoFar : Type 0 where
  pub nodes : List RawNode
  pub begun : List ℕ

-- ---- what the calls do

-- a node without attributes, text and children begins
abbrev pub started : List ℕ → TreeSoFar → TreeSoFar
started name tree = record { nodes = tree.nodes ++ (record { name = name; attrs = []; text = []; size = 0 }) ∷ []; begun = tree.begun ++ length tree.nodes ∷ [] }

abbrev pub add_attr : List ℕ → List ℕ → RawNode → RawNode
add_attr name value node = record { name = node.name; attrs = node.attrs ++ (record { name = name; value = value }) ∷ []; text = node.text; size = node.size }

abbrev pub set_text : List ℕ → RawNode → RawNode
set_text text node = record { name = node.name; attrs = node.attrs; text = text; size = node.size }

abbrev pub set_size : ℕ → RawNode → RawNode
set_size size node = record { name = node.name; attrs = node.attrs; text = node.text; size = size }

-- The last node is changed so, and nothing else.
pub record ChangesLast (change : RawNode → RawNode) (old new : TreeSoFar) : Type 0 where
  pub begun : new.begun ≡ old.begun
  pub nodes : (before : List RawNode) (node : RawNode) → old.nodes ≡ before ++ node ∷ [] → new.nodes ≡ before ++ change node ∷ []

-- The innermost begun node has ended: it gets its size, which counts it and the nodes below it.
abbrev pub Ends : TreeSoFar → TreeSoFar → Type 0
Ends old new =
    (outer : List ℕ) (before below : List RawNode) (node : RawNode)
    → old.begun ≡ outer ++ length before ∷ [] → old.nodes ≡ before ++ node ∷ below
    → new ≡ record { nodes = before ++ set_size (length below + 1) node ∷ below; begun = outer }

-- ---- when they may be made

-- This node is the innermost begun one, and these are the nodes below it.
pub record IsInnermost (tree : TreeSoFar) (node : RawNode) (below : List RawNode) : Type 0 where
  pub outer : List ℕ
  pub before : List RawNode
  pub begun : tree.begun ≡ outer ++ length before ∷ []
  pub nodes : tree.nodes ≡ before ++ node ∷ below

-- A node of this name may begin: as the root, or below a node whose text isn't one or more bytes of white space alone.
pub record MayStart (tree : TreeSoFar) (name : List ℕ) : Type 0 where
  pub is_name : IsName name
  pub characters : AreCharacters name
  pub place : (tree.nodes ≡ []) ⊎ ((node : RawNode) × (below : List RawNode) × IsInnermost tree node below × (only_space node.text ≡ true → node.text ≡ []))
  pub few_begun : length tree.begun < max_depth
  pub few_nodes : length tree.nodes < max_elements

-- The innermost begun node has no child yet, and this attribute may be added to it: with it there are not too many, and
-- their names differ.
pub record MayAttr (tree : TreeSoFar) (name value : List ℕ) : Type 0 where
  pub node : RawNode
  pub is_innermost : IsInnermost tree node []
  pub is_name : IsName name
  pub characters : AreCharacters name
  pub value_characters : AreCharacters value
  pub few : length node.attrs < max_attrs
  pub names_differ : differ (add_attr name value node).attrs ≡ true

-- The innermost begun node has no child yet, and the text is characters.
pub record MayText (tree : TreeSoFar) (text : List ℕ) : Type 0 where
  pub node : RawNode
  pub is_innermost : IsInnermost tree node []
  pub characters : AreCharacters text

-- ---- what holds of each such tree

-- the nodes of the begun elements, the innermost first, and of those below them that have ended
abbrev pub begun_nodes : List Open → List RawNode
begun_nodes [] = []
begun_nodes (top ∷ outer) = begun_nodes outer ++ ((record { name = top.name; attrs = top.attrs; text = top.text; size = 0 }) ∷ preorder_all top.children)

abbrev pub begun_places : List Open → List ℕ
begun_places [] = []
begun_places (top ∷ outer) = begun_places outer ++ length (begun_nodes outer) ∷ []

-- a begun element, as it is when it ends now
abbrev pub made : Open → Element
made top = element top.name top.attrs top.text top.children

-- It may have a child.
abbrev pub MayHaveChild : List Open → Type 0
MayHaveChild [] = Unit {0}
MayHaveChild (top ∷ outer) = only_space top.text ≡ true → top.text ≡ []

-- Each begun element is lawful so far.
abbrev pub AreBegun : List Open → Type 0
AreBegun [] = Unit {0}
AreBegun (top ∷ outer) = AllByRecursion IsLawfulNode (preorder (made top)) × (length outer + 1 + depth_all top.children ≤ max_depth) × MayHaveChild outer × AreBegun outer

abbrev pub IsMade : State → TreeSoFar → Type 0
IsMade (reading opens) tree = (tree.nodes ≡ begun_nodes opens) × (tree.begun ≡ begun_places opens) × AreBegun opens
IsMade (done e) tree = (tree.nodes ≡ preorder e) × (tree.begun ≡ []) × AllByRecursion IsLawfulNode (preorder e) × (depth e ≤ max_depth)

-- The nodes are those of begun elements, or of one that has ended; all are lawful so far.
pub record IsLawfulSoFar (tree : TreeSoFar) : Type 0 where
  pub state : State
  pub is_made : IsMade state tree
  pub not_large : length tree.nodes ≤ max_elements
