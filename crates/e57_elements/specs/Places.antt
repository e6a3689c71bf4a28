-- An element among the nodes of a tree, and its writing.
use Rattle.std.specs.Prelude.{◌≡◌, ℕ, List, ◌++◌, drop, Result, OnOk}
use Rattle.e57_elements.specs.declared.tree.RawNode.{RawNode}
use Rattle.e57_elements.specs.Tree.{Element, preorder}
use Rattle.e57_elements.specs.Spelling.{element_spelling}

-- The nodes from this place on begin with those of an element.
pub record StandsAt (nodes : List RawNode) (place : ℕ) : Type 0 where
  pub tree : Element
  pub rest : List RawNode
  pub parts : drop place nodes ≡ preorder tree ++ rest

-- the element at this place has been written after what was there
abbrev pub WritesElement : {T E : Type 0} → List RawNode → ℕ → Result T E → List ℕ → List ℕ → Type 0
WritesElement nodes place result old new =
    (e : Element) (rest : List RawNode) → drop place nodes ≡ preorder e ++ rest → OnOk result (new ≡ old ++ element_spelling e)
