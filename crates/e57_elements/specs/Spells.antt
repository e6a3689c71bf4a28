-- Which texts spell which tree.
use Rattle.std.specs.Prelude.{◌≡◌, ℕ, List, [], IsUtf8}
use Rattle.e57_pieces.specs.declared.piece.Piece.{Piece}
use Rattle.e57_pieces.specs.Cut.{IsCut}
use Rattle.e57_pieces.specs.Start.{Begins}
use Rattle.e57_elements.specs.declared.tree.RawNode.{RawNode}
use Rattle.e57_elements.specs.Tree.{Element, preorder}
use Rattle.e57_elements.specs.Nested.{Nested}
use Rattle.e57_elements.specs.Lawful.{IsLawful}

-- The text is UTF-8. It has a declaration where one has to stand, the cut of what follows has no rest, and its pieces nest
-- to the tree.
pub record Spells (text : List ℕ) (tree : Element) : Type 0 where
  pub utf8 : IsUtf8 text
  pub body : List ℕ
  pub begins : Begins text body
  pub pieces : List Piece
  pub is_cut : IsCut body pieces []
  pub nested : Nested pieces tree

-- The nodes are those of a lawful tree that the text spells.
pub record Reads (text : List ℕ) (nodes : List RawNode) : Type 0 where
  pub tree : Element
  pub in_preorder : nodes ≡ preorder tree
  pub spells : Spells text tree
  pub is_lawful : IsLawful tree
