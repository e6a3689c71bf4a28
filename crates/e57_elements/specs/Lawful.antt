-- Which trees are lawful.
use Rattle.std.specs.Prelude.{◌≡◌, ◌<◌, ◌≤◌, true, List, [], length}
use Rattle.std.specs.List.{AllByRecursion}
use Rattle.e57_pieces.specs.declared.piece.Attr.{Attr}
use Rattle.e57_pieces.specs.Characters.{AreCharacters}
use Rattle.e57_pieces.specs.Words.{IsName}
use Rattle.e57_pieces.specs.Grammar.{differ}
use Rattle.e57_elements.specs.declared.tree.RawNode.{RawNode}
use Rattle.e57_elements.specs.Limits.{max_attrs, max_depth, max_elements}
use Rattle.e57_elements.specs.Tree.{Element, preorder, depth}
use Rattle.e57_elements.specs.Nested.{only_space}

-- a name, and a value of characters
pub record IsLawfulAttr (attr : Attr) : Type 0 where
  pub is_name : IsName attr.name
  pub name : AreCharacters attr.name
  pub value : AreCharacters attr.value

pub record IsLawfulNode (node : RawNode) : Type 0 where
  pub is_name : IsName node.name
  pub name : AreCharacters node.name
  pub each : AllByRecursion IsLawfulAttr node.attrs
  pub names_differ : differ node.attrs ≡ true
  pub few_attrs : length node.attrs ≤ max_attrs
  pub text : AreCharacters node.text
  -- beside children there is no text of white space alone
  pub no_space : 1 < node.size → only_space node.text ≡ true → node.text ≡ []

-- Each node is lawful, and the tree is neither too deep nor too large.
pub record IsLawful (tree : Element) : Type 0 where
  pub each : AllByRecursion IsLawfulNode (preorder tree)
  pub not_deep : depth tree ≤ max_depth
  pub not_large : length (preorder tree) ≤ max_elements

-- The nodes of a lawful tree in preorder.
pub record AreNodes (nodes : List RawNode) : Type 0 where
  pub tree : Element
  pub in_preorder : nodes ≡ preorder tree
  pub is_lawful : IsLawful tree
