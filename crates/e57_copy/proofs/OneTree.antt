-- Trees and their nodes: one tree has these nodes.
use Rattle.std.proofs.Common.{◌≡◌, List, None, sym, ap, subst, ◌∙◌}
use Rattle.e57_elements.specs.Lawful.{AreNodes, IsLawful}
use Rattle.e57_elements.specs.Tree.{Element, preorder}
use Rattle.e57_elements.specs.declared.tree.RawNode.{RawNode}
use Rattle.e57_nodes.specs.Shape.{shape_of}
use Rattle.e57_nodes.specs.Typed.{typed_fault}
use Rattle.e57_tree.specs.Flat.{tree_of}
use Rattle.e57_tree.proofs.Laws.Flat.{tree_of-preorder}

pub one-tree : (nodes : List RawNode) (d e : Element) → nodes ≡ preorder d → nodes ≡ preorder e → d ≡ e
one-tree nodes d e first second = sym (tree_of-preorder d) ∙ ap tree_of (sym first ∙ second) ∙ tree_of-preorder e

-- The tree is lawful, and has no fault of its nodes.
pub record IsGoodTree (d : Element) : Type 0 where
  pub is_lawful : IsLawful d
  pub typed : typed_fault (shape_of d) ≡ None

pub good-tree : (nodes : List RawNode) (d : Element) → AreNodes nodes → ((e : Element) → nodes ≡ preorder e → typed_fault (shape_of e) ≡ None) → nodes ≡ preorder d → IsGoodTree d
good-tree nodes d are typed same = record {
  is_lawful = subst (λ (e : Element). IsLawful e) (one-tree nodes are.tree d are.in_preorder same) are.is_lawful;
  typed = typed d same;
}
