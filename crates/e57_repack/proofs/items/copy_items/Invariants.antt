use Rattle.std.proofs.Common.{◌≡◌, ◌/◌, ◌%◌, false, None}
use Rattle.e57_base.specs.Source.{page_length}
use Rattle.e57_elements.specs.Tree.{Element, preorder}
use Rattle.e57_repack.proofs.Stepping.{CopiesFirst}
use Rattle.e57_repack.proofs.items.copy_items.Given as goal

abbrev pub invariant-loop-item : goal.invariant-loop-item
invariant-loop-item g l = record {
  copies : (e d : Element) → l.file ≡ preorder e → l.tree ≡ preorder d
      → CopiesFirst g.T.Target.view l.chunk e d l.item-index (l.fn.pages.length / page_length) (g.S.Source.view l.fn.pages.source) (g.S.Source.view l.pages.source) l.fn.out l.offsets.items l.out;
  length : l.pages.length ≡ l.fn.pages.length;
  header : l.pages.header ≡ l.fn.pages.header;
  unspent : l.out.is_spent ≡ false;
  free : l.out.held ≡ None;
  whole : l.out.size % 1020 ≡ 0;
}
