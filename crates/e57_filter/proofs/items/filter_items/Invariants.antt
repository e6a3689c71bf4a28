use Rattle.std.proofs.Common.{◌≡◌, ◌/◌, ◌%◌, false, None}
use Rattle.e57_base.specs.Source.{page_length}
use Rattle.e57_elements.specs.Tree.{Element, preorder}
use Rattle.e57_filter.specs.Asking.{filter_chunk}
use Rattle.e57_filter.specs.Selecting.{selection_of}
use Rattle.e57_filter.proofs.Walked.{FiltersFirst}
use Rattle.e57_filter.proofs.items.filter_items.Given as goal

abbrev pub invariant-loop-item : goal.invariant-loop-item
invariant-loop-item g l = record {
  filters : (e : Element) → l.file ≡ preorder e
      → FiltersFirst g.T.Target.view filter_chunk e (selection_of l.every l.selected) l.item-index (l.fn.pages.length / page_length) (g.S.Source.view l.fn.pages.source) (g.S.Source.view l.pages.source) l.fn.out l.number l.offsets.items l.out;
  length : l.pages.length ≡ l.fn.pages.length;
  header : l.pages.header ≡ l.fn.pages.header;
  unspent : l.out.is_spent ≡ false;
  free : l.out.held ≡ None;
  whole : l.out.size % 1020 ≡ 0;
}
