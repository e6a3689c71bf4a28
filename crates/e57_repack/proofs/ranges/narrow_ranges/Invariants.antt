use Rattle.std.proofs.Common.{◌≡◌, ◌/◌, length}
use Rattle.e57_base.specs.Source.{page_length}
use Rattle.e57_elements.specs.Tree.{Element, preorder}
use Rattle.e57_repack.specs.Ranges.{AreLimits}
use Rattle.e57_repack.proofs.Ranging.{WidensTo}
use Rattle.e57_repack.proofs.ranges.narrow_ranges.Given as goal

abbrev pub invariant-loop-item : goal.invariant-loop-item
invariant-loop-item g l = record {
  widens : (e : Element) → l.file ≡ preorder e
      → WidensTo e l.item-index (l.fn.pages.length / page_length) (g.S.Source.view l.fn.pages.source) (g.S.Source.view l.pages.source) l.ranges.items;
  same_size : l.pages.length ≡ l.fn.pages.length;
  same_header : l.pages.header ≡ l.fn.pages.header;
  limits : AreLimits (length l.file) l.ranges.items;
}
