use Rattle.std.proofs.Common.{◌≡◌, ◌-◌, length}
use Rattle.e57_layout.specs.Strings.{string_limit}
use Rattle.e57_blocks.specs.Filling.{IsGrown, PlacedAt}
use Rattle.e57_blocks.proofs.texts.read_texts.Given as goal

abbrev pub invariant-loop-got : goal.invariant-loop-got
invariant-loop-got g l = record {
  same_size : l.pages.length ≡ l.fn.pages.length;
  same_header : l.pages.header ≡ l.fn.pages.header;
  same_places : length l.ends ≡ length l.fn.ends;
  room : IsGrown (g.S.Source.view l.fn.pages.source) l.fn.column l.i (length l.fn.bytes.items) (length l.bytes.items);
  way : PlacedAt (g.S.Source.view l.fn.pages.source) l.fn.column l.i l.want (g.S.Source.view l.pages.source) l.column;
}

abbrev pub decreases-loop-got : goal.decreases-loop-got
decreases-loop-got g l = string_limit - length l.bytes.items
