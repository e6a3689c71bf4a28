use Rattle.std.proofs.Common.{◌≡◌, ◌-◌}
use Rattle.e57_texts.proofs.Held.{Skips}
use Rattle.e57_texts.proofs.piece.skip_piece.Given as goal

abbrev pub invariant-loop-left : goal.invariant-loop-left
invariant-loop-left g l = record {
  same_size : l.pages.length ≡ l.fn.pages.length;
  same_header : l.pages.header ≡ l.fn.pages.header;
  skips : Skips (g.S.Source.view l.fn.pages.source) l.fn.stream l.fn.chunk l.fn.n l.left l.chunk (g.S.Source.view l.pages.source);
}

abbrev pub decreases-loop-left : goal.decreases-loop-left
decreases-loop-left g l = l.stream.section.end - l.chunk.taken
