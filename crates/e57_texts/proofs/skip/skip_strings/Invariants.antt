use Rattle.std.proofs.Common.{◌≡◌, ◌-◌}
use Rattle.e57_texts.proofs.Rows.{Passes}
use Rattle.e57_texts.proofs.skip.skip_strings.Given as goal

abbrev pub invariant-loop-chunk : goal.invariant-loop-chunk
invariant-loop-chunk g l = record {
  same_size : l.pages.length ≡ l.fn.pages.length;
  same_header : l.pages.header ≡ l.fn.pages.header;
  passes : Passes (g.S.Source.view l.fn.pages.source) l.fn.stream l.fn.chunk l.fn.i l.chunk (g.S.Source.view l.pages.source);
}

abbrev pub decreases-loop-chunk : goal.decreases-loop-chunk
decreases-loop-chunk g l = l.i - l.chunk.at
