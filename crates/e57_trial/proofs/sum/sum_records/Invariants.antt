use Rattle.std.specs.Prelude.{◌≡◌, ◌-◌, ◌<◌, ◌≤◌, length}
use Rattle.e57_stream.specs.Asking.{AsksMet}
use Rattle.e57_blocks.specs.Fields.{slice_at, OnSlice}
use Rattle.e57_copy.specs.Copying.{AreSame, StandBefore}
use Rattle.e57_trial.specs.Summing.{SumsFirst}
use Rattle.e57_trial.proofs.sum.sum_records.Given as goal

abbrev pub invariant-loop-at : goal.invariant-loop-at
invariant-loop-at g l = record {
  same_size : l.pages.length ≡ l.fn.pages.length;
  same_header : l.pages.header ≡ l.fn.pages.header;
  high : l.at ≤ l.count;
  same : AreSame l.fn.blocks l.blocks;
  some : 0 < length l.blocks.blocks;
  met : AsksMet (OnSlice (slice_at l.fn.blocks 0 l.count)) (g.S.Source.view l.fn.pages.source) (g.S.Source.view l.pages.source);
  sums : SumsFirst (slice_at l.fn.blocks 0 l.count) l.at (g.S.Source.view l.fn.pages.source) l.total;
  stand : StandBefore l.blocks l.at (g.S.Source.view l.pages.source);
}

abbrev pub decreases-loop-at : goal.decreases-loop-at
decreases-loop-at g l = l.count - l.at
