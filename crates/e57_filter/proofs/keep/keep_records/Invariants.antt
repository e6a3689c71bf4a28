use Rattle.std.specs.Prelude.{◌≡◌, ◌+◌, ◌-◌, ◌≤◌}
use Rattle.e57_stream.specs.Asking.{AsksMet}
use Rattle.e57_blocks.specs.Fields.{slice_at, OnSlice}
use Rattle.e57_copy.specs.Adding.{IsStanding}
use Rattle.e57_copy.specs.Copying.{AreSame}
use Rattle.e57_filter.specs.Keeping.{sieve_of, KeepsFirst}
use Rattle.e57_filter.proofs.keep.keep_records.Given as goal

abbrev pub invariant-loop-at : goal.invariant-loop-at
invariant-loop-at g l = record {
  same_size : l.pages.length ≡ l.fn.pages.length;
  same_header : l.pages.header ≡ l.fn.pages.header;
  end : l.until ≡ l.from + l.count;
  low : l.from ≤ l.at;
  high : l.at ≤ l.until;
  same : AreSame l.fn.blocks l.blocks;
  met : AsksMet (OnSlice (slice_at l.fn.blocks l.from l.count)) (g.S.Source.view l.fn.pages.source) (g.S.Source.view l.pages.source);
  keeps : KeepsFirst g.T.Target.view (sieve_of l.every l.tests) l.kept (slice_at l.fn.blocks l.from l.count) (l.at - l.from) (g.S.Source.view l.fn.pages.source) l.fn.cloud l.fn.out (g.S.Source.view l.pages.source) l.blocks l.cloud l.out;
  standing : IsStanding l.cloud l.out;
  idle : l.cloud.count ≡ l.fn.cloud.count → l.out.size ≡ l.fn.out.size;
}

abbrev pub decreases-loop-at : goal.decreases-loop-at
decreases-loop-at g l = l.until - l.at
