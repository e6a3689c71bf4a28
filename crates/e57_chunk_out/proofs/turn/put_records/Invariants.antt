use Rattle.std.proofs.Common.{◌-◌}
use Rattle.e57_chunk_out.proofs.Rows.{IsTurned}
use Rattle.e57_chunk_out.proofs.turn.put_records.Given as goal

abbrev pub invariant-loop-from : goal.invariant-loop-from
invariant-loop-from g l = IsTurned g.T.Target.view l.e l.until l.fn.fields l.fn.chunks l.fn.out l.from l.fields l.chunks l.out

abbrev pub decreases-loop-from : goal.decreases-loop-from
decreases-loop-from g l = l.until - l.from
