use Rattle.e57_chunk_out.proofs.Advancing.{ends-none, ends-some, lost_end}
use Rattle.e57_chunk_out.proofs.turn.end_chunk.Goals as goal
use Rattle.std.proofs.Common.{arith}

pub returns-then-run-eq0 : goal.returns-then-run-eq0
returns-then-run-eq0 g c = ends-none g.T.Target.view c.args.fields.now c.args.run.now c.args.out.now c.requires.gathered c.requires.state c.if-run-eq0.true

pub returns-in-Err : goal.returns-in-Err
returns-in-Err g c = (
  c.in-Err.ensures.0,
  lost_end g.T.Target.view c.args.fields.now c.args.run.now c.args.out.now c.in-Err.fault (g.T.Target.view c.flush.new.out.target) (omega (arith, c.if-run-eq0.false)) c.in-Err.ensures.1,
)

pub returns : goal.returns
returns g c = ends-some g.T.Target.view c.args.fields.now c.args.run.now c.args.out.now c.flush.new.out c.flush.new.fields c.flush.new.run (omega (arith, c.if-run-eq0.false)) c.in_default.ensures.0 c.in_default.ensures.1 c.in_default.ensures.2
