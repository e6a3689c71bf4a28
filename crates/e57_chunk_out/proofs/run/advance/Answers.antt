use Rattle.std.proofs.Common.{◌+◌, List, sym, subst, arith}
use Rattle.std.specs.List.{AllByRecursion}
use Rattle.e57_chunk_out.specs.Waiting.{Waiting}
use Rattle.e57_chunk_out.specs.SideBySide.{Has}
use Rattle.e57_chunk_out.proofs.RunLaws.{has-cleared}
use Rattle.e57_chunk_out.proofs.Advancing.{most-few, there-some, are-groups, taken-goes, lost_run, flushed-answer, cleared_is}
use Rattle.e57_chunk_out.proofs.run.advance.Goals as goal

pub fitting-n-requires-clause-limit : goal.fitting-n-requires-clause-limit
fitting-n-requires-clause-limit g c = omega (arith, most-few c.args.from c.args.most c.args.fields.now c.requires.gathered.some c.requires.gathered.waiting c.requires.there)

pub take_groups-requires-clause-there : goal.take_groups-requires-clause-there
take_groups-requires-clause-there g c = there-some c.args.from c.args.most c.fitting-n.result c.args.fields.now c.fitting-n.ensures.most c.requires.there

pub returns-in-Ok : goal.returns-in-Ok
returns-in-Ok g c = (
  are-groups c.fitting-n.result c.args.most c.if-n-gt0.true c.fitting-n.ensures.most c.fitting-n.ensures.whole,
  taken-goes g.T.Target.view c.args.from c.fitting-n.result c.args.fields.now c.args.run.now c.args.out.now c.requires.gathered (there-some c.args.from c.args.most c.fitting-n.result c.args.fields.now c.fitting-n.ensures.most c.requires.there) c.if-n-gt0.true c.requires.state (c.fitting-n.ensures.fit c.if-n-gt0.true)
      c.take_groups.new.fields c.take_groups.new.run c.take_groups.new.out c.in-Ok.ensures.0 c.in-Ok.ensures.1 c.in-Ok.ensures.2,
)

pub returns-in-Err-flush : goal.returns-in-Err-flush
returns-in-Err-flush g c = (
  c.in-Err-flush.ensures.0,
  lost_run g.T.Target.view c.args.from c.args.most c.args.fields.now c.args.run.now c.args.out.now c.in-Err-flush.fault (g.T.Target.view c.flush.new.out.target) c.requires.gathered c.requires.there c.requires.some (omega (arith, c.if-run-eq0.false)) (c.fitting-n.ensures.none (omega (arith, c.if-n-gt0.false))) c.in-Err-flush.ensures.1,
)

pub begin_run-requires-2-clause-gathered : goal.begin_run-requires-2-clause-gathered
begin_run-requires-2-clause-gathered g c = cleared_is c.args.fields.now c.args.run.now c.requires.gathered c.flush.new.fields c.flush.new.run c.in_default.ensures.0 c.in_default.ensures.1

pub begin_run-requires-2-clause-there : goal.begin_run-requires-2-clause-there
begin_run-requires-2-clause-there g c = subst (λ (ws : List Waiting). AllByRecursion (Has (c.args.from + c.args.most)) ws) (sym c.in_default.ensures.0) (has-cleared (c.args.from + c.args.most) c.args.fields.now c.requires.there)

pub returns : goal.returns
returns g c =
    flushed-answer g.T.Target.view c.args.from c.args.most c.args.fields.now c.args.run.now c.args.out.now c.requires.gathered c.requires.there c.requires.some (omega (arith, c.if-run-eq0.false)) (c.fitting-n.ensures.none (omega (arith, c.if-n-gt0.false)))
    c.flush.new.fields c.flush.new.run c.flush.new.out c.in_default.ensures.0 c.in_default.ensures.1 c.in_default.ensures.2 c.begin_run-2.new.fields c.begin_run-2.new.run c.begin_run-2.new.out c.begin_run-2.result c.begin_run-2.ensures
