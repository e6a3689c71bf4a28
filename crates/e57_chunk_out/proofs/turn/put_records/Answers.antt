use Rattle.std.proofs.Common.{◌≡◌, ◌+◌, ◌-◌, subst, sym, arith}
use Rattle.std.specs.List.{AllByRecursion}
use Rattle.e57_chunk_out.specs.SideBySide.{Has}
use Rattle.e57_chunk_out.specs.Turns.{Turns}
use Rattle.e57_chunk_out.proofs.Rows.{has-same, turned_next, turned_lost}
use Rattle.e57_chunk_out.proofs.turn.put_records.Goals as goal

pub turn-requires-clause-there : goal.turn-requires-clause-there
turn-requires-clause-there g c =
    let sum : c.loop-from.from + (c.args.until - c.loop-from.from) ≡ c.args.until = omega (arith, c.loop-from.invariant.order) in
    subst (λ n. AllByRecursion (Has n) c.loop-from.fields) (sym sum) (has-same c.args.until c.args.fields.now c.loop-from.fields c.loop-from.invariant.way.columns c.requires.there)

pub loop-from-preserved : goal.loop-from-preserved
loop-from-preserved g c =
    turned_next g.T.Target.view c.args.e c.args.until c.args.fields.now c.args.chunks.now c.args.out.now c.loop-from.from c.loop-from.fields c.loop-from.chunks c.loop-from.out c.loop-from.invariant c.in-Ok.k c.turn.new.fields c.turn.new.chunks c.turn.new.out c.in-Ok.ensures.0 c.in-Ok.ensures.1 c.loop-from-test.true

pub returns-in-Err : goal.returns-in-Err
returns-in-Err g c = (
  c.in-Err.ensures.0,
  turned_lost g.T.Target.view c.args.e c.args.until c.args.fields.now c.args.chunks.now c.args.out.now c.loop-from.from c.loop-from.fields c.loop-from.chunks c.loop-from.out c.loop-from.invariant c.in-Err.fault (g.T.Target.view c.turn.new.out.target) c.in-Err.ensures.1,
)

pub returns : goal.returns
returns g c =
    let end : c.loop-from.from ≡ c.args.until = omega (arith, c.loop-from.invariant.order, c.loop-from-test.false) in
    subst (λ m. Turns g.T.Target.view c.args.e 0 m c.args.fields.now c.args.chunks.now c.args.out.now c.loop-from.fields c.loop-from.chunks c.loop-from.out) end c.loop-from.invariant.way
