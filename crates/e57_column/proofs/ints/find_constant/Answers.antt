use Rattle.std.proofs.Common.{arith}
use Rattle.e57_column.proofs.Integers.{paths-none, paths-indexed}
use Rattle.std.specs.Prelude.{◌≡◌, ◌<◌}
use Rattle.std.proofs.lemmas.Bool.{eq-eqb, ne_eqb}
use Rattle.e57_column.proofs.ints.find_constant.Goals as goal

pub returns-then-state-eq0-clause-paths : goal.returns-then-state-eq0-clause-paths
returns-then-state-eq0-clause-paths g c = (c.requires.some, omega arith, paths-none (g.S.Source.view c.args.pages.now.source) c.args.state.now c.args.places (eq-eqb c.args.state.now.stream.section.index 0 c.if-state-eq0.true))

pub returns-in-Ok-clause-paths : goal.returns-in-Ok-clause-paths
returns-in-Ok-clause-paths g c =
    let high = c.in-Ok.ensures.chunk.high in
    let some = c.requires.some in
    let n = c.fewer.ensures in
    let has : 0 < c.fewer.result = omega (arith, high, some, n) in
    (has, omega (arith, n), paths-indexed (g.S.Source.view c.args.pages.now.source) (g.S.Source.view c.find_chunk.new.pages.source) c.args.state.now c.fewer.result c.in-Ok.found c.find_chunk.new.finder (ne_eqb c.args.state.now.stream.section.index 0 (λ e. absurd (let h = c.if-state-eq0.false in omega (arith, h, e)))) has (omega (arith, n, high)) c.in-Ok.ensures.chunk)
