use Rattle.std.proofs.Common.{rules, FitsSigned, w64, to_z, of_z}
use Rattle.std.proofs.Math.Facts.{to_z-of_z}
use Rattle.e57_column.proofs.Integers.{constant-into, constant-stop}
use Rattle.e57_column.proofs.ints.step_constant.Goals as goal

pub returns-in-Err-clause-items : goal.returns-in-Err-clause-items
returns-in-Err-clause-items g c =
    constant-stop (g.S.Source.view c.args.pages.now.source) (g.S.Source.view c.find_constant.new.pages.source) c.args.state.now c.find_constant.new.state c.args.low c.in-Err.fault c.args.out.now c.requires.constant c.requires.some c.in-Err.ensures.same c.in-Err.ensures.paths.1 c.in-Err.ensures.paths.0

pub returns-clause-items : goal.returns-clause-items
returns-clause-items g c =
    let n = c.in-Ok.ensures.paths in
    let fit : FitsSigned w64 c.args.low = search rules in
    let filled = simp (to_z-of_z) at c.fill.ensures in
    (n.0, n.1, constant-into (g.S.Source.view c.args.pages.now.source) (g.S.Source.view c.find_constant.new.pages.source) c.args.state.now c.find_constant.new.state c.args.low c.in-Ok.n c.args.out.now c.fill.new.out c.requires.column c.requires.placed c.requires.constant c.requires.within n.1 n.0 filled c.in-Ok.ensures.same n.2)
