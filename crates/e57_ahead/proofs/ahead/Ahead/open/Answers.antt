use Rattle.std.proofs.Common.{sym, subst}
use Rattle.e57_ahead.specs.declared.reached.Reached.{Reached}
use Rattle.e57_ahead.specs.Counting.{StandsIn}
use Rattle.e57_ahead.proofs.Standing.{stands-begun}
use Rattle.e57_ahead.proofs.ahead.Ahead.open.Goals as goal

pub returns-clause-stands : goal.returns-clause-stands
returns-clause-stands c file =
    subst (λ (r : Reached). StandsIn file c.args.section.now c.args.fixed r) (sym c.start.ensures) (stands-begun file c.args.section.now c.args.fixed c.requires.unindexed)
