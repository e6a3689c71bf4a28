use Rattle.std.proofs.Common.{◌≡◌, ◌-◌}
use Rattle.e57_ahead.proofs.Looking.{Looks}
use Rattle.e57_ahead.proofs.look.look.Given as goal

abbrev pub invariant-loop-covered : goal.invariant-loop-covered
invariant-loop-covered g l =
    Looks (g.S.Source.view l.fn.pages.source) l.section l.fixed l.i l.fn.reached l.reached (g.S.Source.view l.pages.source)
    × (l.pages.length ≡ l.fn.pages.length)
    × (l.pages.header ≡ l.fn.pages.header)

abbrev pub decreases-loop-covered : goal.decreases-loop-covered
decreases-loop-covered g l = l.section.end - l.reached.taken
