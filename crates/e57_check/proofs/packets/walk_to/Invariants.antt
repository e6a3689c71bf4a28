use Rattle.std.proofs.Common.{◌≡◌, ◌-◌, ◌/◌}
use Rattle.e57_base.specs.Source.{page_length}
use Rattle.e57_check.specs.Passing.{Walks}
use Rattle.e57_check.proofs.packets.walk_to.Given as goal

abbrev pub invariant-loop-passed : goal.invariant-loop-passed
invariant-loop-passed g l =
    Walks (l.fn.pages.length / page_length) (g.S.Source.view l.fn.pages.source) l.section l.starts l.fn.passed l.passed (g.S.Source.view l.pages.source)
    × (l.pages.length ≡ l.fn.pages.length)
    × (l.pages.header ≡ l.fn.pages.header)

abbrev pub decreases-loop-passed : goal.decreases-loop-passed
decreases-loop-passed g l = l.section.end - l.passed.taken
