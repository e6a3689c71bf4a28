use Rattle.std.proofs.Common.{◌-◌, ◌≡◌, ◌≤◌}
use Rattle.e57_example.specs.Ready.{IsReady}
use Rattle.e57_example.proofs.sums.sum_columns.Given as goal

abbrev pub invariant-loop-sums : goal.invariant-loop-sums
invariant-loop-sums g l =
    (l.sums.records ≤ l.section.count)
    × IsReady l.section l.sums.records l.first
    × IsReady l.section l.sums.records l.second
    × (l.pages.length ≡ l.fn.pages.length)

abbrev pub decreases-loop-sums : goal.decreases-loop-sums
decreases-loop-sums g l = l.section.count - l.sums.records
