use Rattle.std.proofs.Common.{ℕ, ◌<◌, slice_index_or, None}
use Rattle.e57_edits.specs.Ranges.{IsOrdered}
use Rattle.e57_edits.proofs.tests.are_ordered.Given as goal

abbrev pub invariant-loop-range : goal.invariant-loop-range
invariant-loop-range l = (n : ℕ) → n < l.range-index → IsOrdered (slice_index_or l.ranges n None)
