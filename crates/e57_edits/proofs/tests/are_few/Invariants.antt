use Rattle.std.proofs.Common.{ℕ, ◌<◌, ◌≤◌, slice_index_or}
use Rattle.e57_nodes.specs.Typed.{max_records}
use Rattle.e57_edits.proofs.tests.are_few.Given as goal

abbrev pub invariant-loop-count : goal.invariant-loop-count
invariant-loop-count l = (i : ℕ) → i < l.count-index → slice_index_or l.counts i 0 ≤ max_records
