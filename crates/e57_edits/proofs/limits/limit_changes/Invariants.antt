use Rattle.std.proofs.Common.{◌≡◌, ℕ, ◌<◌, map, take, slice_index_or, None}
use Rattle.e57_edits.specs.Changes.{limit_change}
use Rattle.e57_edits.specs.Ranges.{IsSigned}
use Rattle.e57_edits.proofs.limits.limit_changes.Given as goal

abbrev pub invariant-loop-range : goal.invariant-loop-range
invariant-loop-range l = record {
  same : l.changes.items ≡ map limit_change (take l.range-index l.ranges);
  signed : (n : ℕ) → n < l.range-index → IsSigned (slice_index_or l.ranges n None);
}
