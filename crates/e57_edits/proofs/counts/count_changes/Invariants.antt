use Rattle.std.proofs.Common.{◌≡◌, ◌≤◌, ◌++◌, drop}
use Rattle.e57_edits.specs.Changes.{count_changes}
use Rattle.e57_edits.proofs.counts.count_changes.Given as goal

abbrev pub invariant-loop-n : goal.invariant-loop-n
invariant-loop-n l = record {
  same : l.changes.items ++ count_changes (drop l.used l.counts) (drop l.n l.raw) ≡ count_changes l.counts l.raw;
  few : l.used ≤ l.n;
}
