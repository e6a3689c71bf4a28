use Rattle.std.proofs.Common.{◌≡◌, ◌-◌, ◌≤◌, ◌⊎◌, ◌++◌, length}
use Rattle.e57_edits.specs.Changes.{kept}
use Rattle.e57_edits.proofs.cloud.keep_until.Given as goal

abbrev pub invariant-loop : goal.invariant-loop
invariant-loop l = record {
  same : l.changes.items ≡ l.initial.changes.items ++ kept (l.counter - length l.initial.changes.items);
  end : (l.counter ≤ l.count) ⊎ (l.counter ≡ length l.initial.changes.items);
}
