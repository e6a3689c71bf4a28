use Rattle.std.proofs.Common.{◌≡◌, ◌+◌, ◌≤◌, ◌++◌, drop}
use Rattle.e57_tree.specs.Flat.{nodes_between}
use Rattle.e57_edits.specs.Changes.{choice_changes}
use Rattle.e57_edits.proofs.cloud.choose_below.Given as goal

abbrev pub invariant-loop-n : goal.invariant-loop-n
invariant-loop-n l = record {
  same : l.changes.items ++ choice_changes (drop l.used l.chosen) (nodes_between l.raw l.n l.end)
      ≡ l.initial.changes.items ++ choice_changes l.chosen (nodes_between l.raw (l.prototype + 1) l.end);
  few : l.used ≤ l.n;
}
