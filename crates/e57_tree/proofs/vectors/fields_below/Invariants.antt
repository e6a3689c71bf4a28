use Rattle.std.proofs.Common.{◌≡◌, ◌+◌, ◌-◌, ◌≤◌}
use Rattle.e57_tree.proofs.Rows.{row, field_count}
use Rattle.e57_tree.proofs.vectors.fields_below.Given as goal

abbrev pub invariant-loop-below : goal.invariant-loop-below
invariant-loop-below l = record {
  counted : l.count + field_count (row l.raw l.below (l.end - l.below)) ≡ field_count (row l.raw (l.n + 1) (l.end - (l.n + 1)));
  few : l.count ≤ l.below;
}
