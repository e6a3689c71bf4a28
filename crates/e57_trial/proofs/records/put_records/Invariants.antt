use Rattle.std.proofs.Common.{◌-◌, ◌≤◌}
use Rattle.e57_copy.specs.Adding.{AddsRecords}
use Rattle.e57_trial.specs.Content.{columns_from}
use Rattle.e57_trial.proofs.records.put_records.Given as goal

abbrev pub invariant-loop-at : goal.invariant-loop-at
invariant-loop-at g l = record {
  within : l.at ≤ l.count;
  adds : AddsRecords g.T.Target.view l.at (columns_from l.start 0 l.at) l.fn.cloud l.fn.out l.cloud l.out;
}

abbrev pub decreases-loop-at : goal.decreases-loop-at
decreases-loop-at g l = l.count - l.at
