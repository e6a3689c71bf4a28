use Rattle.std.proofs.Common.{◌≡◌, ◌+◌, ◌≤◌, drop}
use Rattle.e57_decimal.specs.Reading.{number_after}
use Rattle.e57_decimal.specs.Gathering.{IsGathered, total}
use Rattle.e57_decimal.proofs.gathering.with_digits.Given as goal

abbrev pub invariant-loop-b : goal.invariant-loop-b
invariant-loop-b l = record {
  kept : IsGathered l.number;
  few : l.number.zeros ≤ l.initial.number.zeros + l.b-index;
  rest : number_after (total l.number) (drop l.b-index l.digits) ≡ number_after (total l.initial.number) l.digits;
}
