use Rattle.std.proofs.Common.{◌≡◌, ◌^◌, ◌<◌, drop}
use Rattle.e57_decimal.specs.Reading.{number_after}
use Rattle.e57_decimal.proofs.parts.number.Given as goal

abbrev pub invariant-loop-b : goal.invariant-loop-b
invariant-loop-b l = record {
  small : l.number < 10 ^ l.b-index;
  rest : number_after l.number (drop l.b-index l.digits) ≡ number_after 0 l.digits;
}
