use Rattle.std.proofs.Common.{◌≡◌, ◌<◌, ◌^◌, drop}
use Rattle.e57_pieces.specs.Words.{numeral_from}
use Rattle.e57_import.proofs.cells.numeral.Given as goal

abbrev pub invariant-loop-b : goal.invariant-loop-b
invariant-loop-b l = record {
  value : numeral_from l.base l.number (drop l.b-index l.digits) ≡ numeral_from l.base 0 l.digits;
  small : l.number < 64 ^ l.b-index;
}
