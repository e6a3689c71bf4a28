use Rattle.std.proofs.Common.{◌≡◌, ◌<◌, ◌^◌, drop}
use Rattle.e57_tree.proofs.Digits.{found_after}
use Rattle.e57_tree.proofs.numbers.digits.Given as goal

abbrev pub invariant-loop-b : goal.invariant-loop-b
invariant-loop-b l = record {
  same : found_after l.number (drop l.b-index l.text) ≡ found_after 0 l.text;
  small : l.number < 2 ^ 64;
}
