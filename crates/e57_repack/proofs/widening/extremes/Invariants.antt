use Rattle.std.proofs.Common.{◌≡◌, ◌≤ℤ◌, map, take, Some}
use Rattle.e57_layout.specs.Values.{whole}
use Rattle.e57_plain.specs.Tight.{range_of}
use Rattle.e57_repack.proofs.widening.extremes.Given as goal

abbrev pub invariant-loop-k : goal.invariant-loop-k
invariant-loop-k l = record {
  range : range_of (map whole (take l.k l.items)) ≡ Some (l.low, l.high);
  ordered : l.low ≤ℤ l.high;
}
