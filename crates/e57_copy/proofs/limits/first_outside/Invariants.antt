use Rattle.std.specs.Prelude.{map, take}
use Rattle.e57_layout.specs.Values.{integers, whole}
use Rattle.e57_layout.specs.Items.{AreItems}
use Rattle.e57_copy.proofs.limits.first_outside.Given as goal

abbrev pub invariant-loop-k : goal.invariant-loop-k
invariant-loop-k l = AreItems (integers l.low l.high) (map whole (take l.k l.items))
