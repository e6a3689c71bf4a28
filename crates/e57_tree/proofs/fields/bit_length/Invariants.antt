use Rattle.std.proofs.Common.{◌≡◌, ◌+◌, ◌-◌, ◌^◌, ◌<◌, ◌≤◌}
use Rattle.e57_layout.specs.Widths.{bit_length}
use Rattle.e57_tree.proofs.fields.bit_length.Given as goal

abbrev pub invariant-loop-rest : goal.invariant-loop-rest
invariant-loop-rest l = record {
  same : l.bits + bit_length (64 - l.bits) l.rest ≡ bit_length 64 l.number;
  few : l.bits ≤ 64;
  small : l.rest < 2 ^ (64 - l.bits);
}

abbrev pub decreases-loop-rest : goal.decreases-loop-rest
decreases-loop-rest l = l.rest
