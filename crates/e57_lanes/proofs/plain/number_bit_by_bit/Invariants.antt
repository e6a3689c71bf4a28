use Rattle.std.proofs.Common.{◌≡◌, ◌+◌, ◌*◌}
use Rattle.e57_bits.specs.Bits.{number}
use Rattle.e57_lanes.proofs.plain.number_bit_by_bit.Given as goal

abbrev pub invariant-loop-j : goal.invariant-loop-j
invariant-loop-j l = l.so_far ≡ number l.bytes (8 * l.at + l.shift) l.j
