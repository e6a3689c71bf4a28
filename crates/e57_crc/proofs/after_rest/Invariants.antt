use Rattle.std.proofs.Common.{◌≡◌, ◌*◌}
use Rattle.e57_crc.specs.Crc.{register}
use Rattle.e57_crc.proofs.after_rest.Given as goal

abbrev pub invariant-loop-i : goal.invariant-loop-i
invariant-loop-i l = l.so_far ≡ register l.bytes (8 * l.i)
