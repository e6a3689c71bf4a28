use Rattle.std.proofs.Common.{◌≡◌, ◌*◌}
use Rattle.e57_bits.specs.Bits.{number}
use Rattle.e57_crc.specs.Crc.{register}
use Rattle.e57_crc.specs.Steps.{steps}
use Rattle.e57_crc.proofs.after_payload.Given as goal

abbrev pub invariant-loop-i : goal.invariant-loop-i
invariant-loop-i l =
    (l.first ≡ register l.payload (8 * (8 * l.i)))
    × (l.last ≡ steps (8 * (8 * l.i)) (number l.payload 4032 (8 * (8 * l.i))))
