use Rattle.std.proofs.Common.{refl, arith}
use Rattle.e57_layout.specs.Widths.{bit_length, width}
use Rattle.e57_blocks.proofs.tests.bits_field.Goals as goal

pub returns : goal.returns
unfolding width bit_length
returns c = record { valid = record { limits = omega arith; width = refl } }
