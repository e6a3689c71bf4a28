use Rattle.std.proofs.Common.{sym}
use Rattle.e57_bits.proofs.BitLaws.{number-byte}
use Rattle.e57_packet.proofs.numbers.u8_at.Goals as goal

pub returns : goal.returns
returns c = sym (number-byte c.args.bytes.now c.args.at (c.type_inv.bytes c.args.at).fits)
