use Rattle.std.proofs.Common.{bit_xor}
use Rattle.e57_crc.proofs.StepLaws.{after_byte-looked_up}
use Rattle.e57_crc.proofs.after_byte.Goals as goal

pub returns : goal.returns
returns c = after_byte-looked_up (bit_xor c.args.start c.args.byte) c.looked_up.result c.looked_up.ensures
