use Rattle.std.proofs.Common.{◌∙◌}
use Rattle.e57_bits.proofs.Reading.{little_number-bits}
use Rattle.e57_bits.proofs.u64_at.Goals as goal

pub returns : goal.returns
returns c = c.read_u64.ensures ∙ little_number-bits c.args.bytes.now (λ k. (c.type_inv.bytes k).fits) c.args.at 8
