use Rattle.std.proofs.Common.{◌∙◌, sym, ap, bit_xor}
use Rattle.e57_crc.proofs.RegisterLaws.{register-zero, crc-is}
use Rattle.e57_crc.proofs.tests.plain.Goals as goal

pub after_rest-requires-clause-so_far : goal.after_rest-requires-clause-so_far
after_rest-requires-clause-so_far c = sym (register-zero c.args.bytes.now)

pub returns : goal.returns
returns c = ap (λ r. bit_xor r 4294967295) c.after_rest.ensures ∙ sym (crc-is c.args.bytes.now)
