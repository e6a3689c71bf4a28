use Rattle.std.proofs.Common.{◌*◌, ◌∙◌, sym, ap, bit_xor}
use Rattle.e57_crc.specs.Crc.{register}
use Rattle.e57_crc.proofs.RegisterLaws.{register-zero, register-eight, crc-is}
use Rattle.e57_crc.proofs.crc32c.Goals as goal

pub loop-i-init : goal.loop-i-init
loop-i-init c = sym (register-zero c.args.bytes.now)

pub loop-i-preserved : goal.loop-i-preserved
loop-i-preserved c =
    register-eight c.args.bytes.now c.loop-i.i c.loop-i.so_far c.after_eight-so_far.result c.loop-i.invariant c.after_eight-so_far.ensures

pub returns : goal.returns
returns c = ap (λ r. bit_xor r 4294967295) c.after_rest.ensures ∙ sym (crc-is c.args.bytes.now)

pub returns-then-bytes-eq-PAYLOAD : goal.returns-then-bytes-eq-PAYLOAD
returns-then-bytes-eq-PAYLOAD c =
    ap (λ r. bit_xor r 4294967295) (c.after_payload.ensures ∙ ap (λ n. register c.args.bytes.now (8 * n)) (sym c.if-bytes-eq-PAYLOAD.true))
    ∙ sym (crc-is c.args.bytes.now)
