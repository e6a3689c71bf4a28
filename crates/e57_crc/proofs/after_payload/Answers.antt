use Rattle.std.proofs.Common.{◌≡◌, ◌+◌, ◌*◌, ◌∙◌, sym, refl, ap, arith, bit_xor}
use Rattle.e57_crc.specs.Crc.{register}
use Rattle.e57_crc.specs.Steps.{steps}
use Rattle.e57_crc.proofs.RegisterLaws.{register-zero, register-eight, apart-zero, apart-more, register-joined}
use Rattle.e57_crc.proofs.after_payload.Goals as goal

pub loop-i-init : goal.loop-i-init
loop-i-init c = (sym (register-zero c.args.payload.now), apart-zero c.args.payload.now 4032)

pub loop-i-preserved : goal.loop-i-preserved
loop-i-preserved c = (
  register-eight c.args.payload.now c.loop-i.i c.loop-i.first c.after_eight-first.result c.loop-i.invariant.0 c.after_eight-first.ensures,
  apart-more c.args.payload.now 4032 (8 * (8 * c.loop-i.i)) 64 (8 * (504 + 8 * c.loop-i.i)) c.loop-i.last c.after_eight-last.result _
      c.loop-i.invariant.1 (omega arith) (omega arith) c.after_eight-last.ensures,
)

pub returns : goal.returns
returns c =
    let ended : c.loop-i.i ≡ 63 = omega (arith, c.loop-i-test.false) in
    let first : c.loop-i.first ≡ register c.args.payload.now 4032 = c.loop-i.invariant.0 ∙ ap (λ i. register c.args.payload.now (8 * (8 * i))) ended in
    register-joined c.args.payload.now 4032 4128 c.loop-i.first c.after_four_far.result c.after_four.result first c.after_four_far.ensures
    (apart-more c.args.payload.now 4032 4096 32 8128 c.after_eight-last-2.result c.after_four.result 4128
    (apart-more c.args.payload.now 4032 (8 * (8 * c.loop-i.i)) 64 8064 c.loop-i.last c.after_eight-last-2.result 4096
    c.loop-i.invariant.1 (omega arith) (omega arith) c.after_eight-last-2.ensures)
    refl refl (c.after_four.ensures ∙ ap (λ w. steps 32 (bit_xor c.after_eight-last-2.result w)) c.u32_at.ensures))
