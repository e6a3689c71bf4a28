use Rattle.std.proofs.Common.{◌+◌, ◌*◌, ◌/◌, ◌%◌, ◌<◌, ◌≤◌, ◌^◌, ◌≡◌, ℕ, List, get_or, sym, ap, ◌∙◌, arith, lit<}
use Rattle.std.proofs.Math.Nat.{pow-le-pow_right}
use Rattle.std.proofs.lemmas.Nat.{mod_below}
use Rattle.e57_bits.specs.Bits.{number, bit}
use Rattle.e57_bits.proofs.BitLaws.{number-zero, number-lt, bit-byte}
use Rattle.e57_lanes.proofs.Fields.{one_more}
use Rattle.e57_lanes.proofs.plain.number_bit_by_bit.Goals as goal

-- the bit that is read
read : (b : List ℕ) (at shift j x : ℕ) → x ≡ get_or b (at + (shift + j) / 8) 0 / 2 ^ ((shift + j) % 8) % 2 → x ≡ bit b (8 * at + shift + j)
read b at shift j x e =
    e
    ∙ sym (bit-byte b (at + (shift + j) / 8) ((shift + j) % 8) (mod_below (shift + j) 8 (lit< tt)))
    ∙ ap (bit b) (omega arith)

fits : (b : List ℕ) (t w n : ℕ) → w ≤ 64 → n ≡ number b t w → n < 2 ^ 64
fits b t w n h e = rw e (omega (arith, number-lt b t w, pow-le-pow_right {n = 2} (lit< tt) {i = w} {j = 64} h))

pub loop-j-init : goal.loop-j-init
loop-j-init c = sym (number-zero c.args.bytes.now (8 * c.args.at + c.args.shift))

pub loop-j-preserved : goal.loop-j-preserved
loop-j-preserved c =
    one_more c.args.bytes.now (8 * c.args.at + c.args.shift) c.loop-j.j c.loop-j.so_far c.bit_of-bit.result c.loop-j.invariant
    (read c.args.bytes.now c.args.at c.args.shift c.loop-j.j c.bit_of-bit.result c.bit_of-bit.ensures) (omega arith)

pub overflow_add-so_far : goal.overflow_add-so_far
overflow_add-so_far c =
    let next = one_more c.args.bytes.now (8 * c.args.at + c.args.shift) c.loop-j.j c.loop-j.so_far c.bit_of-bit.result c.loop-j.invariant
    (read c.args.bytes.now c.args.at c.args.shift c.loop-j.j c.bit_of-bit.result c.bit_of-bit.ensures) (omega arith) in
    record { fits = fits c.args.bytes.now (8 * c.args.at + c.args.shift) (c.loop-j.j + 1) _ (omega arith) next }
