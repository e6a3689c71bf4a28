-- Steps are linear, and a number that is shifted left by j comes back after j steps.
use Rattle.std.proofs.Common.{◌≡◌, ℕ, zero, suc, ◌+◌, ◌*◌, ◌/◌, ◌%◌, ◌^◌, ◌<◌, refl, sym, ap, ◌∙◌, arith, zero-add, bit_and, bit_xor}
use Rattle.std.proofs.Math.Nat.{pow-suc, div-add-mod', div-div-eq-div-mul, div-one}
use Rattle.std.specs.Int.Bits.{and_mask, xor_zero_l, xor_shr, xor_mod, xor_assoc, xor_comm, xor_zero_r, xor_shifted}
use Rattle.e57_crc.specs.Crc.{shifted}
use Rattle.e57_crc.specs.Steps.{step, steps}

xor_swapped : (a b c d : ℕ) → bit_xor (bit_xor a b) (bit_xor c d) ≡ bit_xor (bit_xor a c) (bit_xor b d)
xor_swapped a b c d =
    xor_assoc a b (bit_xor c d)
    ∙ ap (bit_xor a) (sym (xor_assoc b c d) ∙ ap (λ x. bit_xor x d) (xor_comm b c) ∙ xor_assoc c b d)
    ∙ sym (xor_assoc a c (bit_xor b d))

-- the polynomial is put in for the exclusive or of two bits where it is for one of them
polynomial_xor : (x y : ℕ) → x < 2 → y < 2 → bit_xor x y * 0x82F6_3B78 ≡ bit_xor (x * 0x82F6_3B78) (y * 0x82F6_3B78)
polynomial_xor zero zero h g = refl
polynomial_xor zero (suc zero) h g = refl
polynomial_xor (suc zero) zero h g = refl
polynomial_xor (suc zero) (suc zero) h g = refl
polynomial_xor zero (suc (suc y)) h g = absurd (omega arith)
polynomial_xor (suc zero) (suc (suc y)) h g = absurd (omega arith)
polynomial_xor (suc (suc x)) y h g = absurd (omega arith)

-- one step with the lowest bit written out
step-is : (r : ℕ) → step r ≡ bit_xor (r / 2) (r % 2 * 0x82F6_3B78)
unfolding step shifted
step-is r = refl

pub step-xor : (a b : ℕ) → step (bit_xor a b) ≡ bit_xor (step a) (step b)
step-xor a b =
    rw (step-is (bit_xor a b), step-is a, step-is b, xor_shr a b 1, xor_mod a b 1, polynomial_xor (a % 2) (b % 2) (omega arith) (omega arith))
    (xor_swapped (a / 2) (b / 2) (a % 2 * 0x82F6_3B78) (b % 2 * 0x82F6_3B78))

pub steps-zero : (r : ℕ) → steps 0 r ≡ r
unfolding steps
steps-zero r = refl

pub steps-suc : (k r : ℕ) → steps (suc k) r ≡ step (steps k r)
unfolding steps
steps-suc k r = refl

pub steps-xor : (k a b : ℕ) → steps k (bit_xor a b) ≡ bit_xor (steps k a) (steps k b)
steps-xor zero a b = rw (steps-zero (bit_xor a b), steps-zero a, steps-zero b) refl
steps-xor (suc k) a b = rw (steps-suc k (bit_xor a b), steps-suc k a, steps-suc k b, steps-xor k a b) (step-xor (steps k a) (steps k b))

pub steps-add : (k j r : ℕ) → steps (k + j) r ≡ steps k (steps j r)
steps-add zero j r = rw (zero-add, steps-zero (steps j r)) refl
steps-add (suc k) j r =
    let one_more : suc k + j ≡ suc (k + j) = omega arith in
    rw (one_more, steps-suc (k + j) r, steps-suc k (steps j r)) (ap step (steps-add k j r))

step-twice : (q : ℕ) → step (q * 2) ≡ q
step-twice q =
    let half : q * 2 / 2 ≡ q = omega arith in
    let even : q * 2 % 2 ≡ 0 = omega arith in
    rw (step-is (q * 2), half, even) (xor_zero_r q)

-- what was shifted left comes back
pub steps-shifted : (j q : ℕ) → steps j (q * 2 ^ j) ≡ q
steps-shifted zero q = rw (steps-zero (q * 2 ^ 0)) (omega arith)
steps-shifted (suc j) q =
    let twice : q * 2 ^ suc j ≡ q * 2 * 2 ^ j = rw (pow-suc 2 j) (grind arith) in
    rw (twice, steps-suc j (q * 2 * 2 ^ j), steps-shifted j (q * 2)) (step-twice q)

-- the lowest byte and the others go their own ways
pub steps-byte : (k y : ℕ) → steps (k + 8) y ≡ bit_xor (steps (k + 8) (y % 256)) (steps k (y / 256))
steps-byte k y =
    let parts : bit_xor (y / 256 * 2 ^ 8) (y % 256) ≡ y = xor_shifted (y / 256) 8 (y % 256) (omega arith) ∙ div-add-mod' y 256 in
    let high : steps (k + 8) (y / 256 * 2 ^ 8) ≡ steps k (y / 256) = steps-add k 8 (y / 256 * 2 ^ 8) ∙ ap (steps k) (steps-shifted 8 (y / 256)) in
    ap (steps (k + 8)) (sym parts)
    ∙ steps-xor (k + 8) (y / 256 * 2 ^ 8) (y % 256)
    ∙ ap (λ x. bit_xor x (steps (k + 8) (y % 256))) high
    ∙ xor_comm (steps k (y / 256)) (steps (k + 8) (y % 256))

-- the lowest byte of y / d goes in, beside what others gave
byte_beside : (j k d y others : ℕ) → j ≡ k + 8 → bit_xor others (steps j (y / d)) ≡ bit_xor (bit_xor others (steps j (bit_and (y / d) 255))) (steps k (y / (d * 256)))
byte_beside j k d y others e =
    rw (e, steps-byte k (y / d), ← and_mask (y / d) 8, div-div-eq-div-mul y d 256)
    (sym (xor_assoc others (steps (k + 8) (bit_and (y / d) 255)) (steps k (y / (d * 256)))))

-- a register of one byte
pub after_byte-looked_up : (y r : ℕ) → r ≡ steps 8 (bit_and y 255) → bit_xor r (y / 256) ≡ steps 8 y
after_byte-looked_up y r e = rw (e, and_mask y 8, steps-byte 0 y, steps-zero (y / 256)) refl

-- a register of four bytes, of which each goes its own way
pub after_four-looked_up : (z y a b c d : ℕ)
    → a ≡ steps (8 * (z + 3 + 1)) (bit_and y 255)
    → b ≡ steps (8 * (z + 2 + 1)) (bit_and (y / 2 ^ 8) 255)
    → c ≡ steps (8 * (z + 1 + 1)) (bit_and (y / 2 ^ 16) 255)
    → d ≡ steps (8 * (z + 1)) (y / 2 ^ 24)
    → bit_xor (bit_xor (bit_xor a b) c) d ≡ steps (8 * (z + 4)) y
after_four-looked_up z y a b c d pa pb pc pd =
    let width : 8 * (z + 4) ≡ 8 * (z + 3 + 1) = omega arith in
    rw (width, pa, pb, pc, pd)
    (sym
    (ap (steps (8 * (z + 3 + 1))) (sym (div-one y))
    ∙ sym (xor_zero_l (steps (8 * (z + 3 + 1)) (y / 1)))
    ∙ byte_beside (8 * (z + 3 + 1)) (8 * (z + 2 + 1)) 1 y 0 (omega arith)
    ∙ ap (λ x. bit_xor x (steps (8 * (z + 2 + 1)) (y / 2 ^ 8))) (xor_zero_l (steps (8 * (z + 3 + 1)) (bit_and (y / 1) 255)) ∙ ap (λ x. steps (8 * (z + 3 + 1)) (bit_and x 255)) (div-one y))
    ∙ byte_beside (8 * (z + 2 + 1)) (8 * (z + 1 + 1)) (2 ^ 8) y _ (omega arith)
    ∙ byte_beside (8 * (z + 1 + 1)) (8 * (z + 1)) (2 ^ 16) y _ (omega arith)))

-- eight bytes as two words: the first of them, x, has 32 steps more before it
pub steps-two_words : (x y : ℕ) → bit_xor (steps 32 y) (steps 64 x) ≡ steps 32 (bit_xor (steps 32 x) y)
steps-two_words x y = rw (steps-xor 32 (steps 32 x) y, ← steps-add 32 32 x) (xor_comm (steps 32 y) (steps 64 x))
