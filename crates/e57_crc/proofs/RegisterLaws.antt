-- The register after some bits more.
use Rattle.std.proofs.Common.{◌≡◌, ℕ, zero, suc, ◌+◌, ◌*◌, ◌/◌, ◌%◌, ◌^◌, ◌<◌, List, length, get_or, refl, sym, ap, ◌∙◌, arith, add-zero, add-suc, bit_xor}
use Rattle.std.specs.Int.Bits.{xor_shr, xor_mod, xor_assoc, xor_comm, xor_zero_r, xor_shifted}
use Rattle.e57_bits.specs.Bits.{bit, number}
use Rattle.e57_bits.proofs.BitLaws.{bit-lt, number-zero, number-suc, number-lt, number-byte}
use Rattle.e57_crc.specs.Crc.{shifted, register, crc}
use Rattle.e57_crc.specs.Steps.{step, steps}
use Rattle.e57_crc.proofs.StepLaws.{steps-zero, steps-suc, steps-xor, steps-shifted}

-- one bit goes in as if it had been in the register
bit_goes_in : (r c : ℕ) → c < 2 → step (bit_xor r c) ≡ shifted r (bit_xor (r % 2) c)
unfolding step shifted
bit_goes_in r c h =
    let half : c / 2 ≡ 0 = omega arith in
    let same : c % 2 ≡ c = omega arith in
    rw (xor_shr r c 1, xor_mod r c 1, half, same, xor_zero_r (r / 2)) refl

register-suc : (b : List ℕ) (t : ℕ) → register b (suc t) ≡ step (bit_xor (register b t) (bit b t))
unfolding register
register-suc b t = sym (bit_goes_in (register b t) (bit b t) (bit-lt b t))

-- a bit above k others is that bit after k steps
bit_above : (k r n c : ℕ) → n < 2 ^ k → steps k (bit_xor r (n + 2 ^ k * c)) ≡ bit_xor (steps k (bit_xor r n)) c
bit_above k r n c h =
    let parts : n + 2 ^ k * c ≡ bit_xor n (c * 2 ^ k) = turned n (2 ^ k) c ∙ sym (xor_shifted c k n h) ∙ xor_comm (c * 2 ^ k) n in
    rw (parts, ← xor_assoc r n (c * 2 ^ k), steps-xor k (bit_xor r n) (c * 2 ^ k), steps-shifted k c) refl
  where
    turned : (n p c : ℕ) → n + p * c ≡ c * p + n
    turned n p c = grind arith

-- k bits at once
pub register-more : (b : List ℕ) (t k : ℕ) → register b (t + k) ≡ steps k (bit_xor (register b t) (number b t k))
register-more b t zero = rw (add-zero, number-zero b t, steps-zero (bit_xor (register b t) 0), xor_zero_r (register b t)) refl
register-more b t (suc k) =
    rw (add-suc, register-suc b (t + k), number-suc b t k, steps-suc k (bit_xor (register b t) (number b t k + 2 ^ k * bit b (t + k))), register-more b t k)
    (ap step (sym (bit_above k (register b t) (number b t k) (bit b (t + k)) (number-lt b t k))))

pub register-zero : (b : List ℕ) → register b 0 ≡ 4294967295
unfolding register
register-zero b = refl

-- the byte at i goes in
pub register-byte : (b : List ℕ) → ((k : ℕ) → get_or b k 0 < 256) → (i r s : ℕ) → r ≡ register b (8 * i) → s ≡ steps 8 (bit_xor r (get_or b i 0)) → s ≡ register b (8 * (i + 1))
register-byte b small i r s before e =
    let next : 8 * (i + 1) ≡ 8 * i + 8 = omega arith in
    rw (e, before, next, register-more b (8 * i) 8, number-byte b i (small i)) refl

-- the register r after k bits from t on, and then after j bits more
pub fed-more : (b : List ℕ) (r t k j : ℕ) → steps (k + j) (bit_xor r (number b t (k + j))) ≡ steps j (bit_xor (steps k (bit_xor r (number b t k))) (number b (t + k) j))
fed-more b r t k zero =
    rw (add-zero, number-zero b (t + k), steps-zero (bit_xor (steps k (bit_xor r (number b t k))) 0), xor_zero_r (steps k (bit_xor r (number b t k)))) refl
fed-more b r t k (suc j) =
    let place : t + k + j ≡ t + (k + j) = omega arith in
    let before : ℕ = steps k (bit_xor r (number b t k)) in
    ap (λ n. steps n (bit_xor r (number b t n))) (add-suc k j)
    ∙ ap (λ n. steps (suc (k + j)) (bit_xor r n)) (number-suc b t (k + j))
    ∙ steps-suc (k + j) (bit_xor r (number b t (k + j) + 2 ^ (k + j) * bit b (t + (k + j))))
    ∙ ap step (bit_above (k + j) r (number b t (k + j)) (bit b (t + (k + j))) (number-lt b t (k + j)))
    ∙ ap (λ x. step (bit_xor x (bit b (t + (k + j))))) (fed-more b r t k j)
    ∙ ap (λ i. step (bit_xor (steps j (bit_xor before (number b (t + k) j))) (bit b i))) (sym place)
    ∙ ap step (sym (bit_above j before (number b (t + k) j) (bit b (t + k + j)) (number-lt b (t + k) j)))
    ∙ sym (steps-suc j (bit_xor before (number b (t + k) j + 2 ^ j * bit b (t + k + j))))
    ∙ ap (λ n. steps (suc j) (bit_xor before n)) (sym (number-suc b (t + k) j))

-- the eight bytes at k go in, as two words
pub eight-words : (b : List ℕ) (k r low high s : ℕ) → low ≡ number b (8 * k) 32 → high ≡ number b (8 * (k + 4)) 32
    → s ≡ steps 32 (bit_xor (steps 32 (bit_xor r low)) high) → s ≡ steps 64 (bit_xor r (number b (8 * k) 64))
eight-words b k r low high s first second e =
    let middle : 8 * (k + 4) ≡ 8 * k + 32 = omega arith in
    rw (e, first, second, middle) (sym (fed-more b r (8 * k) 32 32))

-- the eight bytes from 8 * i on go in
pub register-eight : (b : List ℕ) (i r s : ℕ) → r ≡ register b (8 * (8 * i)) → s ≡ steps 64 (bit_xor r (number b (8 * (8 * i)) 64)) → s ≡ register b (8 * (8 * (i + 1)))
register-eight b i r s before e =
    let next : 8 * (8 * (i + 1)) ≡ 8 * (8 * i) + 64 = omega arith in
    rw (e, before, next, register-more b (8 * (8 * i)) 64) refl

-- the register 0 after no bits, and after k bits from t on and then j bits more
pub apart-zero : (b : List ℕ) (t : ℕ) → 0 ≡ steps 0 (number b t 0)
apart-zero b t = sym (ap (steps 0) (number-zero b t) ∙ steps-zero 0)

pub apart-more : (b : List ℕ) (t k j at r s all : ℕ) → r ≡ steps k (number b t k) → at ≡ t + k → all ≡ k + j → s ≡ steps j (bit_xor r (number b at j)) → s ≡ steps all (number b t all)
apart-more b t k j at r s all before place sum e = rw (e, before, place, sum) (sym (fed-more b 0 t k j))

-- the register after t bits, and the register 0 after the k bits behind them
pub register-joined : (b : List ℕ) (t k first far last : ℕ) → first ≡ register b t → far ≡ steps k first → last ≡ steps k (number b t k) → bit_xor far last ≡ register b (t + k)
register-joined b t k first far last before shifted_on beside =
    rw (shifted_on, before, beside, register-more b t k, steps-xor k (register b t) (number b t k)) refl

pub crc-is : (b : List ℕ) → crc b ≡ bit_xor (register b (8 * length b)) 4294967295
unfolding crc
crc-is b = refl
