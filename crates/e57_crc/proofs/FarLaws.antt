-- The far tables hold what 4104 steps and more make of the numbers from 0 to 255.
use Rattle.std.proofs.Common.{◌≡◌, ℕ, zero, suc, ◌+◌, ◌*◌, ◌/◌, ◌%◌, ◌^◌, ◌<◌, map, get_or, refl, sym, ap, ◌∙◌, arith, zero-add, add-suc, one-add, one-mul, zero-mul, bit_xor}
use Rattle.std.specs.List.{range_with_len}
use Rattle.std.proofs.lemmas.List.FromFn.{get_or-map-range_with_len}
use Rattle.std.proofs.Math.Nat.{mod-one, mod-eq_of_lt}
use Rattle.std.proofs.lemmas.Nat.{mod_below, mod-pow-add, pow_pos}
use Rattle.std.specs.Int.Bits.{xor_shifted}
use Rattle.e57_crc.specs.declared.tables.TheConstants.{FAR_TABLES}
use Rattle.e57_crc.specs.Crc.{shifted}
use Rattle.e57_crc.specs.Steps.{step, steps}
use Rattle.e57_crc.proofs.StepLaws.{steps-zero, steps-suc, steps-xor, steps-add, steps-shifted}

-- The lowest k bits of x go in one after another, a bit 1 as the number one, with a step after each.
unfoldable fed_in : ℕ → ℕ → ℕ → ℕ
fed_in one zero x = 0
fed_in one (suc k) x = step (bit_xor (x / 2 ^ k % 2 * one) (fed_in one k x))

step-of_zero : step 0 ≡ 0
unfolding step shifted
step-of_zero = refl

steps-of_zero : (k : ℕ) → steps k 0 ≡ 0
steps-of_zero zero = steps-zero 0
steps-of_zero (suc k) = steps-suc k 0 ∙ ap step (steps-of_zero k) ∙ step-of_zero

-- a bit that comes down to the lowest place after k steps, and then n steps more
bit_comes : (n one k c : ℕ) → one ≡ steps n 1 → c < 2 → c * one ≡ steps (n + k) (c * 2 ^ k)
bit_comes n one k c e h = at_once c h ∙ ap (steps n) (sym (steps-shifted k c)) ∙ sym (steps-add n k (c * 2 ^ k))
  where
    at_once : (c : ℕ) → c < 2 → c * one ≡ steps n c
    at_once zero h = zero-mul one ∙ sym (steps-of_zero n)
    at_once (suc zero) h = one-mul one ∙ e
    at_once (suc (suc c)) h = absurd (omega arith)

fed_in-is : (n one k x : ℕ) → one ≡ steps n 1 → fed_in one k x ≡ steps (n + k) (x % 2 ^ k)
unfolding fed_in
fed_in-is n one zero x e = sym (ap (steps (n + 0)) (mod-one x) ∙ steps-of_zero (n + 0))
fed_in-is n one (suc k) x e =
    let top : ℕ = x / 2 ^ k % 2 in
    let whole : bit_xor (top * 2 ^ k) (x % 2 ^ k) ≡ x % 2 ^ suc k =
    xor_shifted top k (x % 2 ^ k) (mod_below x (2 ^ k) (pow_pos k)) ∙ sym (mod-pow-add x 1 k) ∙ ap (λ j. x % 2 ^ j) (one-add k) in
    ap (λ r. step (bit_xor r (fed_in one k x))) (bit_comes n one k top e (omega arith))
    ∙ ap (λ r. step (bit_xor (steps (n + k) (top * 2 ^ k)) r)) (fed_in-is n one k x e)
    ∙ ap step (sym (steps-xor (n + k) (top * 2 ^ k) (x % 2 ^ k)))
    ∙ sym (steps-suc (n + k) (bit_xor (top * 2 ^ k) (x % 2 ^ k)))
    ∙ ap (steps (suc (n + k))) whole
    ∙ ap (λ j. steps j (x % 2 ^ suc k)) (sym (add-suc n k))

-- the register 1 after 4096 steps
far_one : steps 4096 1 ≡ 0xbd6f_81f8
unfolding step steps shifted
far_one = refl

far_tables : FAR_TABLES ≡ map (λ j. steps (8 * (j / 256)) (fed_in 0xbd6f_81f8 8 (j % 256))) (range_with_len 0 1024)
unfolding step steps shifted fed_in
far_tables = refl

pub looked_up_far-is : (i z : ℕ) → i < 256 → z < 4 → get_or FAR_TABLES (256 * z + i) 0 ≡ steps (8 * (512 + z + 1)) i
looked_up_far-is i z h g =
    let j : ℕ = 256 * z + i in
    let table : j / 256 ≡ z = omega arith in
    let place : j % 256 ≡ i = omega arith in
    let within : j < 1024 = omega arith in
    let together : 8 * z + 4104 ≡ 8 * (512 + z + 1) = omega arith in
    ap (λ t. get_or t j 0) far_tables
    ∙ get_or-map-range_with_len (λ k. steps (8 * (k / 256)) (fed_in 0xbd6f_81f8 8 (k % 256))) 0 1024 j j 0 within (zero-add j)
    ∙ ap (λ k. steps (8 * k) (fed_in 0xbd6f_81f8 8 (j % 256))) table
    ∙ ap (λ x. steps (8 * z) (fed_in 0xbd6f_81f8 8 x)) place
    ∙ ap (steps (8 * z)) (fed_in-is 4096 0xbd6f_81f8 8 i (sym far_one) ∙ ap (steps 4104) (mod-eq_of_lt h))
    ∙ sym (steps-add (8 * z) 4104 i)
    ∙ ap (λ k. steps k i) together
