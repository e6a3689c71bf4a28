-- Hexadecimal digits.
use Rattle.std.specs.Prelude.{◌≡◌, ℕ, ◌+◌, ◌-◌, ◌*◌, ◌/◌, ◌%◌, ◌^◌, ◌<◌, map, get_or}
use Rattle.std.specs.List.{range_with_len}
use Rattle.std.specs.Int.Bits.{bit_and}
use Rattle.std.proofs.Common.{refl, ap, sym, ◌∙◌, arith, zero-add}
use Rattle.std.proofs.Math.Nat.{div-div-eq-div-mul}
use Rattle.std.proofs.lemmas.List.FromFn.{get_or-map-range_with_len}
use Rattle.std.proofs.lemmas.Nat.{and_mask, pow-add}
use Rattle.e57_rows.specs.Cells.{hex_digit}
use Rattle.e57_rows.specs.declared.hexadecimal.TheConstants.{PAIRS}

-- digit j of the numbers below 256, one number after another
digit_in : ℕ → ℕ
digit_in j = hex_digit (j / 2 / 16 ^ (1 - j % 2) % 16)

pairs : PAIRS ≡ map digit_in (range_with_len 0 512)
unfolding digit_in
pairs = refl

pair_of : (b k : ℕ) → b < 256 → k < 2 → get_or PAIRS (2 * b + k) 0 ≡ hex_digit (b / 16 ^ (1 - k) % 16)
unfolding digit_in
pair_of b k below two =
    let j : ℕ = 2 * b + k in
    let half : j / 2 ≡ b = omega arith in
    let parity : j % 2 ≡ k = omega arith in
    let within : j < 512 = omega arith in
    ap (λ t. get_or t j 0) pairs
    ∙ get_or-map-range_with_len digit_in 0 512 j j 0 within (zero-add j)
    ∙ ap (λ n. hex_digit (n / 16 ^ (1 - j % 2) % 16)) half
    ∙ ap (λ n. hex_digit (b / 16 ^ (1 - n) % 16)) parity

-- the digits of the lowest eight bits of w
pub pair_low : (w : ℕ) → get_or PAIRS (2 * bit_and w 255 + 1) 0 ≡ hex_digit (w % 16)
pair_low w =
    let same : w % 256 / 1 % 16 ≡ w % 16 = omega arith in
    ap (λ (d : ℕ). get_or PAIRS (2 * d + 1) 0) (and_mask w 8) ∙ pair_of (w % 256) 1 (omega arith) (omega arith) ∙ ap hex_digit same

pub pair_high : (word at_bit : ℕ) → get_or PAIRS (2 * bit_and (word / 2 ^ at_bit) 255) 0 ≡ hex_digit (word / 2 ^ (at_bit + 4) % 16)
pair_high word at_bit =
    let above : word / 2 ^ at_bit / 16 ≡ word / 2 ^ (at_bit + 4) = div-div-eq-div-mul word (2 ^ at_bit) 16 ∙ ap (λ (d : ℕ). word / d) (sym (pow-add 2 at_bit 4)) in
    ap (λ (d : ℕ). get_or PAIRS (2 * d) 0) (and_mask (word / 2 ^ at_bit) 8) ∙ first (word / 2 ^ at_bit) ∙ ap (λ (d : ℕ). hex_digit (d % 16)) above
  where
    first : (w : ℕ) → get_or PAIRS (2 * (w % 256)) 0 ≡ hex_digit (w / 16 % 16)
    first w =
        let there : 2 * (w % 256) ≡ 2 * (w % 256) + 0 = omega arith in
        let same : w % 256 / 16 % 16 ≡ w / 16 % 16 = omega arith in
        ap (λ (d : ℕ). get_or PAIRS d 0) there ∙ pair_of (w % 256) 0 (omega arith) (omega arith) ∙ ap hex_digit same
