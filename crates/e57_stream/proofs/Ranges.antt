-- Limits that need all of so many bits.
use Rattle.std.proofs.Common.{◌≡◌, ℕ, suc, ◌+◌, ◌-◌, ◌*◌, ◌/◌, ◌%◌, ◌^◌, ◌<◌, ◌≤◌, sym, ap, ◌∙◌, arith, ⊎_elim}
use Rattle.std.specs.Prelude.{ℤ, ◌≤ℤ◌}
use Rattle.std.specs.Int.{int_gap}
use Rattle.std.proofs.Math.Nat.{pow-suc}
use Rattle.std.proofs.Math.Pow.{pow_mono}
use Rattle.std.proofs.lemmas.Nat.{pow_pos}
use Rattle.std.proofs.lemmas.Bool.{cases_lt}
use Rattle.e57_layout.specs.Widths.{width}
use Rattle.e57_layout.proofs.Laws.Widths.{width-holds, width-least}
use Rattle.e57_stream.specs.Integers.{IsRange}

-- a number of which the highest of w bits is one
pub highest_bit : (n w : ℕ) → 0 < w → n / 2 ^ (w - 1) ≡ 1 → (2 ^ (w - 1) ≤ n) × (n < 2 ^ w)
highest_bit n w some one =
    let power : 0 < 2 ^ (w - 1) = pow_pos (w - 1) in
    let parts : 2 ^ (w - 1) * (n / 2 ^ (w - 1)) ≡ 2 ^ (w - 1) * 1 = ap (λ (q : ℕ). 2 ^ (w - 1) * q) one in
    let rest : n % 2 ^ (w - 1) < 2 ^ (w - 1) = omega (arith, power) in
    let all : 2 ^ (w - 1) * (n / 2 ^ (w - 1)) + n % 2 ^ (w - 1) ≡ n = omega arith in
    let next : suc (w - 1) ≡ w = omega (arith, some) in
    let twice : 2 ^ w ≡ 2 ^ (w - 1) * 2 = ap (λ (i : ℕ). 2 ^ i) (sym next) ∙ pow-suc 2 (w - 1) in
    (omega (arith, parts, rest, all), omega (arith, parts, rest, all, twice))

width-all : (low high : ℤ) (w : ℕ) → 0 < w → w ≤ 64 → int_gap low high / 2 ^ (w - 1) ≡ 1 → w ≡ width low high
width-all low high w some most one =
    let (least, below) = highest_bit (int_gap low high) w some one in
    let powers : 2 ^ w ≤ 2 ^ 64 = pow_mono most in
    let holds = width-holds low high (omega (arith, below, powers)) in
    let few = width-least low high w below in
    ⊎_elim
    (λ (fewer : width low high < w).
    let lower : 2 ^ width low high ≤ 2 ^ (w - 1) = pow_mono (omega (arith, fewer)) in
    absurd (omega (arith, lower, holds, least)))
    (λ (enough : w ≤ width low high). omega (arith, few, enough))
    (cases_lt (width low high) w)

pub is_range : (low high : ℤ) (w gap : ℕ) → low ≤ℤ high → 0 < w → w ≤ 64 → gap ≡ int_gap low high → gap / 2 ^ (w - 1) ≡ 1 → IsRange (record { low = low; high = high; width = w })
is_range low high w gap order some most is one = record {
  order = order;
  width_is = width-all low high w some most (ap (λ (n : ℕ). n / 2 ^ (w - 1)) (sym is) ∙ one);
  some = some;
}
