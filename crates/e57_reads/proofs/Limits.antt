-- Limits that need all of so many bits.
use Rattle.std.proofs.Common.{◌≡◌, ℕ, ◌-◌, ◌/◌, ◌^◌, ◌<◌, ◌≤◌, arith, subst, ⊎_elim}
use Rattle.std.specs.Prelude.{ℤ}
use Rattle.std.specs.Int.{int_gap}
use Rattle.std.proofs.Math.Pow.{pow_mono}
use Rattle.std.proofs.lemmas.Bool.{cases_lt}
use Rattle.e57_layout.specs.Widths.{width}
use Rattle.e57_layout.proofs.Laws.Widths.{width-holds, width-least}
use Rattle.e57_stream.proofs.Ranges.{highest_bit}

pub width-all : (low high : ℤ) (w gap : ℕ) → 0 < w → w ≤ 64 → gap ≡ int_gap low high → gap / 2 ^ (w - 1) ≡ 1 → w ≡ width low high
width-all low high w gap some most is one =
    let (least, below) = highest_bit gap w some one in
    let powers : 2 ^ w ≤ 2 ^ 64 = pow_mono most in
    let under : int_gap low high < 2 ^ w = subst (λ (n : ℕ). n < 2 ^ w) is below in
    let above : 2 ^ (w - 1) ≤ int_gap low high = subst (λ (n : ℕ). 2 ^ (w - 1) ≤ n) is least in
    let holds = width-holds low high (omega (arith, under, powers)) in
    let few = width-least low high w under in
    ⊎_elim
    (λ (fewer : width low high < w).
    let lower : 2 ^ width low high ≤ 2 ^ (w - 1) = pow_mono (omega (arith, fewer)) in
    absurd (omega (arith, lower, holds, above)))
    (λ (enough : w ≤ width low high). omega (arith, few, enough))
    (cases_lt (width low high) w)
