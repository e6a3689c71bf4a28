-- The decimal of a fraction.
use Rattle.std.specs.Prelude.{◌≡◌, ℕ, ◌+◌, ◌<◌, ◌⊎◌, ℤ, pos, neg_ℤ, ◌+ℤ◌, ◌≤ℤ◌, unsigned_abs, Bool, Option, MatchOption}
use Rattle.e57_decimal.specs.declared.values.Decimal.{Decimal}
use Rattle.e57_decimal.specs.Fractions.{Fraction, IsSame, IsDecimal, shift_limit, signed, fraction_of}

-- s is the shift of 10 ^ up / 10 ^ down
abbrev pub IsShift : ℕ → ℕ → ℤ → Type 0
IsShift up down s =
    (neg_ℤ (pos shift_limit) ≤ℤ s) × (s ≤ℤ pos shift_limit)
    × (unsigned_abs (s +ℤ pos shift_limit) + down ≡ up + shift_limit)

-- no shift is so great or so small
abbrev pub IsFar : ℕ → ℕ → Type 0
IsFar up down = (up + shift_limit < down) ⊎ (down + shift_limit < up)

-- a magnitude with a sign, times 10 ^ up / 10 ^ down
abbrev pub signed_fraction : Bool → ℕ → ℕ → ℕ → Fraction
signed_fraction negative magnitude up down = record { whole = signed negative magnitude; up = up; down = down }

-- what is answered of a fraction: its decimal, none if it has none
abbrev pub Decides : Fraction → Option Decimal → Type 0
Decides x result =
    MatchOption result
    ((d : Decimal) → IsDecimal d → IsSame x (fraction_of d) → ⊥)
    (λ d. IsDecimal d × IsSame x (fraction_of d))
