-- Decimal numbers as fractions of powers of ten.
use Rattle.std.specs.Prelude.{◌≡◌, ℕ, ◌+◌, ◌-◌, ◌*◌, ◌%◌, ◌^◌, ◌≤◌, ℤ, pos, neg_ℤ, ◌+ℤ◌, ◌*ℤ◌, ◌≤ℤ◌, unsigned_abs, Bool, if◌then◌else◌}
use Rattle.e57_decimal.specs.declared.values.Decimal.{Decimal}

-- whole * 10 ^ up / 10 ^ down
pub record Fraction : Type 0 where
  pub whole : ℤ
  pub up : ℕ
  pub down : ℕ

-- two fractions of one value
pub record IsSame (x y : Fraction) : Type 0 where
  pub crosswise : x.whole *ℤ pos (10 ^ x.up * 10 ^ y.down) ≡ y.whole *ℤ pos (10 ^ y.up * 10 ^ x.down)

-- the whole number of this magnitude, below 0 where it is negative
abbrev pub signed : Bool → ℕ → ℤ
signed negative n = if negative then neg_ℤ (pos n) else pos n

-- the greatest magnitude of a whole number, and of a shift
abbrev pub limit : ℕ
limit = 2 ^ 127 - 1

abbrev pub shift_limit : ℕ
shift_limit = 60

-- what is kept of a decimal: the whole number is no multiple of 10 unless it is 0, and 0 has the shift 0
pub record IsDecimal (d : Decimal) : Type 0 where
  pub within : unsigned_abs d.whole ≤ limit
  pub low : neg_ℤ (pos shift_limit) ≤ℤ d.shift
  pub high : d.shift ≤ℤ pos shift_limit
  pub tens : unsigned_abs d.whole % 10 ≡ 0 → d.whole ≡ pos 0
  pub zero : d.whole ≡ pos 0 → d.shift ≡ pos 0

-- the shift, counted from the least one
abbrev pub up_of : Decimal → ℕ
up_of d = unsigned_abs (d.shift +ℤ pos shift_limit)

-- the value of a decimal: whole * 10 ^ shift
abbrev pub fraction_of : Decimal → Fraction
fraction_of d = record { whole = d.whole; up = up_of d; down = shift_limit }

-- raw * scale + offset
abbrev pub combined : Fraction → Fraction → ℤ → Fraction
combined scale offset raw = record {
  whole =
      (raw *ℤ scale.whole) *ℤ pos (10 ^ (scale.up + offset.down))
      +ℤ offset.whole *ℤ pos (10 ^ (offset.up + scale.down));
  up = 0;
  down = scale.down + offset.down;
}
