-- A raw number times a scale plus an offset (ASTM E2807, ScaledInteger), in whole numbers.
use Rattle.std.specs.Prelude.{ℕ, ◌+◌, ◌-◌, ◌*◌, ◌^◌, ◌≤◌, nat_le, ◌==◌, min, max, ℤ, pos, ◌*ℤ◌, unsigned_abs, Bool, ◌&&◌, Option, Some, None, if◌then◌else◌}
use Rattle.std.specs.Option.{SomeIff}
use Rattle.e57_decimal.specs.declared.values.Decimal.{Decimal}
use Rattle.e57_decimal.specs.Fractions.{Fraction, limit, shift_limit, up_of, fraction_of, combined}

-- a scale and an offset, and the limits of the raw numbers
pub record Line : Type 0 where
  pub scale : Decimal
  pub offset : Decimal
  pub low : ℤ
  pub high : ℤ

-- raw * scale + offset
abbrev pub value_of : Line → ℤ → Fraction
value_of line raw = combined (fraction_of line.scale) (fraction_of line.offset) raw

abbrev pub is_zero : Decimal → Bool
is_zero d = unsigned_abs d.whole == 0

-- The least shift of those of the two that aren't 0, or 0 where both are: counted from the least shift of all.
unfoldable pub common_up : Decimal → Decimal → ℕ
common_up scale offset =
    if is_zero scale && is_zero offset then shift_limit
    else if is_zero scale then up_of offset
    else if is_zero offset then up_of scale
    else min (up_of scale) (up_of offset)

-- the whole number w with `d = w * 10 ^ shift`, for the shift that is `up` above the least one
unfoldable pub whole_at : ℕ → Decimal → ℤ
whole_at up d = d.whole *ℤ pos (10 ^ (up_of d - up))

-- what is answered of a whole number: none if it is past the limit
abbrev pub Within : ℤ → Option ℤ → Type 0
Within z result = SomeIff result (unsigned_abs z ≤ limit) z

-- the greater magnitude of the limits
abbrev pub reach : ℤ → ℤ → ℕ
reach low high = max (unsigned_abs low) (unsigned_abs high)

-- Both whole numbers at the common shift, and the greatest magnitude of `raw * factor + summand`, are within the limit.
unfoldable pub is_linear : Line → Bool
is_linear line =
    let up = common_up line.scale line.offset in
    let factor = unsigned_abs (whole_at up line.scale) in
    let summand = unsigned_abs (whole_at up line.offset) in
    nat_le factor limit
    && (nat_le summand limit && nat_le (reach line.low line.high * factor + summand) limit)

abbrev pub line_with : Decimal → Decimal → ℤ → ℤ → Line
line_with scale offset low high = record { scale = scale; offset = offset; low = low; high = high }

-- the line, if it is linear within 128 bits
abbrev pub linear_of : Decimal → Decimal → ℤ → ℤ → Option Line
linear_of scale offset low high =
    if is_linear (line_with scale offset low high)
    then Some (line_with scale offset low high)
    else None
