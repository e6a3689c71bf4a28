-- The decimal of a value, worked out.
use Rattle.std.specs.Prelude.{ℕ, zero, suc, ◌+◌, ◌/◌, ◌%◌, nat_le, ◌==◌, ◌&&◌, ℤ, pos, negsuc, neg_ℤ, ◌+ℤ◌, unsigned_abs, Bool, true, false, List, Option, Some, None, if◌then◌else◌}
use Rattle.e57_decimal.specs.declared.values.Decimal.{Decimal}
use Rattle.e57_decimal.specs.Fractions.{Fraction, limit, shift_limit, signed}
use Rattle.e57_decimal.specs.Reading.{fraction_in}

-- a number without its last zeros, and how many they were: at most `most` are taken
unfoldable pub cut_zeros : ℕ → ℕ → ℕ × ℕ
cut_zeros zero n = (n, 0)
cut_zeros (suc most) n =
    if n % 10 == 0
    then ((cut_zeros most (n / 10)).0, suc (cut_zeros most (n / 10)).1)
    else (n, 0)

abbrev pub is_negative : ℤ → Bool
is_negative (pos n) = false
is_negative (negsuc n) = true

-- the decimal of m * 10 ^ up / 10 ^ down with a sign, for an m that doesn't end in 0; none if it is past a limit
unfoldable pub decimal_at : Bool → ℕ → ℕ → ℕ → Option Decimal
decimal_at negative m up down =
    if nat_le m limit && (nat_le up (down + shift_limit) && nat_le down (up + shift_limit))
    then Some (record { whole = signed negative m; shift = pos up +ℤ neg_ℤ (pos down) })
    else None

-- the decimal of a value, if there is one
unfoldable pub decimal_of : Fraction → Option Decimal
decimal_of x =
    let n = unsigned_abs x.whole in
    if n == 0
    then Some (record { whole = pos 0; shift = pos 0 })
    else decimal_at (is_negative x.whole) (cut_zeros n n).0 ((cut_zeros n n).1 + x.up) x.down

abbrev pub decimal_of_some : Option Fraction → Option Decimal
decimal_of_some None = None
decimal_of_some (Some x) = decimal_of x

-- the decimal whose value a text has, if it is a decimal text and there is one
unfoldable pub decimal_in : List ℕ → Option Decimal
decimal_in text = decimal_of_some (fraction_in text)
