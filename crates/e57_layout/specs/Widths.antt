-- The width of integers with limits.
use Rattle.std.specs.Prelude.{ℕ, zero, suc, ◌/◌, ◌==◌, if◌then◌else◌, ℤ}
use Rattle.std.specs.Int.{int_gap}

-- the least w with n < 2 ^ w, of a number below 2 ^ most
unfoldable pub bit_length : ℕ → ℕ → ℕ
bit_length zero n = 0
bit_length (suc most) n = if n == 0 then 0 else suc (bit_length most (n / 2))

-- the least w with high - low < 2 ^ w, of limits in 64 bits
unfoldable pub width : ℤ → ℤ → ℕ
width low high = bit_length 64 (int_gap low high)
