-- Bits and numbers in a list of bytes, the least significant bit first.
use Rattle.std.specs.Prelude.{ℕ, zero, suc, ◌+◌, ◌*◌, ◌/◌, ◌%◌, ◌^◌, List, length, slice_index}

-- bit t: bit t % 8 of byte t / 8, bit 0 being the least significant. Past the end it is 0
unfoldable pub bit : List ℕ → ℕ → ℕ
bit b t = slice_index b (t / 8) / 2 ^ (t % 8) % 2

-- the number in the w bits from bit t on: the sum of bit (t + j) * 2 ^ j for j below w
unfoldable pub number : List ℕ → ℕ → ℕ → ℕ
number b t zero = 0
number b t (suc w) = number b t w + 2 ^ w * bit b (t + w)

-- the whole list as a number, the least significant byte first
unfoldable pub le : List ℕ → ℕ
le b = number b 0 (8 * length b)
