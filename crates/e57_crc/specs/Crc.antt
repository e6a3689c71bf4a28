-- CRC-32C, bit by bit, and the checksum word of a page (ASTM E2807, physical layout).
use Rattle.std.specs.Prelude.{ℕ, zero, suc, ◌*◌, ◌/◌, ◌%◌, Bool, ◌==◌, ◌||◌, List, length, take, drop, reverse, bit_xor}
use Rattle.e57_bits.specs.Bits.{bit, le}

-- the register shifted right by one, with the reflected polynomial put in where x is 1
unfoldable pub shifted : ℕ → ℕ → ℕ
shifted r x = bit_xor (r / 2) (x * 0x82F6_3B78)

-- The register of 32 bits after the first t bits: it starts with all bits 1.
unfoldable pub register : List ℕ → ℕ → ℕ
register b zero = 0xFFFF_FFFF
register b (suc t) = shifted (register b t) (bit_xor (register b t % 2) (bit b t))

-- the CRC-32C of a list of bytes
unfoldable pub crc : List ℕ → ℕ
crc b = bit_xor (register b (8 * length b)) 0xFFFF_FFFF

-- the word after the payload is the payload's checksum, in one byte order or in the other
unfoldable pub is_right : List ℕ → Bool
is_right page = (le (drop 1020 page) == crc (take 1020 page)) || (le (reverse (drop 1020 page)) == crc (take 1020 page))
