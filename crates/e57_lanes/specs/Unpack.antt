-- What it means to unpack a bit field: integers of `width` bits each, one after another, the least significant bit
-- first (ASTM E2807, the bit-packed codec).
use Rattle.std.specs.Prelude.{◌≡◌, ℕ, ◌+◌, ◌*◌, ◌^◌, ◌<◌, ◌≤◌, ◌-◌, ◌⊎◌, List, length, slice_index_or, ℤ, pos, ◌+ℤ◌, ◌≤ℤ◌, Result, Ok, Err}
use Rattle.e57_bits.specs.Bits.{number}

-- the number of item k: its bits begin at bit `phase + k * width`
abbrev pub stored : List ℕ → ℕ → ℕ → ℕ → ℕ
stored bytes phase width k = number bytes (phase + k * width) width

-- The numbers of the items from `from` on and before `until` are within the span, and these items stand in `new`,
-- each the minimum plus its number. All other items are as they were.
pub record Written (bytes : List ℕ) (phase width : ℕ) (minimum : ℤ) (span from until : ℕ) (old new : List ℤ) : Type 0 where
  pub within : (k : ℕ) → from ≤ k → k < until → stored bytes phase width k ≤ span
  pub items : (k : ℕ) → from ≤ k → k < until → slice_index_or new k (pos 0) ≡ minimum +ℤ pos (stored bytes phase width k)
  pub others : (k : ℕ) → (k < from) ⊎ (until ≤ k) → slice_index_or new k (pos 0) ≡ slice_index_or old k (pos 0)
  pub same_length : length new ≡ length old

-- Item k is the first whose number is above the span, at or after `from`; the items before it are written.
pub record Stops (bytes : List ℕ) (phase width : ℕ) (minimum : ℤ) (span from k : ℕ) (old new : List ℤ) : Type 0 where
  pub there : k < length old
  pub above : span < stored bytes phase width k
  pub before : Written bytes phase width minimum span from k old new

-- what becomes of the items from `from` on: all are written, or those before the first above the span
abbrev pub UnpacksFrom : List ℕ → ℕ → ℕ → ℤ → ℕ → ℕ → List ℤ → Result (Unit {0}) ℕ → List ℤ → Type 0
UnpacksFrom bytes phase width minimum span from old (Ok done) new =
    Written bytes phase width minimum span from (length old) old new
UnpacksFrom bytes phase width minimum span from old (Err k) new = Stops bytes phase width minimum span from k old new

-- what an unpacking call answers
abbrev pub Unpacks : List ℕ → ℕ → ℕ → ℤ → ℕ → List ℤ → Result (Unit {0}) ℕ → List ℤ → Type 0
Unpacks bytes phase width minimum span old result new = UnpacksFrom bytes phase width minimum span 0 old result new

-- `n` items of `width` bits can be unpacked: their bits are there, and an item within the span is an i64.
pub record CanUnpack (bytes : List ℕ) (phase width : ℕ) (minimum : ℤ) (span n : ℕ) : Type 0 where
  pub phase_in_byte : phase < 8
  pub width_in_word : width ≤ 64
  pub bits_there : phase + width * n ≤ 8 * length bytes
  pub span_in_width : span < 2 ^ width
  pub items_fit : (minimum +ℤ pos span) ≤ℤ pos (2 ^ 63 - 1)
