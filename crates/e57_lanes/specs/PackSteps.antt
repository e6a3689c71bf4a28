-- Packing step by step.
use Rattle.std.specs.Prelude.{◌≡◌, ℕ, zero, suc, ◌+◌, ◌*◌, ◌^◌, ◌<◌, ◌≤◌, ◌⊎◌, List, length, slice_index_or, ℤ, pos, ◌-ℤ◌, ◌≤ℤ◌, ◌<ℤ◌, nat_abs}
use Rattle.e57_bits.specs.Bits.{bit}
use Rattle.e57_lanes.specs.Unpack.{stored}

-- the bits before `from` and from `until` on are as they were
abbrev pub SameBits : ℕ → ℕ → List ℕ → List ℕ → Type 0
SameBits from until old new = (t : ℕ) → (t < from) ⊎ (until ≤ t) → bit new t ≡ bit old t

-- value k minus the minimum is a number of `width` bits
pub record FitsField (values : List ℤ) (minimum : ℤ) (width k : ℕ) : Type 0 where
  pub least : minimum ≤ℤ slice_index_or values k (pos 0)
  pub most : (slice_index_or values k (pos 0) -ℤ minimum) <ℤ pos (2 ^ width)

-- the number of the value at `first + j`
abbrev pub value_number : List ℤ → ℤ → ℕ → ℕ → ℕ
value_number values minimum first j = nat_abs (slice_index_or values (first + j) (pos 0) -ℤ minimum)

-- the first n numbers of `width` bits as one number, the first lowest
unfoldable pub joined : (ℕ → ℕ) → ℕ → ℕ → ℕ
joined f width zero = 0
joined f width (suc n) = joined f width n + 2 ^ (n * width) * f n

-- the values from `from` on and before `until` are packed, and all other bits are as they were
pub record PackedBetween (values : List ℤ) (minimum : ℤ) (width phase from until : ℕ) (old new : List ℕ) : Type 0 where
  pub numbers : (k : ℕ) → from ≤ k → k < until → pos (stored new phase width k) ≡ slice_index_or values k (pos 0) -ℤ minimum
  pub others : SameBits (phase + from * width) (phase + until * width) old new
  pub same_length : length new ≡ length old
