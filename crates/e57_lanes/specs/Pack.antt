-- What it means to pack integers as bit fields (ASTM E2807, the bit-packed codec).
use Rattle.std.specs.Prelude.{◌≡◌, ℕ, ◌+◌, ◌*◌, ◌^◌, ◌<◌, ◌≤◌, ◌⊎◌, List, length, slice_index_or, ℤ, pos, ◌-ℤ◌, ◌≤ℤ◌, ◌<ℤ◌}
use Rattle.e57_bits.specs.Bits.{bit}
use Rattle.e57_lanes.specs.Unpack.{stored, Unpacks}
use Rattle.std.proofs.Common.{◌-◌, get_or, ◌+ℤ◌, Result, Ok}

-- The number of each item is the value minus the minimum. Bits of no item are as they were.
pub record Packed (values : List ℤ) (minimum : ℤ) (width phase : ℕ) (old new : List ℕ) : Type 0 where
  pub numbers : (k : ℕ) → k < length values → pos (stored new phase width k) ≡ slice_index_or values k (pos 0) -ℤ minimum
  pub others : (t : ℕ) → (t < phase) ⊎ (phase + length values * width ≤ t) → bit new t ≡ bit old t
  pub same_length : length new ≡ length old

-- Each value minus the minimum is a number of `width` bits, and the bits fit.
pub record CanPack (values : List ℤ) (minimum : ℤ) (width phase : ℕ) (out : List ℕ) : Type 0 where
  pub phase_in_byte : phase < 8
  pub width_in_word : width ≤ 64
  pub least : (k : ℕ) → k < length values → minimum ≤ℤ slice_index_or values k (pos 0)
  pub most : (k : ℕ) → k < length values → (slice_index_or values k (pos 0) -ℤ minimum) <ℤ pos (2 ^ width)
  pub room : phase + length values * width ≤ 8 * length out

-- Unpacking what was packed gives the values back, and finds no number above the span, where each value is at most the
-- minimum plus the span.
abbrev pub PackedComesBack : Type 0
PackedComesBack =
    (values : List ℤ) (minimum : ℤ) (width phase span : ℕ) (before bytes : List ℕ) (old new : List ℤ) (result : Result (Unit {0}) ℕ)
    → Packed values minimum width phase before bytes → length old ≡ length values
    → ((k : ℕ) → k < length values → get_or values k (pos 0) ≤ℤ (minimum +ℤ pos span))
    → Unpacks bytes phase width minimum span old result new
    → (result ≡ Ok tt) × (new ≡ values)
