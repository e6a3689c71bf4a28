-- Limits by the number of a node: one entry for each node.
use Rattle.std.specs.Prelude.{ℕ, ℤ, ◌≤ℤ◌, ◌^◌, ◌<◌, List, Option, Some, None, slice_index_or}
use Rattle.std.specs.Int.Signed.{mag}
use Rattle.e57_edits.specs.declared.limits.Range.{Range}

abbrev pub limits_of : Option Range → Option (ℤ × ℤ)
limits_of None = None
limits_of (Some range) = Some (range.low, range.high)

-- the least and the greatest value of the node with this number
abbrev pub range_at : List (Option Range) → ℕ → Option (ℤ × ℤ)
range_at ranges n = limits_of (slice_index_or ranges n None)

-- The least value isn't above the greatest.
abbrev pub IsOrdered : Option Range → Type 0
IsOrdered None = Unit {0}
IsOrdered (Some range) = range.low ≤ℤ range.high

abbrev pub AreOrdered : List (Option Range) → Type 0
AreOrdered ranges = (n : ℕ) → IsOrdered (slice_index_or ranges n None)

-- Both limits are signed numbers of 64 bits.
abbrev pub IsSigned : Option Range → Type 0
IsSigned None = Unit {0}
IsSigned (Some range) = (mag range.low < 2 ^ 63) × (mag range.high < 2 ^ 63)

abbrev pub AreSigned : List (Option Range) → Type 0
AreSigned ranges = (n : ℕ) → IsSigned (slice_index_or ranges n None)
