-- Integers of a chunk.
use Rattle.std.specs.Prelude.{◌≡◌, ℕ, ◌+◌, ◌*◌, ◌/◌, ◌%◌, ◌<◌, ◌≤◌, min, ℤ, pos, ◌≤ℤ◌, List, length, drop, slice_index_or, Result, Ok, Err}
use Rattle.std.specs.Int.{int_gap}
use Rattle.e57_bits.specs.Bits.{number}
use Rattle.e57_base.specs.Fault.{fault}
use Rattle.e57_base.specs.Source.{SourceView}
use Rattle.e57_base.specs.declared.fault.Fault.{Fault}
use Rattle.e57_base.specs.declared.fault.ReadFault.{ReadFault}
use Rattle.e57_base.specs.declared.kind.Kind.TheVariants.{ValueRange}
use Rattle.e57_lanes.specs.Unpack.{Written, Unpacks}
use Rattle.e57_layout.specs.Values.{ItemKind, integers, Value, whole}
use Rattle.e57_layout.specs.Widths.{width}
use Rattle.e57_stream.specs.declared.bytestream.Bytestream.{Bytestream}
use Rattle.e57_stream.specs.declared.bytestream.Integers.{Integers}
use Rattle.e57_stream.specs.declared.chunk.Chunk.{Chunk}
use Rattle.e57_stream.specs.Standing.{items_held, moved_on}
use Rattle.e57_stream.specs.Reading.{ReadsItems, StopsAt}

-- The lowest value isn't above the highest, and the width is theirs, one bit or more.
pub record IsRange (range : Integers) : Type 0 where
  pub order : range.low ≤ℤ range.high
  pub width_is : range.width ≡ width range.low range.high
  pub some : 0 < range.width

-- what the items are
abbrev pub kind_of : Integers → ItemKind
kind_of range = integers range.low range.high

-- the fault of an integer of record `at` that is above the highest value
abbrev pub range_at : Bytestream → ℕ → Fault
range_at b at = fault ValueRange at b.node

-- The first n places have values within the limits, and all others are as they were.
pub record FillsIntegers (range : Integers) (n : ℕ) (old new : List ℤ) : Type 0 where
  pub least : (j : ℕ) → j < n → range.low ≤ℤ slice_index_or new j (pos 0)
  pub most : (j : ℕ) → j < n → slice_index_or new j (pos 0) ≤ℤ range.high
  pub rest : (j : ℕ) → n ≤ j → slice_index_or new j (pos 0) ≡ slice_index_or old j (pos 0)
  pub same_length : length new ≡ length old

-- the item that was read into place j
abbrev pub whole_at : List ℤ → ℕ → Value
whole_at out j = whole (slice_index_or out j (pos 0))

-- Of `want` records n were read into the first places of a buffer.
pub record ReadsIntegers (source : SourceView) (b : Bytestream) (range : Integers) (before : Chunk) (want n : ℕ) (old new : List ℤ) (after : Chunk) (source' : SourceView) : Type 0 where
  pub fills : FillsIntegers range n old new
  pub reads : ReadsItems source b (kind_of range) before want n (whole_at new) after source'

-- Of `want` records `done` were read into the first places of a buffer, and the next one wasn't.
pub record StopsIntegers (source : SourceView) (b : Bytestream) (range : Integers) (before : Chunk) (want done : ℕ) (found : ReadFault) (old new : List ℤ) (after : Chunk) (source' : SourceView) : Type 0 where
  pub fills : FillsIntegers range done old new
  pub stops : StopsAt source b (kind_of range) before want done found (whole_at new) after source'

-- what unpacking from a bit of these bytes on answers
abbrev pub UnpacksFrom : Integers → List ℕ → ℕ → List ℤ → Result (Unit {0}) ℕ → List ℤ → Type 0
UnpacksFrom range bytes bit old result new =
    Unpacks (drop (bit / 8) bytes) (bit % 8) range.width range.low (int_gap range.low range.high) old result new

-- the numbers of the window from the next item on
abbrev pub WindowWritten : Integers → Chunk → ℕ → List ℤ → List ℤ → Type 0
WindowWritten range chunk n old new = Written (drop (chunk.bit / 8) chunk.window) (chunk.bit % 8) range.width range.low (int_gap range.low range.high) 0 n old new

-- the number of item k, from the next one on
abbrev pub window_number : Integers → Chunk → ℕ → ℕ
window_number range chunk k = number (drop (chunk.bit / 8) chunk.window) (chunk.bit % 8 + k * range.width) range.width

-- The items that the window has were read, as many as there are places; or those before the first above the highest value.
abbrev pub TakesIntegers : Integers → Chunk → List ℤ → Result ℕ ℕ → Chunk → List ℤ → Type 0
TakesIntegers range before old (Ok n) after new = (n ≡ min (length old) (items_held range.width before)) × (after ≡ moved_on range.width n before) × WindowWritten range before n old new
TakesIntegers range before old (Err k) after new = (k < min (length old) (items_held range.width before)) × (after ≡ before) × WindowWritten range before k old new × (int_gap range.low range.high < window_number range before k)
