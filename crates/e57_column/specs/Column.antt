-- What a column keeps, and that it is of a file.
use Rattle.std.specs.Prelude.{◌≡◌, ℕ, ◌-◌, ◌<◌, ◌≤◌, ◌≤ℤ◌, min, List, Option, Some, None, Result}
use Rattle.e57_base.specs.declared.fault.Fault.{Fault}
use Rattle.e57_layout.specs.Values.{ItemKind, integers, words, strings, Value}
use Rattle.e57_layout.specs.Widths.{width}
use Rattle.e57_layout.specs.declared.section.Section.{Section}
use Rattle.e57_cloud.specs.Cloud.{Leaf}
use Rattle.e57_cloud.specs.PathItem.{constant_of, item_of, length_of}
use Rattle.e57_stream.specs.Standing.{chunk_at, IsWithin, Stands}
use Rattle.e57_stream.specs.declared.bytestream.Bytestream.{Bytestream}
use Rattle.e57_stream.specs.declared.chunk.Chunk.{Chunk}
use Rattle.e57_texts.specs.Standing.{IsWithinText, StandsText}
use Rattle.e57_column.specs.declared.state.Items.{Items}
use Rattle.e57_column.specs.declared.state.Items.TheVariants.{Whole, Words32, Words64, Strings}
use Rattle.e57_column.specs.declared.state.Place.{Place}
use Rattle.e57_column.specs.declared.state.Place.TheVariants.{Nowhere, Outside, Inside}
use Rattle.e57_column.specs.declared.state.State.{State}
use Rattle.e57_column.specs.Finding.{IsFinder, FinderStands, AreIn, IsLedTo}

-- ---- what a column shows

-- what the items are
abbrev pub kind_of : Items → ItemKind
kind_of (Whole range) = integers range.low range.high
kind_of Words32 = words 32
kind_of Words64 = words 64
kind_of Strings = strings

-- the field: its node, and what its items are
abbrev pub leaf_of : State → Leaf
leaf_of c = record { node = c.stream.node; kind = kind_of c.items }

-- the next record, where the column is placed
abbrev pub placed_at : Place → ℕ → Option ℕ
placed_at Nowhere i = None
placed_at Outside i = Some i
placed_at Inside i = Some i

abbrev pub placed : State → Option ℕ
placed c = placed_at c.place c.chunk.at

-- how many records are read into so many places
abbrev pub wanted : State → ℕ → ℕ
wanted c places = min places (c.stream.section.count - c.chunk.at)

-- the item of record i, or the first fault on the way to it
abbrev pub column_item : List ℕ → State → ℕ → Result Value Fault
column_item file c i = item_of file c.stream.section c.stream.fixed c.stream.field (leaf_of c) i

-- the length of the string of record i, or the first fault on the way to it
abbrev pub column_length : List ℕ → State → ℕ → Result Value Fault
column_length file c i = length_of file c.stream.section c.stream.fixed c.stream.field (leaf_of c) i

-- ---- whatever the file

-- the lowest value isn't above the highest, and the width is theirs
abbrev pub AreItems : Items → Type 0
AreItems (Whole range) = (range.low ≤ℤ range.high) × (range.width ≡ width range.low range.high)
AreItems Words32 = Unit {0}
AreItems Words64 = Unit {0}
AreItems Strings = Unit {0}

-- the place in the window is one of the chunk
abbrev pub IsRead : Section → ItemKind → Chunk → Type 0
IsRead s (integers low high) chunk = IsWithin s (width low high) chunk
IsRead s (words w) chunk = IsWithin s w chunk
IsRead s strings chunk = IsWithinText s chunk

-- The chunk has records, which are some of the section's, and its items have bits.
pub record IsInside (s : Section) (kind : ItemKind) (chunk : Chunk) : Type 0 where
  pub varies : constant_of kind ≡ None
  pub some : chunk.start < chunk.until
  pub most : chunk.until ≤ s.count
  pub read : IsRead s kind chunk

abbrev pub IsPlaced : Place → Section → ItemKind → Chunk → Type 0
IsPlaced Nowhere s kind chunk = Unit {0}
IsPlaced Outside s kind chunk = chunk.at ≤ s.count
IsPlaced Inside s kind chunk = IsInside s kind chunk

pub record IsColumn (c : State) : Type 0 where
  pub items : AreItems c.items
  pub is_field : c.stream.field < c.stream.section.fields
  pub finder : IsFinder c.stream.section c.stream.fixed c.finder
  pub sound : IsPlaced c.place c.stream.section (kind_of c.items) c.chunk

-- ---- in a file

-- the place in the window is that of the next record's item in the file
abbrev pub IsReadOf : List ℕ → Bytestream → ItemKind → Chunk → Type 0
IsReadOf file b (integers low high) chunk = Stands file b (width low high) chunk
IsReadOf file b (words w) chunk = Stands file b w chunk
IsReadOf file b strings chunk = StandsText file b chunk

-- The chunk is one of the file: the records from the next one on are read from its start and place, and the stream in it
-- was read up to the next record.
pub record IsChunkOf (file : List ℕ) (b : Bytestream) (kind : ItemKind) (chunk : Chunk) : Type 0 where
  pub records : AreIn file b chunk.start chunk.entry chunk.at chunk.until
  pub led : IsLedTo file b.section (chunk_at chunk)
  pub read : IsReadOf file b kind chunk

-- The column stands in the file: what finds chunks is of the file, and so is the chunk in which it stands.
pub record StandsIn (file : List ℕ) (c : State) : Type 0 where
  pub finder : FinderStands file c.finder
  pub chunk : c.place ≡ Inside → IsChunkOf file c.stream (kind_of c.items) c.chunk
