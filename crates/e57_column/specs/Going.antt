-- The way to a record: its chunk is entered, and the stream in it is read up to the record's item.
use Rattle.std.specs.Prelude.{◌≡◌, ℕ, ◌+◌, ◌-◌, ◌*◌, ◌<◌, ◌≤◌, ◌==◌, ◌&&◌, nat_le, Bool, true, false, if◌then◌else◌, List, [], IfSome, IsOk, Err}
use Rattle.e57_base.specs.Count.{Rose}
use Rattle.e57_base.specs.Source.{SourceView}
use Rattle.e57_base.specs.declared.fault.ReadFault.{ReadFault}
use Rattle.e57_base.specs.declared.fault.ReadFault.TheVariants.{Refused, Source}
use Rattle.e57_layout.specs.Values.{ItemKind, strings}
use Rattle.e57_cloud.specs.PathItem.{path}
use Rattle.e57_index.specs.declared.cursor.Found.{Found}
use Rattle.e57_stream.specs.Asking.{AsksMet, AsksNear}
use Rattle.e57_stream.specs.Reading.{IsMet, chunk_item}
use Rattle.e57_stream.specs.Standing.{chunk_at}
use Rattle.e57_stream.specs.declared.bytestream.Bytestream.{Bytestream}
use Rattle.e57_stream.specs.declared.chunk.Chunk.{Chunk}
use Rattle.e57_texts.specs.Reading.{chunk_length}
use Rattle.e57_column.specs.declared.finder.Finder.{Finder}
use Rattle.e57_column.specs.declared.state.Place.{Place}
use Rattle.e57_column.specs.declared.state.Place.TheVariants.{Nowhere, Outside, Inside}
use Rattle.e57_column.specs.declared.state.State.{State}
use Rattle.e57_column.specs.Finding.{IsFinder, FinderStands, AreIn, IsLedTo, OnSearch, is_column_kind}
use Rattle.e57_column.specs.Asking.{AsksApart}
use Rattle.e57_column.specs.Column.{kind_of, IsRead, IsReadOf, StandsIn}
use Rattle.e57_column.specs.Reading.{SameField, KeepsStanding, AsksRecords, OnCounts, AreOfChunk, StaysIn}

abbrev pub is_inside : Place → Bool
is_inside Nowhere = false
is_inside Outside = false
is_inside Inside = true

-- record i is one of the chunk in which the column stands, and not before the next one
abbrev pub has_record : State → ℕ → Bool
has_record c i = is_inside c.place && (nat_le c.chunk.at i && nat_le (i + 1) c.chunk.until)

-- the chunk that was found is the one in which the column stands, and record i isn't before the next one
abbrev pub is_same : State → Found → ℕ → Bool
is_same c found i = is_inside c.place && (c.chunk.start == found.start && (c.chunk.entry == found.place && nat_le c.chunk.at i))

-- more records of the chunk are known
abbrev pub raised : State → ℕ → State
raised c until = record c { chunk = record c.chunk { until = until } }

-- the chunk at its beginning
abbrev pub begun : Found → Chunk
begun found = record { start = found.start; until = found.until; entry = found.place; taken = found.place; fresh = true; at = found.start; bit = 0; window = [] }

unfoldable pub entered : State → Found → ℕ → State
entered c found i = if is_same c found i then raised c found.until else record c { place = Inside; chunk = begun found }

-- the stream of numbers of w bits at record i
abbrev pub moved_to : ℕ → ℕ → Chunk → Chunk
moved_to w i chunk = record chunk { at = i; bit = chunk.bit + w * (i - chunk.at) }

-- ---- the chunk of a record

-- No packet was taken, and the chunk is the one in which the column stood. The pages that were asked for are those to find it
-- by counting.
pub record KeepsChunk (file : List ℕ) (old : SourceView) (before : State) (i : ℕ) (new : SourceView) (after : State) : Type 0 where
  pub start : after.chunk.start ≡ before.chunk.start
  pub entry : after.chunk.entry ≡ before.chunk.entry
  pub taken : after.chunk.taken ≡ before.chunk.taken
  pub near : AsksApart (OnCounts file before.stream i 1) before.chunk.taken before.chunk.taken old new

-- The column stands in the chunk of record i, not behind it.
pub record Enters (old : SourceView) (before : State) (i : ℕ) (new : SourceView) (after : State) : Type 0 where
  pub inside : after.place ≡ Inside
  pub low : after.chunk.at ≤ i
  pub high : i < after.chunk.until
  pub some : after.chunk.start < after.chunk.until
  pub most : after.chunk.until ≤ before.stream.section.count
  pub read : IsRead before.stream.section (kind_of before.items) after.chunk
  pub same : SameField before after
  pub finder : IsFinder before.stream.section before.stream.fixed after.finder
  pub met : AsksMet (λ file p. StandsIn file before → OnSearch file before.stream i p) old new
  pub finds : IfSome old.held (λ file. StandsIn file before → FinderStands file after.finder)
  pub are : IfSome old.held (λ file. StandsIn file before → AreIn file before.stream after.chunk.start after.chunk.entry i after.chunk.until)
  pub led : IfSome old.held (λ file. StandsIn file before → IsLedTo file before.stream.section (chunk_at after.chunk))
  pub stands : IfSome old.held (λ file. StandsIn file before → IsReadOf file before.stream (kind_of before.items) after.chunk)
  pub near : IfSome old.held (λ file. before.chunk.at ≡ i → AreOfChunk file before i 1 → KeepsChunk file old before i new after)

-- ---- skipping in a chunk

-- page p is one of the walk through the chunk on the way to the item of record i
abbrev pub OnSkip : Bytestream → ItemKind → Chunk → ℕ → List ℕ → ℕ → Type 0
OnSkip b kind chunk i file p = IsReadOf file b kind chunk → IsMet file b kind chunk i 1 p

-- The stream was read up to the item of record i.
pub record Skips (old : SourceView) (b : Bytestream) (kind : ItemKind) (before : Chunk) (i : ℕ) (new : SourceView) (after : Chunk) : Type 0 where
  pub start : after.start ≡ before.start
  pub until : after.until ≡ before.until
  pub entry : after.entry ≡ before.entry
  pub at : after.at ≡ i
  pub onward : before.taken ≤ after.taken
  pub read : IsRead b.section kind after
  pub near : AsksNear before.taken after.taken old new
  pub met : AsksMet (OnSkip b kind before i) old new
  pub stands : IfSome old.held (λ file. IsReadOf file b kind before → IsReadOf file b kind after)

abbrev pub IsSkipCause : SourceView → Bytestream → ItemKind → Chunk → ℕ → ReadFault → SourceView → Type 0
IsSkipCause old b kind chunk i (Refused found) new =
    (is_column_kind found.kind ≡ true) × IfSome old.held (λ file. IsReadOf file b kind chunk → chunk_item file b kind chunk i ≡ Err found)
IsSkipCause old b kind chunk i Source new = Rose old.faults new.faults

-- of a string, its length has this fault too
abbrev pub IsSkipLength : SourceView → Bytestream → ItemKind → Chunk → ℕ → ReadFault → Type 0
IsSkipLength old b kind chunk i (Refused found) = IfSome old.held (λ file. IsReadOf file b kind chunk → kind ≡ strings → chunk_length file b chunk i ≡ Err found)
IsSkipLength old b kind chunk i Source = Unit {0}

-- It wasn't: one of the items before has a fault, which is that of this item too.
pub record SkipsNot (old : SourceView) (b : Bytestream) (kind : ItemKind) (before : Chunk) (i : ℕ) (found : ReadFault) (new : SourceView) : Type 0 where
  pub met : AsksMet (OnSkip b kind before i) old new
  pub cause : IsSkipCause old b kind before i found new
  pub length : IsSkipLength old b kind before i found

-- ---- going to a record

-- The column stands at record i in its chunk. Where it was there before, it stays in the chunk.
pub record GoesTo (old : SourceView) (before : State) (i : ℕ) (new : SourceView) (after : State) : Type 0 where
  pub inside : after.place ≡ Inside
  pub is_at : after.chunk.at ≡ i
  pub high : i < after.chunk.until
  pub same : SameField before after
  pub met : AsksRecords old before i 1 new
  pub stands : KeepsStanding old before after
  pub near : IfSome old.held (λ file. before.chunk.at ≡ i → AreOfChunk file before i 1 → StaysIn file old before i 1 new after)

-- ---- constant fields

-- The paths of n records from the next one on were judged, or there is no index. They have no fault.
pub record FindsPaths (old : SourceView) (before : State) (n : ℕ) (new : SourceView) (after : Finder) : Type 0 where
  pub met : AsksRecords old before before.chunk.at n new
  pub paths : IfSome old.held (λ file. StandsIn file before → (j : ℕ) → j < n → IsOk (path file before.stream.section (before.chunk.at + j)))
  pub stands : IfSome old.held (λ file. StandsIn file before → FinderStands file after)
