-- The search for the chunk of a record: by the index, by counting the items of the first Float field, or, with neither,
-- in the one chunk.
use Rattle.std.specs.Prelude.{◌≡◌, ℕ, ◌<◌, ◌≤◌, ◌⊎◌, ◌==◌, ◌||◌, Bool, true, false, List, Option, Some, None, IsSomeAnd, IfSome, Ok, Err}
use Rattle.std.specs.Result.{IsOkAnd}
use Rattle.e57_base.specs.Count.{Rose}
use Rattle.e57_base.specs.Source.{SourceView}
use Rattle.e57_base.specs.declared.fault.ReadFault.{ReadFault}
use Rattle.e57_base.specs.declared.fault.ReadFault.TheVariants.{Refused, Source}
use Rattle.e57_base.specs.declared.kind.Kind.{Kind}
use Rattle.e57_layout.specs.declared.section.Section.{Section}
use Rattle.e57_layout.specs.declared.field.Fixed.{Fixed}
use Rattle.e57_cloud.specs.PathItem.{ChunkAt, path, chunk_at}
use Rattle.e57_cloud.specs.Met.{OnPath}
use Rattle.e57_index.specs.Standing.{StandsIn as CursorStands}
use Rattle.e57_index.specs.Finding.{chunk_of}
use Rattle.e57_index.specs.declared.cursor.Found.{Found}
use Rattle.e57_ahead.specs.Counting.{OnWay, StandsIn as CountStands}
use Rattle.e57_ahead.specs.Finding.{is_found_kind}
use Rattle.e57_index.specs.Reading.{is_index_kind}
use Rattle.e57_stream.specs.Asking.{AsksMet}
use Rattle.e57_stream.specs.Taking.{is_walk_kind}
use Rattle.e57_stream.specs.Reading.{is_item_kind}
use Rattle.e57_texts.specs.Reading.{is_limit_kind}
use Rattle.e57_stream.specs.declared.bytestream.Bytestream.{Bytestream}
use Rattle.e57_column.specs.declared.finder.Finder.{Finder}
use Rattle.e57_column.specs.declared.finder.Finder.TheVariants.{ByIndex, ByCounting, OneChunk}

-- The finder is the one that the section needs, and searches in it.
abbrev pub IsFinder : Section → Option Fixed → Finder → Type 0
IsFinder s fixed (ByIndex cursor) = (cursor.section ≡ s) × ((s.index == 0) ≡ false)
IsFinder s fixed (ByCounting search) = (search.section ≡ s) × (fixed ≡ Some search.fixed) × (s.index ≡ 0)
IsFinder s fixed OneChunk = (s.index ≡ 0) × (fixed ≡ None)

-- what a finder keeps is of the file
abbrev pub FinderStands : List ℕ → Finder → Type 0
FinderStands file (ByIndex cursor) = CursorStands file cursor
FinderStands file (ByCounting search) = CountStands file search.section search.fixed search.reached
FinderStands file OneChunk = Unit {0}

-- ---- records of a chunk

-- record i is of the chunk with this first record and place: it is read from there
abbrev pub IsIn : List ℕ → Bytestream → ℕ → ℕ → ℕ → Type 0
IsIn file b start place i = IsOkAnd (chunk_at file b.section b.fixed i) (λ chunk. (chunk.first ≡ start) × (chunk.place ≡ place))

-- the records from a on and below b are
abbrev pub AreIn : List ℕ → Bytestream → ℕ → ℕ → ℕ → ℕ → Type 0
AreIn file b start place a until = (i : ℕ) → a ≤ i → i < until → IsIn file b start place i

-- with an index, the path of a record leads to just this chunk
abbrev pub IsLedTo : List ℕ → Section → ChunkAt → Type 0
IsLedTo file s chunk = (s.index == 0) ≡ false → (i : ℕ) × (i < s.count) × (path file s i ≡ Ok chunk)

-- ---- pages and faults

-- page p is asked for to find the chunk of record i by counting
abbrev pub OnCount : List ℕ → Bytestream → ℕ → ℕ → Type 0
OnCount file b i p = (b.section.index ≡ 0) × IsSomeAnd b.fixed (λ fixed. OnWay file b.section fixed i p)

-- page p is asked for to find the chunk of record i
abbrev pub OnSearch : List ℕ → Bytestream → ℕ → ℕ → Type 0
OnSearch file b i p = OnPath file b.section i p ⊎ OnCount file b i p

-- a kind of fault that can come: in the index, on a walk, of an item, or where a string is too long
abbrev pub is_column_kind : Kind → Bool
is_column_kind kind = is_index_kind kind || (is_found_kind kind || (is_walk_kind kind || (is_item_kind kind || is_limit_kind kind)))

-- ---- a search

-- The chunk of record i was found. It has the records from i to below `until`.
pub record Finds (old : SourceView) (b : Bytestream) (before : Finder) (i : ℕ) (found : Found) (new : SourceView) (after : Finder) : Type 0 where
  pub low : found.start ≤ i
  pub high : i < found.until
  pub most : found.until ≤ b.section.count
  pub within : found.place ≤ b.section.end
  pub met : AsksMet (λ file p. FinderStands file before → OnSearch file b i p) old new
  pub stands : IfSome old.held (λ file. FinderStands file before → FinderStands file after)
  pub are : IfSome old.held (λ file. FinderStands file before → AreIn file b found.start found.place i found.until)
  pub led : IfSome old.held (λ file. FinderStands file before → IsLedTo file b.section (chunk_of found))

-- why it wasn't found: the fault that record i has, or the source failed
abbrev pub IsFindCause : SourceView → Bytestream → Finder → ℕ → ReadFault → SourceView → Type 0
IsFindCause old b before i (Refused found) new =
    (is_column_kind found.kind ≡ true) × IfSome old.held (λ file. FinderStands file before → chunk_at file b.section b.fixed i ≡ Err found)
IsFindCause old b before i Source new = Rose old.faults new.faults

pub record FindsNot (old : SourceView) (b : Bytestream) (before : Finder) (i : ℕ) (found : ReadFault) (new : SourceView) (after : Finder) : Type 0 where
  pub met : AsksMet (λ file p. FinderStands file before → OnSearch file b i p) old new
  pub stands : IfSome old.held (λ file. FinderStands file before → FinderStands file after)
  pub cause : IsFindCause old b before i found new
