-- What the calls of a column answer, and what they do to it and to the source.
use Rattle.std.specs.Prelude.{◌≡◌, ℕ, ◌+◌, ◌-◌, ◌<◌, ◌≤◌, ◌≤ℤ◌, ◌==◌, ◌||◌, is_some, Bool, true, List, get_or, length, Option, Some, None, IfSome, Ok, Err}
use Rattle.e57_base.specs.Count.{Rose}
use Rattle.e57_base.specs.Source.{SourceView}
use Rattle.e57_base.specs.declared.fault.ReadFault.{ReadFault}
use Rattle.e57_base.specs.declared.fault.ReadFault.TheVariants.{Refused, Source}
use Rattle.e57_layout.specs.Values.{ItemKind, item_kind, integers, words, strings, Value, whole, word, octets}
use Rattle.e57_layout.specs.declared.field.Field.{Field}
use Rattle.e57_layout.specs.declared.field.Fixed.{Fixed}
use Rattle.e57_layout.specs.declared.section.Section.{Section}
use Rattle.e57_cloud.specs.Met.{OnItem}
use Rattle.e57_cloud.specs.PathItem.{constant_of}
use Rattle.e57_stream.specs.Asking.{AsksMet}
use Rattle.e57_stream.specs.declared.bytestream.Bytestream.{Bytestream}
use Rattle.e57_column.specs.declared.state.Place.TheVariants.{Inside}
use Rattle.e57_column.specs.declared.state.State.{State}
use Rattle.e57_column.specs.Finding.{IsIn, AreIn, OnCount, is_column_kind}
use Rattle.e57_column.specs.Column.{kind_of, leaf_of, placed, column_item, column_length, StandsIn}
use Rattle.e57_column.specs.Asking.{AsksApart}

-- ---- a new column

-- It is the column of field f of this section, not placed, and stands in every file.
pub record IsOpened (s : Section) (f : ℕ) (field : Field) (fixed : Option Fixed) (c : State) : Type 0 where
  pub stream : c.stream ≡ record { section = s; fixed = fixed; field = f; node = field.node }
  pub kind : kind_of c.items ≡ item_kind field.kind
  pub is_at : placed c ≡ None
  pub stands : (file : List ℕ) → StandsIn file c

-- the items are integers
abbrev pub AreWhole : ItemKind → Type 0
AreWhole (integers low high) = Unit {0}
AreWhole (words w) = ⊥
AreWhole strings = ⊥

-- ---- what a call leaves

-- the field is the same
pub record SameField (before after : State) : Type 0 where
  pub stream : after.stream ≡ before.stream
  pub items : after.items ≡ before.items

-- where the column stood in the file, it stands there
abbrev pub KeepsStanding : SourceView → State → State → Type 0
KeepsStanding old before after = IfSome old.held (λ file. StandsIn file before → StandsIn file after)

-- page p is one on the way to the field's item of one of the n records from record a on
pub record OnRecords (file : List ℕ) (c : State) (a n p : ℕ) : Type 0 where
  pub i : ℕ
  pub after : a ≤ i
  pub before : i < a + n
  pub way : OnItem file c.stream.section c.stream.fixed c.stream.field (leaf_of c) i p

-- Pages were asked for, all on the way to these records, where the column stands in the file.
abbrev pub AsksRecords : SourceView → State → ℕ → ℕ → SourceView → Type 0
AsksRecords old c a n new = AsksMet (λ file p. StandsIn file c → OnRecords file c a n p) old new

-- why the item of record i wasn't reached: the fault on the way to it, or the source failed
abbrev pub IsCause : SourceView → State → ℕ → ReadFault → SourceView → Type 0
IsCause old c i (Refused found) new = (is_column_kind found.kind ≡ true) × IfSome old.held (λ file. StandsIn file c → column_item file c i ≡ Err found)
IsCause old c i Source new = Rose old.faults new.faults

-- of a string, its length has this fault too
abbrev pub HasNoLength : SourceView → State → ℕ → ReadFault → Type 0
HasNoLength old c i (Refused found) = IfSome old.held (λ file. StandsIn file c → kind_of c.items ≡ strings → column_length file c i ≡ Err found)
HasNoLength old c i Source = Unit {0}

-- The column stands in the chunk of record i.
pub record StandsAt (old : SourceView) (before : State) (i : ℕ) (after : State) : Type 0 where
  pub inside : after.place ≡ Inside
  pub low : after.chunk.start ≤ i
  pub high : i < after.chunk.until
  pub is : IfSome old.held (λ file. StandsIn file before → IsIn file after.stream after.chunk.start after.chunk.entry i)

-- ---- seek

-- Nothing is asked for on the way to record i: it is the end, or the items take no bits.
abbrev pub is_quiet : State → ℕ → Bool
is_quiet c i = (i == c.stream.section.count) || is_some (constant_of (kind_of c.items))

-- The column is placed at record i. Where it isn't the end, and the items take bits, it stands in the chunk of that record.
pub record Seeks (old : SourceView) (before : State) (i : ℕ) (new : SourceView) (after : State) : Type 0 where
  pub is_at : placed after ≡ Some i
  pub same : SameField before after
  pub met : AsksRecords old before i 1 new
  pub stands : KeepsStanding old before after
  pub chunk : constant_of (kind_of before.items) ≡ None → i < before.stream.section.count → StandsAt old before i after

-- The column isn't placed: the chunk of record i wasn't found, or of strings one before it in the chunk was refused.
pub record SeeksNot (old : SourceView) (before : State) (i : ℕ) (found : ReadFault) (new : SourceView) (after : State) : Type 0 where
  pub is_at : placed after ≡ None
  pub same : SameField before after
  pub met : AsksRecords old before i 1 new
  pub stands : KeepsStanding old before after
  pub cause : IsCause old before i found new
  pub length : HasNoLength old before i found

-- ---- reads

-- page p is asked for to find the chunk of one of the n records from record a on by counting
pub record OnCounts (file : List ℕ) (b : Bytestream) (a n p : ℕ) : Type 0 where
  pub i : ℕ
  pub after : a ≤ i
  pub before : i < a + n
  pub way : OnCount file b i p

-- The column stands in the chunk in which it stood, and took no packet back. Of the n records from record a on, pages to find
-- their chunk by counting were asked for, and beside them only pages between where packets were taken up to before and after.
pub record StaysIn (file : List ℕ) (old : SourceView) (before : State) (a n : ℕ) (new : SourceView) (after : State) : Type 0 where
  pub inside : after.place ≡ Inside
  pub start : after.chunk.start ≡ before.chunk.start
  pub entry : after.chunk.entry ≡ before.chunk.entry
  pub onward : before.chunk.taken ≤ after.chunk.taken
  pub near : AsksApart (OnCounts file before.stream a n) before.chunk.taken after.chunk.taken old new

-- the n records from record a on are of the chunk in which the column stands
pub record AreOfChunk (file : List ℕ) (c : State) (a n : ℕ) : Type 0 where
  pub stands : StandsIn file c
  pub inside : c.place ≡ Inside
  pub records : AreIn file c.stream c.chunk.start c.chunk.entry a (a + n)

-- Of the records from record a on, n were read, and m were read or looked at.
pub record ReadsRecords (old : SourceView) (before : State) (a n m : ℕ) (read : ℕ → Value) (new : SourceView) (after : State) : Type 0 where
  pub is_at : placed after ≡ Some (a + n)
  pub same : SameField before after
  pub met : AsksRecords old before a m new
  pub items : IfSome old.held (λ file. StandsIn file before → (j : ℕ) → j < n → column_item file before (a + j) ≡ Ok (read j))
  pub stands : KeepsStanding old before after
  pub near : IfSome old.held (λ file. AreOfChunk file before a m → StaysIn file old before a m new after)
  pub chunk : constant_of (kind_of before.items) ≡ None → 0 < m → StandsAt old before (a + m - 1) after
  pub none : m ≡ 0 → (after ≡ before) × (new ≡ old)

-- Of the `want` records from record a on `done` were read, and the next one wasn't. The column isn't placed.
pub record StopsRecords (old : SourceView) (before : State) (a want done : ℕ) (found : ReadFault) (read : ℕ → Value) (new : SourceView) (after : State) : Type 0 where
  pub below : done < want
  pub is_at : placed after ≡ None
  pub same : SameField before after
  pub met : AsksRecords old before a (done + 1) new
  pub items : IfSome old.held (λ file. StandsIn file before → (j : ℕ) → j < done → column_item file before (a + j) ≡ Ok (read j))
  pub stands : KeepsStanding old before after
  pub cause : IsCause old before (a + done) found new

-- ---- buffers

-- From place n on a buffer is as it was.
pub record KeepsRest {X : Type 0} (default : X) (n : ℕ) (old new : List X) : Type 0 where
  pub rest : (j : ℕ) → n ≤ j → get_or new j default ≡ get_or old j default
  pub same_length : length new ≡ length old

-- an integer is within the limits; other items have none
abbrev pub IsLimited : ItemKind → Value → Type 0
IsLimited (integers low high) (whole z) = (low ≤ℤ z) × (z ≤ℤ high)
IsLimited (integers low high) (word n) = ⊥
IsLimited (integers low high) (octets t) = ⊥
IsLimited (words w) value = Unit {0}
IsLimited strings value = Unit {0}

-- the items in the first n places are
abbrev pub AreLimited : {X : Type 0} → X → (X → Value) → ItemKind → ℕ → List X → Type 0
AreLimited default value kind n out = (j : ℕ) → j < n → IsLimited kind (value (get_or out j default))

-- n items were read into the first places of a buffer, each within the limits
pub record ReadsInto {X : Type 0} (default : X) (value : X → Value) (source : SourceView) (before : State) (n : ℕ) (old new : List X) (source' : SourceView) (after : State) : Type 0 where
  pub rest : KeepsRest default n old new
  pub within : AreLimited default value (kind_of before.items) n new
  pub reads : ReadsRecords source before before.chunk.at n n (λ j. value (get_or new j default)) source' after

-- Of the wanted items `done` were read into the first places of a buffer.
pub record StopsInto {X : Type 0} (default : X) (value : X → Value) (source : SourceView) (before : State) (want done : ℕ) (found : ReadFault) (old new : List X) (source' : SourceView) (after : State) : Type 0 where
  pub rest : KeepsRest default done old new
  pub within : AreLimited default value (kind_of before.items) done new
  pub stops : StopsRecords source before before.chunk.at want done found (λ j. value (get_or new j default)) source' after
