-- What it is to fill a block, and what it leaves.
use Rattle.std.specs.Prelude.{◌≡◌, ℕ, ◌+◌, ◌<◌, ◌≤◌, ◌⊎◌, min, true, List, length, Option, Some, None, IsSome, IfSome, Result, Ok, Err}
use Rattle.e57_base.specs.Count.{Rose}
use Rattle.e57_base.specs.Source.{SourceView}
use Rattle.e57_base.specs.declared.fault.Fault.{Fault}
use Rattle.e57_base.specs.declared.fault.OpenFault.{OpenFault}
use Rattle.e57_base.specs.declared.fault.OpenFault.TheVariants.{Refused, Source, Memory}
use Rattle.e57_base.specs.declared.fault.ReadFault.{ReadFault}
use Rattle.e57_base.specs.declared.fault.ReadFault.TheVariants as stopped
use Rattle.e57_layout.specs.Values.{item_kind, strings, Value, octets}
use Rattle.e57_layout.specs.declared.field.Field.{Field}
use Rattle.e57_layout.specs.declared.field.Fixed.{Fixed}
use Rattle.e57_layout.specs.declared.section.Section.{Section}
use Rattle.e57_texts.specs.Reading.{string_held}
use Rattle.e57_column.specs.declared.state.State.{State}
use Rattle.e57_column.specs.Finding.{is_column_kind}
use Rattle.e57_column.specs.Column.{kind_of, placed, column_item, StandsIn}
use Rattle.e57_column.specs.Reading.{IsOpened, SameField, KeepsStanding, AsksRecords}
use Rattle.e57_column.specs.Texts.{TooLong}
use Rattle.e57_blocks.specs.declared.buffer.Got.{Got}
use Rattle.e57_blocks.specs.declared.texts.Tried.{Tried}
use Rattle.e57_blocks.specs.declared.texts.Tried.TheVariants.{Read, Needs}
use Rattle.e57_blocks.specs.Block.{Block, AreCut, AreKept, places_of, room_of, first_room, Holds}

-- the most items of a block
abbrev pub most_places : ℕ
most_places = 65536

-- ---- a new block

-- nothing was read, so record i can be the first
abbrev pub IsNew : Block → Type 0
IsNew b = (placed b.column ≡ None) × (b.fault ≡ None)

-- It holds nothing, and so holds items of every file.
pub record OpensBlock (s : Section) (f : ℕ) (field : Field) (fixed : Option Fixed) (places : ℕ) (b : Block) : Type 0 where
  pub column : IsOpened s f field fixed b.column
  pub is_new : IsNew b
  pub none : b.count ≡ 0
  pub has_places : places_of b.buffer ≡ places
  pub room : room_of b.buffer ≡ first_room (item_kind field.kind)
  pub holds : (file : List ℕ) → Holds file b

-- Record i can be read next: it is behind the last item, or the block is new. No fault stopped it.
abbrev pub IsNextOf : Block → ℕ → Type 0
IsNextOf b i = (b.fault ≡ None) × ((placed b.column ≡ None) ⊎ (i ≡ b.first + b.count))

-- ---- items read into a buffer

-- The column is at record i. Pages were asked for on the way to n records from there on.
pub record PlacedAt (old : SourceView) (before : State) (i n : ℕ) (new : SourceView) (after : State) : Type 0 where
  pub is_at : placed after ≡ Some i
  pub same : SameField before after
  pub met : AsksRecords old before i n new
  pub stands : KeepsStanding old before after

-- what a stop behind so many items gives
abbrev pub got_of : ℕ → ReadFault → Result Got OpenFault
got_of count (stopped.Refused found) = Ok (record { count = count; fault = Some found })
got_of count stopped.Source = Err Source

-- the column is behind the items, at record i; or record i has this fault, and the column isn't placed
abbrev pub IsEnd : SourceView → State → ℕ → Option Fault → State → Type 0
IsEnd old before i None after = placed after ≡ Some i
IsEnd old before i (Some found) after =
    (placed after ≡ None) × (is_column_kind found.kind ≡ true) × IfSome old.held (λ file. StandsIn file before → column_item file before i ≡ Err found)

-- Of `want` records from record i on items were read, or the fault of the one behind them was met.
pub record Gets (old : SourceView) (before : State) (i want : ℕ) (got : Got) (item : ℕ → Value) (new : SourceView) (after : State) : Type 0 where
  pub some : (0 < got.count) ⊎ IsSome got.fault
  pub few : got.count ≤ want
  pub all : got.fault ≡ None → (got.count ≡ want) ⊎ (kind_of before.items ≡ strings)
  pub same : SameField before after
  pub met : AsksRecords old before i want new
  pub kept : AreKept (kind_of before.items) got.count item
  pub items : IfSome old.held (λ file. StandsIn file before → (k : ℕ) → k < got.count → column_item file before (i + k) ≡ Ok (item k))
  pub stands : KeepsStanding old before after
  pub behind : IsEnd old before (i + got.count) got.fault after

-- the string of record i has more bytes than there is room for
pub record NeedsMore (old : SourceView) (before : State) (i room : ℕ) : Type 0 where
  pub texts : kind_of before.items ≡ strings
  pub n : ℕ
  pub long : TooLong old before i room n

-- The room for strings is as it was; or it is what the string of record i needs, for which it didn't suffice.
abbrev pub IsGrown : SourceView → State → (i room room' : ℕ) → Type 0
IsGrown old before i room room' = (room' ≡ room) ⊎ TooLong old before i room room'

-- why nothing was read: the source failed; or there is no memory for a string that needs more
abbrev pub IsLost : SourceView → State → ℕ → ℕ → OpenFault → SourceView → Type 0
IsLost old before i room (Refused found) new = ⊥
IsLost old before i room Source new = Rose old.faults new.faults
IsLost old before i room Memory new = NeedsMore old before i room

-- the column isn't placed, or it is at record i
abbrev pub IsStill : ℕ → Option ℕ → Type 0
IsStill i None = Unit {0}
IsStill i (Some at) = at ≡ i

-- Nothing was read.
pub record GetsNot (old : SourceView) (before : State) (i want room : ℕ) (lost : OpenFault) (new : SourceView) (after : State) : Type 0 where
  pub same : SameField before after
  pub met : AsksRecords old before i want new
  pub stands : KeepsStanding old before after
  pub still : IsStill i (placed after)
  pub cause : IsLost old before i room lost new

-- strings were read into these bytes and ends
abbrev pub GetsTexts : SourceView → State → ℕ → ℕ → Got → List ℕ → List ℕ → SourceView → State → Type 0
GetsTexts old before i want got bytes ends new after = Gets old before i want got (λ k. octets (string_held 0 bytes ends k)) new after × AreCut got.count bytes ends

-- Strings were read; or not one, since the first has n bytes, more than there is room for.
abbrev pub Tries : SourceView → State → ℕ → ℕ → List ℕ → List ℕ → Tried → SourceView → State → Type 0
Tries old before i want bytes ends (Read got) new after = GetsTexts old before i want got bytes ends new after
Tries old before i want bytes ends (Needs n) new after = PlacedAt old before i want new after × TooLong old before i (length bytes) n

-- ---- a block filled

-- how many records are read at most
abbrev pub most_of : Block → ℕ → ℕ
most_of b want = min want (places_of b.buffer)

-- The block holds items from record i on, at most `want` and at most as many as it has places; of numbers all these. Or the
-- fault of the record behind them is there.
pub record Fills (old : SourceView) (before : Block) (i want : ℕ) (new : SourceView) (after : Block) : Type 0 where
  pub first : after.first ≡ i
  pub some : (0 < after.count) ⊎ IsSome after.fault
  pub few : after.count ≤ most_of before want
  pub all : after.fault ≡ None → (after.count ≡ most_of before want) ⊎ (kind_of before.column.items ≡ strings)
  pub places : places_of after.buffer ≡ places_of before.buffer
  pub room : IsGrown old before.column i (room_of before.buffer) (room_of after.buffer)
  pub same : SameField before.column after.column
  pub met : AsksRecords old before.column i (most_of before want) new
  pub holds : IfSome old.held (λ file. Holds file before → Holds file after)

-- It holds nothing, and record i can be read next.
pub record FillsNot (old : SourceView) (before : Block) (i want : ℕ) (lost : OpenFault) (new : SourceView) (after : Block) : Type 0 where
  pub next : IsNextOf after i
  pub none : after.count ≡ 0
  pub places : places_of after.buffer ≡ places_of before.buffer
  pub room : IsGrown old before.column i (room_of before.buffer) (room_of after.buffer)
  pub same : SameField before.column after.column
  pub met : AsksRecords old before.column i (most_of before want) new
  pub holds : IfSome old.held (λ file. Holds file before → Holds file after)
  pub cause : IsLost old before.column i (room_of before.buffer) lost new

-- ---- a block placed anew

-- The column was placed at record i, or this record has a fault.
pub record Places (old : SourceView) (before : State) (i : ℕ) (fault : Option Fault) (new : SourceView) (after : State) : Type 0 where
  pub sought : IsEnd old before i fault after
  pub same : SameField before after
  pub met : AsksRecords old before i 1 new
  pub stands : KeepsStanding old before after

-- the source failed
abbrev pub IsSourceLost : SourceView → OpenFault → SourceView → Type 0
IsSourceLost old (Refused found) new = ⊥
IsSourceLost old Source new = Rose old.faults new.faults
IsSourceLost old Memory new = ⊥

-- The column isn't placed.
pub record PlacesNone (old : SourceView) (before : State) (i : ℕ) (lost : OpenFault) (new : SourceView) (after : State) : Type 0 where
  pub nowhere : placed after ≡ None
  pub same : SameField before after
  pub met : AsksRecords old before i 1 new
  pub stands : KeepsStanding old before after
  pub cause : IsSourceLost old lost new

-- It holds nothing, and record i can be read next, or has the fault that is kept.
pub record PlacesBlock (old : SourceView) (before : Block) (i : ℕ) (new : SourceView) (after : Block) : Type 0 where
  pub first : after.first ≡ i
  pub none : after.count ≡ 0
  pub at_record : after.fault ≡ None → placed after.column ≡ Some i
  pub buffer : after.buffer ≡ before.buffer
  pub same : SameField before.column after.column
  pub met : AsksRecords old before.column i 1 new
  pub holds : IfSome old.held (λ file. StandsIn file before.column → Holds file after)

-- It holds nothing, and record i can be read next.
pub record PlacesNot (old : SourceView) (before : Block) (i : ℕ) (lost : OpenFault) (new : SourceView) (after : Block) : Type 0 where
  pub next : IsNextOf after i
  pub none : after.count ≡ 0
  pub buffer : after.buffer ≡ before.buffer
  pub same : SameField before.column after.column
  pub met : AsksRecords old before.column i 1 new
  pub holds : IfSome old.held (λ file. StandsIn file before.column → Holds file after)
  pub cause : IsSourceLost old lost new
