-- The fields of a cloud, judged side by side, some records after others.
use Rattle.std.specs.Prelude.{◌≡◌, ℕ, ◌+◌, ◌-◌, ◌≤◌, List, [], ◌∷◌, length, take, drop, Option, Some, None, IfSome, Result, Ok, Err}
use Rattle.std.specs.List.{AllByRecursion}
use Rattle.std.specs.Option.{option_or}
use Rattle.e57_base.specs.Count.{Rose}
use Rattle.e57_base.specs.Source.{SourceView}
use Rattle.e57_base.specs.declared.fault.Fault.{Fault}
use Rattle.e57_base.specs.declared.fault.OpenFault.{OpenFault}
use Rattle.e57_base.specs.declared.fault.OpenFault.TheVariants.{Refused, Source, Memory}
use Rattle.e57_layout.specs.declared.section.Section.{Section}
use Rattle.e57_layout.specs.declared.field.Fixed.{Fixed}
use Rattle.e57_cloud.specs.Chunks.{chunks}
use Rattle.e57_cloud.specs.Cloud.{Leaf, fields_fault, IsBodySound}
use Rattle.e57_cloud.specs.PathItem.{item_of, first_refusal}
use Rattle.e57_check.specs.Asking.{AsksWhere}
use Rattle.e57_column.specs.Column.{placed, column_item, leaf_of, StandsIn}
use Rattle.e57_column.specs.Reading.{SameField, KeepsStanding}
use Rattle.e57_column.specs.declared.state.State.{State}
use Rattle.e57_check.specs.declared.row.Row.{Row}

-- ---- columns of one section

-- The column is one of the section's, and its next record is this one.
pub record IsAt (s : Section) (a : ℕ) (c : State) : Type 0 where
  pub section : c.stream.section ≡ s
  pub at_record : placed c ≡ Some a

abbrev pub AllAt : Section → ℕ → List State → Type 0
AllAt s a cs = AllByRecursion (IsAt s a) cs

abbrev pub AllStand : List ℕ → List State → Type 0
AllStand file cs = AllByRecursion (StandsIn file) cs

-- each column is of the same field as before
unfoldable pub SameFields : List State → List State → Type 0
SameFields [] [] = Unit {0}
SameFields [] (d ∷ ds) = ⊥
SameFields (c ∷ cs) [] = ⊥
SameFields (c ∷ cs) (d ∷ ds) = SameField c d × SameFields cs ds

-- the first fault of columns in order, each over its n records from record a on
unfoldable pub columns_fault : List ℕ → List State → ℕ → ℕ → Option Fault
columns_fault file [] a n = None
columns_fault file (c ∷ cs) a n = option_or (first_refusal (column_item file c) a n) (columns_fault file cs a n)

-- ---- one column

-- a fault of items, if there is one, where the column stands in the file
abbrev pub IsBlockFault : SourceView → State → ℕ → ℕ → Option Fault → Type 0
IsBlockFault old c a n found = IfSome old.held (λ file. StandsIn file c → first_refusal (column_item file c) a n ≡ found)

-- The n records from record a on were read, and none has a fault.
pub record ReadsBlock (count : ℕ) (old : SourceView) (before : State) (a n : ℕ) (new : SourceView) (after : State) : Type 0 where
  pub source : AsksWhere (λ file. StandsIn file before) count old new
  pub at_record : placed after ≡ Some (a + n)
  pub same : SameField before after
  pub stands : KeepsStanding old before after
  pub sound : IsBlockFault old before a n None

-- why they weren't: the first fault of an item, the source failed, or memory ran out
abbrev pub IsBlockCause : SourceView → State → ℕ → ℕ → OpenFault → SourceView → Type 0
IsBlockCause old before a n (Refused found) new = IsBlockFault old before a n (Some found)
IsBlockCause old before a n Source new = Rose old.faults new.faults
IsBlockCause old before a n Memory new = Unit {0}

pub record ReadsNoBlock (count : ℕ) (old : SourceView) (before : State) (a n : ℕ) (found : OpenFault) (new : SourceView) : Type 0 where
  pub source : AsksWhere (λ file. StandsIn file before) count old new
  pub cause : IsBlockCause old before a n found new

-- ---- a row of columns

-- the first of these columns has this fault, and without one there is no column
abbrev pub FirstHas : List ℕ → List State → ℕ → ℕ → Option Fault → Type 0
FirstHas file [] a n found = found ≡ None
FirstHas file (c ∷ cs) a n None = ⊥
FirstHas file (c ∷ cs) a n (Some f) = first_refusal (column_item file c) a n ≡ Some f

-- what is so in a file in which the columns stand: the first j of them have no fault and stand there still, the next one has
pub record RowIs (file : List ℕ) (cs : List State) (a n j : ℕ) (found : Option Fault) (cs' : List State) : Type 0 where
  pub sound : columns_fault file (take j cs) a n ≡ None
  pub stand : AllStand file (take j cs')
  pub next : FirstHas file (drop j cs) a n found

-- The n records from record a on were read of the first j columns, and the next one has this fault.
pub record ReadsRow (count : ℕ) (old : SourceView) (s : Section) (cs : List State) (a n j : ℕ) (found : Option Fault) (new : SourceView) (cs' : List State) : Type 0 where
  pub source : AsksWhere (λ file. AllStand file cs) count old new
  pub few : j ≤ length cs
  pub as_many : length cs' ≡ length cs
  pub all : AllAt s (a + n) (take j cs')
  pub same : SameFields (take j cs) (take j cs')
  pub told : IfSome old.held (λ file. AllStand file cs → RowIs file cs a n j found cs')

-- why a call gave up: the source failed, or memory ran out
abbrev pub IsGiveUp : SourceView → OpenFault → SourceView → Type 0
IsGiveUp old (Refused found) new = ⊥
IsGiveUp old Source new = Rose old.faults new.faults
IsGiveUp old Memory new = Unit {0}

-- it isn't that the file has a fault
abbrev pub IsNoRefusal : OpenFault → Type 0
IsNoRefusal (Refused found) = ⊥
IsNoRefusal Source = Unit {0}
IsNoRefusal Memory = Unit {0}

pub record ReadsNoRow (count : ℕ) (old : SourceView) (cs : List State) (found : OpenFault) (new : SourceView) : Type 0 where
  pub source : AsksWhere (λ file. AllStand file cs) count old new
  pub cause : IsGiveUp old found new

-- what is answered where column j stopped
abbrev pub stopped_row : ℕ → OpenFault → Result Row OpenFault
stopped_row j (Refused found) = Ok (record { passed = j; found = Some found })
stopped_row j Source = Err Source
stopped_row j Memory = Err Memory

-- ---- all fields

-- Where index, packets and chunks of a section have no fault, the fields' first fault is that of these columns from record a on,
-- or else this one.
abbrev pub Judges : SourceView → Section → Option Fixed → List Leaf → ℕ → List State → Option Fault → Type 0
Judges old s fixed leaves a cs found = IfSome old.held (λ file. IsBodySound file s fixed → fields_fault 0 leaves (chunks file s fixed) ≡ option_or (columns_fault file cs a (s.count - a)) found)

-- The columns of the fields whose items take bits were opened, up to the first one whose first item has a fault.
pub record OpensColumns (count : ℕ) (old : SourceView) (s : Section) (fixed : Option Fixed) (leaves : List Leaf) (cs : List State) (found : Option Fault) (new : SourceView) : Type 0 where
  pub source : AsksWhere (λ file. Unit {0}) count old new
  pub all : AllAt s 0 cs
  pub stand : IfSome old.held (λ file. AllStand file cs)
  pub judged : Judges old s fixed leaves 0 cs found

pub record GivesUp (count : ℕ) (old : SourceView) (found : OpenFault) (new : SourceView) : Type 0 where
  pub source : AsksWhere (λ file. Unit {0}) count old new
  pub cause : IsGiveUp old found new

-- The n records from record a on were judged: what is left of the columns is one block further on.
pub record JudgesBlock (count : ℕ) (old : SourceView) (s : Section) (cs : List State) (found : Option Fault) (a n : ℕ) (new : SourceView) (cs' : List State) (found' : Option Fault) : Type 0 where
  pub source : AsksWhere (λ file. AllStand file cs) count old new
  pub all : AllAt s (a + n) cs'
  pub stand : IfSome old.held (λ file. AllStand file cs → AllStand file cs')
  pub told : IfSome old.held (λ file. AllStand file cs → (m : ℕ) → option_or (columns_fault file cs a (n + m)) found ≡ option_or (columns_fault file cs' (a + n) m) found')

-- ---- one column is opened

-- The column of field f was opened, at record 0.
pub record OpensColumn (count : ℕ) (old : SourceView) (s : Section) (fixed : Option Fixed) (f : ℕ) (leaf : Leaf) (c : State) (new : SourceView) : Type 0 where
  pub source : AsksWhere (λ file. Unit {0}) count old new
  pub is_at : IsAt s 0 c
  pub fixed_is : c.stream.fixed ≡ fixed
  pub field_is : c.stream.field ≡ f
  pub leaf_is : leaf_of c ≡ leaf
  pub stands : IfSome old.held (λ file. StandsIn file c)

abbrev pub IsColumnCause : SourceView → Section → Option Fixed → ℕ → Leaf → OpenFault → SourceView → Type 0
IsColumnCause old s fixed f leaf (Refused found) new = IfSome old.held (λ file. item_of file s fixed f leaf 0 ≡ Err found)
IsColumnCause old s fixed f leaf Source new = Rose old.faults new.faults
IsColumnCause old s fixed f leaf Memory new = Unit {0}

pub record OpensNoColumn (count : ℕ) (old : SourceView) (s : Section) (fixed : Option Fixed) (f : ℕ) (leaf : Leaf) (found : OpenFault) (new : SourceView) : Type 0 where
  pub source : AsksWhere (λ file. Unit {0}) count old new
  pub cause : IsColumnCause old s fixed f leaf found new
