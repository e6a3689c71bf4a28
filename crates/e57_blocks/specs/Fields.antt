-- Blocks of some fields of a section, side by side.
use Rattle.std.specs.Prelude.{◌≡◌, ℕ, ◌+◌, ◌<◌, ◌≤◌, ◌⊎◌, true, false, List, [], ◌∷◌, map, slice_index_or, Option, Some, None, IfSome, Contains, Result, Ok, Err}
use Rattle.std.specs.List.{AllByRecursion}
use Rattle.e57_base.specs.Count.{Rose}
use Rattle.e57_base.specs.Source.{SourceView}
use Rattle.e57_base.specs.declared.fault.Fault.{Fault}
use Rattle.e57_base.specs.declared.fault.OpenFault.{OpenFault}
use Rattle.e57_base.specs.declared.fault.OpenFault.TheVariants.{Refused, Source, Memory}
use Rattle.e57_layout.specs.Values.{item_kind, Value}
use Rattle.e57_layout.specs.declared.field.Field.{Field}
use Rattle.e57_layout.specs.declared.field.FieldKind.TheVariants.{Text}
use Rattle.e57_layout.specs.declared.field.Fixed.{Fixed}
use Rattle.e57_layout.specs.declared.section.Section.{Section}
use Rattle.e57_cloud.specs.Cloud.{Leaf}
use Rattle.e57_cloud.specs.Met.{OnItem}
use Rattle.e57_cloud.specs.PathItem.{item_of}
use Rattle.e57_stream.specs.Asking.{AsksMet}
use Rattle.e57_column.specs.Finding.{is_column_kind}
use Rattle.e57_column.specs.Column.{leaf_of as column_leaf, column_item}
use Rattle.e57_column.specs.Reading.{SameField, AsksRecords}
use Rattle.e57_blocks.specs.Block.{Block, has_record, room_of, Holds}
use Rattle.e57_blocks.specs.Filling.{IsNew, NeedsMore}
use Rattle.e57_blocks.specs.Runs.{HasRecords}

-- ---- the asked fields

abbrev pub no_field : Field
no_field = record { node = 0; path = []; kind = Text; width = 0 }

-- a field as the reading of a section knows it
abbrev pub leaf_of : Field → Leaf
leaf_of field = record { node = field.node; kind = item_kind field.kind }

-- field f of these fields
abbrev pub field_at : List Field → ℕ → Field
field_at fields f = slice_index_or fields f no_field

-- the asked fields, by their numbers, each with its number
abbrev pub asked_of : List Field → List ℕ → List (ℕ × Leaf)
asked_of fields numbers = map (λ (f : ℕ). (f, leaf_of (field_at fields f))) numbers

-- the asked fields of some records of a section, one or more: the first of them, and how many
pub record Slice : Type 0 where
  pub section : Section
  pub fixed : Option Fixed
  pub asked : List (ℕ × Leaf)
  pub from : ℕ
  pub count : ℕ

-- that of the asked fields of a cloud, by their numbers
abbrev pub slice_of : Section → Option Fixed → List Field → List ℕ → ℕ → ℕ → Slice
slice_of s fixed fields asked from count = record { section = s; fixed = fixed; asked = asked_of fields asked; from = from; count = count }

-- page p is one on the way to the item of one of its fields and records
pub record OnSlice (a : Slice) (file : List ℕ) (p : ℕ) : Type 0 where
  pub f : ℕ
  pub leaf : Leaf
  pub i : ℕ
  pub asks : Contains a.asked (f, leaf)
  pub after : a.from ≤ i
  pub before : i < a.from + a.count
  pub way : OnItem file a.section a.fixed f leaf i p

-- ---- the fault of a record

abbrev pub fault_before : Result Value Fault → Option Fault → Option Fault
fault_before (Ok value) later = later
fault_before (Err found) later = Some found

-- the first fault among the items of these fields, in their order, where each has an item or a fault
unfoldable pub first_fault : (ℕ → Leaf → Result Value Fault) → List (ℕ × Leaf) → Option Fault
first_fault item [] = None
first_fault item ((f, leaf) ∷ asked) = fault_before (item f leaf) (first_fault item asked)

-- that of record i of a section
abbrev pub record_fault : List ℕ → Section → Option Fixed → List (ℕ × Leaf) → ℕ → Option Fault
record_fault file s fixed asked i = first_fault (λ f leaf. item_of file s fixed f leaf i) asked

-- ---- blocks

-- the field of a block, with its number
abbrev pub field_of : Block → ℕ × Leaf
field_of b = (b.column.stream.field, column_leaf b.column)

-- it is a block of this section
pub record IsOf (s : Section) (fixed : Option Fixed) (b : Block) : Type 0 where
  pub in_section : b.column.stream.section ≡ s
  pub with_fixed : b.column.stream.fixed ≡ fixed

-- they are the blocks of these fields of the section, in this order
pub record AreBlocks (s : Section) (fixed : Option Fixed) (asked : List (ℕ × Leaf)) (blocks : List Block) : Type 0 where
  pub fields : map field_of blocks ≡ asked
  pub all : AllByRecursion (IsOf s fixed) blocks

-- blocks of fields of a section
pub record Blocks : Type 0 where
  pub section : Section
  pub fixed : Option Fixed
  pub blocks : List Block

-- whatever the file
abbrev pub AreInSection : Blocks → Type 0
AreInSection b = AllByRecursion (IsOf b.section b.fixed) b.blocks

-- their fields, and the n records from record i on
abbrev pub slice_at : Blocks → ℕ → ℕ → Slice
slice_at b i n = record { section = b.section; fixed = b.fixed; asked = map field_of b.blocks; from = i; count = n }

-- Record i can be looked at next: nothing was read; or it is one of the records that are held, or the one behind them.
abbrev pub IsReady : ℕ → Block → Type 0
IsReady i b = (IsNew b × (b.count ≡ 0)) ⊎ ((b.first ≤ i) × (i ≤ b.first + b.count))

-- the blocks hold items of the file, where it is told
abbrev pub AreOfFile : SourceView → List Block → Type 0
AreOfFile source blocks = IfSome source.held (λ file. AllByRecursion (Holds file) blocks)

-- Blocks of these fields, which hold no items yet.
pub record OpensBlocks (s : Section) (fixed : Option Fixed) (asked : List (ℕ × Leaf)) (blocks : List Block) : Type 0 where
  pub are : AreBlocks s fixed asked blocks
  pub ready : (i : ℕ) → AllByRecursion (IsReady i) blocks
  pub holds : (file : List ℕ) → AllByRecursion (Holds file) blocks

-- they are of this section
pub record AreOf (s : Section) (fixed : Option Fixed) (b : Blocks) : Type 0 where
  pub in_section : b.section ≡ s
  pub with_fixed : b.fixed ≡ fixed

-- ---- one block filled

-- what is kept of a block, and which pages were asked for, where up to `want` records from record i on were read
pub record KeepsBlock (old : SourceView) (before : Block) (i want : ℕ) (new : SourceView) (after : Block) : Type 0 where
  pub same : SameField before.column after.column
  pub met : AsksRecords old before.column i want new
  pub holds : IfSome old.held (λ file. Holds file after)

-- record i isn't held, and the block has a fault: this one
abbrev pub HeldNot : Block → ℕ → OpenFault → Type 0
HeldNot b i (Refused found) = (has_record b i ≡ false) × (b.fault ≡ Some found) × (is_column_kind found.kind ≡ true)
HeldNot b i Source = ⊥
HeldNot b i Memory = ⊥

-- n records from record i on are held, one at least, and none behind them
pub record HoldsFrom (i n : ℕ) (b : Block) : Type 0 where
  pub some : 0 < n
  pub low : b.first ≤ i
  pub end : i + n ≡ b.first + b.count

-- It holds n records from record i on.
pub record FillsBlock (old : SourceView) (before : Block) (i want n : ℕ) (new : SourceView) (after : Block) : Type 0 where
  pub keeps : KeepsBlock old before i want new after
  pub records : HoldsFrom i n after

-- why record i isn't held: it has a fault, the source failed, or its string needs memory and there is none
abbrev pub IsBlockCause : SourceView → Block → ℕ → OpenFault → SourceView → Type 0
IsBlockCause old before i (Refused found) new = (is_column_kind found.kind ≡ true) × IfSome old.held (λ file. column_item file before.column i ≡ Err found)
IsBlockCause old before i Source new = Rose old.faults new.faults
IsBlockCause old before i Memory new = NeedsMore old before.column i (room_of before.buffer)

pub record FillsNoBlock (old : SourceView) (before : Block) (i want : ℕ) (lost : OpenFault) (new : SourceView) (after : Block) : Type 0 where
  pub keeps : KeepsBlock old before i want new after
  pub ready : IsReady i after
  pub cause : IsBlockCause old before i lost new

-- ---- all blocks filled

-- All blocks hold n records of a slice, from its first one on, and no more: all that are wanted, or one block has no more.
pub record FillsBlocks (a : Slice) (old : SourceView) (n : ℕ) (new : SourceView) (after : List Block) : Type 0 where
  pub are : AreBlocks a.section a.fixed a.asked after
  pub some : 0 < n
  pub few : n ≤ a.count
  pub have : AllByRecursion (HasRecords a.from n) after
  pub most : n < a.count → AllByRecursion (HasRecords a.from (n + 1)) after → ⊥
  pub met : AsksMet (OnSlice a) old new
  pub holds : AreOfFile old after

-- why not: the first record of the slice has a fault, which is the first one of its fields; the source failed; or one of the
-- blocks needs memory for a string of that record and there is none
abbrev pub IsBlocksCause : Slice → SourceView → List Block → OpenFault → SourceView → Type 0
IsBlocksCause a old before (Refused found) new = (is_column_kind found.kind ≡ true) × IfSome old.held (λ file. record_fault file a.section a.fixed a.asked a.from ≡ Some found)
IsBlocksCause a old before Source new = Rose old.faults new.faults
IsBlocksCause a old before Memory new = (b : Block) × Contains before b × NeedsMore old b.column a.from (room_of b.buffer)

-- Its first record can be looked at again.
pub record FillsNoBlocks (a : Slice) (old : SourceView) (before : List Block) (lost : OpenFault) (new : SourceView) (after : List Block) : Type 0 where
  pub are : AreBlocks a.section a.fixed a.asked after
  pub ready : AllByRecursion (IsReady a.from) after
  pub met : AsksMet (OnSlice a) old new
  pub holds : AreOfFile old after
  pub cause : IsBlocksCause a old before lost new
