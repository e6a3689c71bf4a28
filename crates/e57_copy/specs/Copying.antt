-- What it is to copy some records of a section into a cloud that is written.
use Rattle.std.specs.Prelude.{◌≡◌, ◌⊎◌, ℕ, ◌+◌, ◌<◌, ◌≤◌, true, List, map, slice_get, Some, IfSome, Ok}
use Rattle.std.specs.List.{AllByRecursion}
use Rattle.e57_base.specs.Count.{Rose}
use Rattle.e57_base.specs.Source.{SourceView}
use Rattle.e57_base.specs.Target.{TargetView}
use Rattle.e57_base.specs.declared.fault.AskFault.TheVariants as of_ask
use Rattle.e57_base.specs.declared.fault.AskFault.{AskFault}
use Rattle.e57_base.specs.declared.fault.Fault.{Fault}
use Rattle.e57_base.specs.declared.fault.RunFault.{RunFault}
use Rattle.e57_base.specs.declared.fault.RunFault.TheVariants.{Refused, Source, Out, Memory, Ask}
use Rattle.e57_base.specs.declared.kind.Kind.TheVariants.{ValueRange}
use Rattle.e57_layout.specs.Items.{IsItem}
use Rattle.e57_layout.specs.Values.{ItemKind, Value}
use Rattle.e57_cloud.specs.Cloud.{Leaf}
use Rattle.e57_cloud.specs.PathItem.{item_of}
use Rattle.e57_page_out.specs.Sequences.{Leaves}
use Rattle.e57_page_out.specs.Writing.{Writing}
use Rattle.e57_stream.specs.Asking.{AsksMet}
use Rattle.e57_column.specs.Finding.{is_column_kind}
use Rattle.e57_blocks.specs.Fields.{Blocks, Slice, OnSlice, field_of, record_fault, AreInSection, AreOfFile, IsReady}
use Rattle.e57_chunk_out.specs.CloudCalls.{HasStrings}
use Rattle.e57_chunk_out.specs.Standing.{Cloud}
use Rattle.e57_copy.specs.Found.{AreFoundColumns}
use Rattle.e57_copy.specs.Adding.{AddsRecords, PassesWith}

-- Blocks of a section that stand before record i.
pub record StandBefore (b : Blocks) (i : ℕ) (source : SourceView) : Type 0 where
  pub all : AreInSection b
  pub ready : AllByRecursion (IsReady i) b.blocks
  pub holds : AreOfFile source b.blocks

-- they are blocks of the same fields of the same section
pub record AreSame (old new : Blocks) : Type 0 where
  pub section : new.section ≡ old.section
  pub with_fixed : new.fixed ≡ old.fixed
  pub fields : map field_of new.blocks ≡ map field_of old.blocks

-- these columns are the items of the file, where it is told
abbrev pub AreOfSlice : Slice → SourceView → List (List Value) → Type 0
AreOfSlice a source columns = IfSome source.held (λ file. AreFoundColumns file a.section a.fixed a.asked a.from columns)

-- The first n records of a slice were put, as the file has them; the blocks stand before the next one.
pub record CopiesFirst {T : Type 0} (view : T → TargetView) (a : Slice) (n : ℕ) (old : SourceView) (c : Cloud) (out : Writing T) (new : SourceView) (b : Blocks) (c' : Cloud) (out' : Writing T) : Type 0 where
  pub within : n ≤ a.count
  pub before : StandBefore b (a.from + n) new
  pub columns : List (List Value)
  pub found : AreOfSlice a old columns
  pub adds : AddsRecords view n columns c out c' out'

-- All of them were. Only pages on the way to their items were asked for.
pub record CopiesAll {T : Type 0} (view : T → TargetView) (a : Slice) (old : SourceView) (c : Cloud) (out : Writing T) (new : SourceView) (b : Blocks) (c' : Cloud) (out' : Writing T) : Type 0 where
  pub met : AsksMet (OnSlice a) old new
  pub copies : CopiesFirst view a a.count old c out new b c' out'

-- Some of its records were put, and what stopped the copying is of the one behind them.
pub record StopsAt {T : Type 0} (view : T → TargetView) (a : Slice) (old : SourceView) (c : Cloud) (out : Writing T) (new : SourceView) (b : Blocks) (c' : Cloud) (out' : Writing T) (stop : ℕ → Type 0) : Type 0 where
  pub n : ℕ
  pub short : n < a.count
  pub copies : CopiesFirst view a n old c out new b c' out'
  pub stopped : stop (a.from + n)

-- The packets that are whole with some first records of a slice, as the file has them, would pass the last page.
pub record PassesIn {T : Type 0} (a : Slice) (old : SourceView) (c : Cloud) (out : Writing T) : Type 0 where
  pub n : ℕ
  pub some : 0 < n
  pub few : n ≤ a.count
  pub columns : List (List Value)
  pub found : AreOfSlice a old columns
  pub passes : PassesWith n columns c out

-- the new file can't be written on, nor the cloud
pub record AreSpent {T : Type 0} (c : Cloud) (out : Writing T) : Type 0 where
  pub cloud : c.is_spent ≡ true
  pub file : out.is_spent ≡ true

abbrev pub IsLargeCause : {T : Type 0} → Slice → SourceView → Cloud → Writing T → AskFault → Type 0
IsLargeCause a old c out of_ask.Large = PassesIn a old c out
IsLargeCause a old c out why = ⊥

-- The item of some asked field and record i isn't one of the kind that the cloud has for this field.
pub record IsOutside (a : Slice) (kinds : List ItemKind) (file : List ℕ) (i : ℕ) : Type 0 where
  pub j : ℕ
  pub field : ℕ × Leaf
  pub asked : slice_get a.asked j ≡ Some field
  pub kind : ItemKind
  pub of_cloud : slice_get kinds j ≡ Some kind
  pub value : Value
  pub item : item_of file a.section a.fixed field.0 field.1 i ≡ Ok value
  pub outside : IsItem kind value → ⊥

-- Some of its records were put, and a later one of them, which the fault names, has a value outside of the cloud's limits.
pub record StopsOutside {T : Type 0} (view : T → TargetView) (a : Slice) (old : SourceView) (c : Cloud) (out : Writing T) (found : Fault) (new : SourceView) (b : Blocks) (c' : Cloud) (out' : Writing T) : Type 0 where
  pub n : ℕ
  pub copies : CopiesFirst view a n old c out new b c' out'
  pub i : ℕ
  pub after : a.from + n ≤ i
  pub before : i < a.from + a.count
  pub named : found.a ≡ i
  pub outside : IfSome old.held (λ file. IsOutside a c.kinds file i)

-- the next record has this fault, which is the first one of its fields; or a value is outside of the cloud's limits
abbrev pub IsRefusal : {T : Type 0} → (T → TargetView) → Slice → SourceView → Cloud → Writing T → Fault → SourceView → Blocks → Cloud → Writing T → Type 0
IsRefusal view a old c out found new b c' out' =
    ((is_column_kind found.kind ≡ true) × StopsAt view a old c out new b c' out' (λ i. IfSome old.held (λ file. record_fault file a.section a.fixed a.asked i ≡ Some found)))
    ⊎ ((found.kind ≡ ValueRange) × StopsOutside view a old c out found new b c' out')

-- Why not: a record has a fault, or a value that the cloud doesn't take; the source failed at a record; the target failed; the
-- new file would be too large; or memory ran out, which is wanted for strings alone.
abbrev pub IsCopyCause : {T : Type 0} → (T → TargetView) → Slice → SourceView → Cloud → Writing T → RunFault → SourceView → Blocks → Cloud → Writing T → Type 0
IsCopyCause view a old c out (Refused found) new b c' out' = IsRefusal view a old c out found new b c' out'
IsCopyCause view a old c out Source new b c' out' = StopsAt view a old c out new b c' out' (λ i. Rose old.faults new.faults)
IsCopyCause view a old c out Out new b c' out' = AreSpent c' out' × Rose (view out.target).faults (view out'.target).faults
IsCopyCause view a old c out Memory new b c' out' = HasStrings c.kinds
IsCopyCause view a old c out (Ask why) new b c' out' = AreSpent c' out' × IsLargeCause a old c out why

-- Not all of them were put. What the target holds is no whole file.
pub record CopiesNot {T : Type 0} (view : T → TargetView) (a : Slice) (old : SourceView) (c : Cloud) (out : Writing T) (fault : RunFault) (new : SourceView) (b : Blocks) (c' : Cloud) (out' : Writing T) : Type 0 where
  pub met : AsksMet (OnSlice a) old new
  pub left : Leaves view out (view out'.target)
  pub cause : IsCopyCause view a old c out fault new b c' out'
