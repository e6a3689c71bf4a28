-- One cloud: what judging it answers, and what it does to the source.
use Rattle.std.specs.Prelude.{◌≡◌, ℕ, ◌==◌, true, false, if◌then◌else◌, List, Option, Some, None, IfSome}
use Rattle.e57_base.specs.Count.{Rose}
use Rattle.e57_base.specs.Source.{SourceView}
use Rattle.e57_base.specs.declared.fault.Fault.{Fault}
use Rattle.e57_base.specs.declared.fault.OpenFault.{OpenFault}
use Rattle.e57_base.specs.declared.fault.OpenFault.TheVariants.{Refused, Source, Memory}
use Rattle.e57_layout.specs.declared.section.Section.{Section}
use Rattle.e57_layout.specs.declared.field.Fixed.{Fixed}
use Rattle.e57_cloud.specs.Index.{index_fault, entries}
use Rattle.e57_cloud.specs.Cloud.{Leaf, Cloud, body_fault, cloud_fault}
use Rattle.e57_tree.specs.declared.items.Cloud.{Cloud as StatedCloud}
use Rattle.e57_check.specs.Asking.{AsksWhere}
use Rattle.e57_check.specs.Starts.{AreStarts}
use Rattle.e57_check.specs.declared.starts.Starts.{Starts}
use Rattle.e57_check.specs.declared.starts.Starts.TheVariants.{Indexed, Counted}

-- why something was refused: the file has this first fault, the source failed, or memory ran out
abbrev pub IsRefusal : (List ℕ → Option Fault) → SourceView → OpenFault → SourceView → Type 0
IsRefusal judge old (Refused found) new = IfSome old.held (λ file. judge file ≡ Some found)
IsRefusal judge old Source new = Rose old.faults new.faults
IsRefusal judge old Memory new = Unit {0}

-- What is judged has no fault.
pub record HasNone (judge : List ℕ → Option Fault) (count : ℕ) (old new : SourceView) : Type 0 where
  pub source : AsksWhere (λ file. Unit {0}) count old new
  pub sound : IfSome old.held (λ file. judge file ≡ None)

pub record Refuses (judge : List ℕ → Option Fault) (count : ℕ) (old : SourceView) (found : OpenFault) (new : SourceView) : Type 0 where
  pub source : AsksWhere (λ file. Unit {0}) count old new
  pub cause : IsRefusal judge old found new

-- ---- the index

-- the first fault of the index of a section, where it has one
abbrev pub index_fault_of : Section → List ℕ → Option Fault
index_fault_of s file = if s.index == 0 then None else index_fault file s

-- the entries are the file's
abbrev pub AreOf : List ℕ → Section → Option Fixed → Starts → Type 0
AreOf file s fixed (Indexed es) = ((s.index == 0) ≡ false) × (es ≡ entries file s)
AreOf file s fixed (Counted f) = ((s.index == 0) ≡ true) × (f ≡ fixed)

-- The index has no fault, and this is what chunk starts are judged by.
pub record OpensStarts (count : ℕ) (old : SourceView) (s : Section) (fixed : Option Fixed) (starts : Starts) (new : SourceView) : Type 0 where
  pub passed : HasNone (index_fault_of s) count old new
  pub are : AreStarts s starts
  pub of_file : IfSome old.held (λ file. AreOf file s fixed starts)

abbrev pub OpensNoStarts : ℕ → SourceView → Section → OpenFault → SourceView → Type 0
OpensNoStarts count old s found new = Refuses (index_fault_of s) count old found new

-- ---- behind the index

-- the index has no fault, and this is what chunk starts are judged by
pub record IsIndexed (file : List ℕ) (s : Section) (fixed : Option Fixed) (starts : Starts) : Type 0 where
  pub sound : index_fault_of s file ≡ None
  pub are : AreOf file s fixed starts

-- No packet, chunk or field has a fault, where the index has none.
pub record JudgesRecords (count : ℕ) (old : SourceView) (s : Section) (starts : Starts) (fixed : Option Fixed) (leaves : List Leaf) (new : SourceView) : Type 0 where
  pub source : AsksWhere (λ file. Unit {0}) count old new
  pub sound : IfSome old.held (λ file. IsIndexed file s fixed starts → body_fault file s fixed leaves ≡ None)

abbrev pub IsRecordsCause : SourceView → Section → Starts → Option Fixed → List Leaf → OpenFault → SourceView → Type 0
IsRecordsCause old s starts fixed leaves (Refused found) new = IfSome old.held (λ file. IsIndexed file s fixed starts → body_fault file s fixed leaves ≡ Some found)
IsRecordsCause old s starts fixed leaves Source new = Rose old.faults new.faults
IsRecordsCause old s starts fixed leaves Memory new = Unit {0}

-- one has, or the source failed, or memory ran out
pub record RefusesRecords (count : ℕ) (old : SourceView) (s : Section) (starts : Starts) (fixed : Option Fixed) (leaves : List Leaf) (found : OpenFault) (new : SourceView) : Type 0 where
  pub source : AsksWhere (λ file. Unit {0}) count old new
  pub cause : IsRecordsCause old s starts fixed leaves found new

-- ---- behind the header

abbrev pub JudgesBody : ℕ → SourceView → Section → Option Fixed → List Leaf → SourceView → Type 0
JudgesBody count old s fixed leaves new = HasNone (λ file. body_fault file s fixed leaves) count old new

abbrev pub RefusesBody : ℕ → SourceView → Section → Option Fixed → List Leaf → OpenFault → SourceView → Type 0
RefusesBody count old s fixed leaves found new = Refuses (λ file. body_fault file s fixed leaves) count old found new

-- ---- a cloud

-- a cloud of a tree, with its fields
abbrev pub cloud_of : StatedCloud → List Leaf → Cloud
cloud_of cloud leaves = record { node = cloud.node; offset = cloud.place; count = cloud.count; leaves = leaves }

abbrev pub JudgesCloud : ℕ → SourceView → StatedCloud → List Leaf → SourceView → Type 0
JudgesCloud count old cloud leaves new = HasNone (λ file. cloud_fault file (cloud_of cloud leaves)) count old new

abbrev pub RefusesCloud : ℕ → SourceView → StatedCloud → List Leaf → OpenFault → SourceView → Type 0
RefusesCloud count old cloud leaves found new = Refuses (λ file. cloud_fault file (cloud_of cloud leaves)) count old found new
