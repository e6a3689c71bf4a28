-- The columns of a cloud read, and the raw numbers of the first one added up.
use Rattle.std.specs.Prelude.{◌≡◌, ℕ, ◌%◌, ◌^◌, List, [], length, get_or, None, IfSome}
use Rattle.std.specs.Int.{w64, cast_unsigned}
use Rattle.std.specs.List.{sum_by, AllByRecursion}
use Rattle.e57_base.specs.Source.{SourceView}
use Rattle.e57_base.specs.declared.fault.OpenFault.{OpenFault}
use Rattle.e57_layout.specs.Values.{Value, whole, word, octets}
use Rattle.e57_cloud.specs.Cloud.{Cloud, cloud_fault, records_of}
use Rattle.e57_stream.specs.Asking.{AsksMet}
use Rattle.e57_blocks.specs.Fields.{Slice, OnSlice}
use Rattle.e57_elements.specs.Tree.{Element}
use Rattle.e57_nodes.specs.Items.{leaves_of}
use Rattle.e57_tree.specs.Held.{cloud_in, fields_in}
use Rattle.e57_verdict.specs.Things.{cloud_thing}
use Rattle.e57_check.specs.Asking.{AsksWhere}
use Rattle.e57_check.specs.Clouds.{cloud_of}
use Rattle.e57_copy.specs.Copying.{AreOfSlice}
use Rattle.e57_repack.specs.Widening.{IsItemCause, IsRecordCause}

-- ---- a sum

-- the raw number of an integer, in its 64 bits; 0 of another item
abbrev pub raw_number : Value → ℕ
raw_number (whole z) = cast_unsigned w64 z
raw_number (word n) = 0
raw_number (octets t) = 0

-- the sum of those of a column, modulo 2 ^ 64
unfoldable pub column_sum : List Value → ℕ
column_sum values = sum_by raw_number values % 2 ^ 64

-- that of the first of some columns
abbrev pub first_sum : List (List Value) → ℕ
first_sum columns = column_sum (get_or columns 0 [])

-- ---- the records of a slice

-- Of the first n records of a slice the items were read, a column for each field: those that the file has. The sum is that
-- of the first column.
pub record SumsFirst (a : Slice) (n : ℕ) (old : SourceView) (total : ℕ) : Type 0 where
  pub columns : List (List Value)
  pub as_many : length columns ≡ length a.asked
  pub long : AllByRecursion (λ (column : List Value). length column ≡ n) columns
  pub found : AreOfSlice a old columns
  pub sum : total ≡ first_sum columns

-- Those of all its records were. Only pages on the way to these items were asked for.
pub record SumsAll (a : Slice) (old : SourceView) (total : ℕ) (new : SourceView) : Type 0 where
  pub met : AsksMet (OnSlice a) old new
  pub first : SumsFirst a a.count old total

-- They were not: a record has a fault, the source failed, or memory ran out.
pub record SumsNot (a : Slice) (old : SourceView) (fault : OpenFault) (new : SourceView) : Type 0 where
  pub met : AsksMet (OnSlice a) old new
  pub cause : IsRecordCause a old fault new

-- ---- a cloud

-- the first cloud of a tree
abbrev pub first_cloud : Element → Cloud
first_cloud e = cloud_of (cloud_in e 0) (leaves_of (fields_in e 0))

-- The records of a cloud were read. The sum is that of its first column, where it has no fault.
pub record SumsCloud (c : Cloud) (count : ℕ) (old : SourceView) (total : ℕ) (new : SourceView) : Type 0 where
  pub source : AsksWhere (λ file. Unit {0}) count old new
  pub sum : IfSome old.held (λ file. cloud_fault file c ≡ None → total ≡ first_sum (records_of file c))

-- They were not: the cloud has a fault, the source failed, or memory ran out.
pub record SumsNoCloud (c : Cloud) (count : ℕ) (old : SourceView) (fault : OpenFault) (new : SourceView) : Type 0 where
  pub source : AsksWhere (λ file. Unit {0}) count old new
  pub cause : IsItemCause (cloud_thing c) old fault new
