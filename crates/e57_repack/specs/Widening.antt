-- Ranges that are widened by the items of a file.
use Rattle.std.specs.Prelude.{◌≡◌, ℕ, ◌+◌, ◌<◌, ℤ, List, [], ◌∷◌, length, Option, Some, None, IfSome}
use Rattle.std.specs.Int.{int_min, int_max}
use Rattle.std.specs.List.{AllByRecursion}
use Rattle.e57_base.specs.Count.{Rose}
use Rattle.e57_base.specs.Source.{SourceView}
use Rattle.e57_base.specs.declared.fault.OpenFault.{OpenFault}
use Rattle.e57_base.specs.declared.fault.OpenFault.TheVariants.{Refused, Source, Memory}
use Rattle.e57_base.specs.declared.fault.Fault.{Fault}
use Rattle.e57_layout.specs.Values.{Value}
use Rattle.e57_stream.specs.Asking.{AsksMet}
use Rattle.e57_blocks.specs.Fields.{Slice, OnSlice, record_fault}
use Rattle.e57_copy.specs.Copying.{AreOfSlice}
use Rattle.e57_layout.specs.declared.field.Field.{Field}
use Rattle.e57_nodes.specs.Items.{StatedItem}
use Rattle.e57_verdict.specs.Things.{Thing, body_of}
use Rattle.e57_check.specs.Asking.{AsksWhere}
use Rattle.e57_copy.specs.Items.{IsSoundThing}
use Rattle.e57_plain.specs.Tight.{range_of, field_items, node_items}
use Rattle.e57_edits.specs.declared.limits.Range.{Range}
use Rattle.e57_edits.specs.Ranges.{range_at}

-- the least and the greatest of what two ranges cover
abbrev pub joined : Option (ℤ × ℤ) → Option (ℤ × ℤ) → Option (ℤ × ℤ)
joined None other = other
joined (Some range) None = Some range
joined (Some range) (Some other) = Some (int_min range.0 other.0, int_max range.1 other.1)

-- each entry covers what it did, and the items of its node among these columns
abbrev pub AreWidened : List (Option Range) → List Field → List (List Value) → List (Option Range) → Type 0
AreWidened old fields columns new = (n : ℕ) → range_at new n ≡ joined (range_at old n) (range_of (field_items n fields columns))

-- ---- the records of a cloud

-- The items of the first n records of a slice widened the entries: those that they have in the file.
pub record WidensFirst (a : Slice) (n : ℕ) (fields : List Field) (old : SourceView) (before after : List (Option Range)) : Type 0 where
  pub columns : List (List Value)
  pub as_many : length columns ≡ length fields
  pub long : AllByRecursion (λ (column : List Value). length column ≡ n) columns
  pub found : AreOfSlice a old columns
  pub widened : AreWidened before fields columns after

-- Those of all of them did. Only pages on the way to their items were asked for.
pub record WidensAll (a : Slice) (fields : List Field) (old : SourceView) (before : List (Option Range)) (new : SourceView) (after : List (Option Range)) : Type 0 where
  pub met : AsksMet (OnSlice a) old new
  pub first : WidensFirst a a.count fields old before after

-- One of its records has this fault.
pub record HasFault (a : Slice) (found : Fault) (file : List ℕ) : Type 0 where
  pub i : ℕ
  pub before : i < a.from + a.count
  pub is : record_fault file a.section a.fixed a.asked i ≡ Some found

abbrev pub IsRecordCause : Slice → SourceView → OpenFault → SourceView → Type 0
IsRecordCause a old (Refused found) new = IfSome old.held (HasFault a found)
IsRecordCause a old Source new = Rose old.faults new.faults
IsRecordCause a old Memory new = Unit {0}

-- They did not: a record has a fault, the source failed, or memory ran out.
pub record WidensNot (a : Slice) (old : SourceView) (fault : OpenFault) (new : SourceView) : Type 0 where
  pub met : AsksMet (OnSlice a) old new
  pub cause : IsRecordCause a old fault new

-- ---- an item

-- The items of a cloud's fields widened the entries, where it has no fault; a blob changes none.
pub record WidensByItem (stated : StatedItem) (thing : Thing) (count : ℕ) (old : SourceView) (before : List (Option Range)) (new : SourceView) (after : List (Option Range)) : Type 0 where
  pub source : AsksWhere (λ file. Unit {0}) count old new
  pub widened : IfSome old.held (λ file. IsSoundThing thing file
      → (n : ℕ) → range_at after n ≡ joined (range_at before n) (range_of (node_items n (stated ∷ []) (body_of file thing ∷ []))))

abbrev pub IsItemCause : Thing → SourceView → OpenFault → SourceView → Type 0
IsItemCause thing old (Refused found) new = IfSome old.held (λ file. IsSoundThing thing file → ⊥)
IsItemCause thing old Source new = Rose old.faults new.faults
IsItemCause thing old Memory new = Unit {0}

-- They did not: the cloud has a fault, the source failed, or memory ran out.
pub record WidensNotByItem (thing : Thing) (count : ℕ) (old : SourceView) (fault : OpenFault) (new : SourceView) : Type 0 where
  pub source : AsksWhere (λ file. Unit {0}) count old new
  pub cause : IsItemCause thing old fault new
