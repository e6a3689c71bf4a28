-- The section of the records of a cloud that are kept, put into a new file.
use Rattle.std.specs.Prelude.{◌≡◌, ◌⊎◌, ℕ, ◌+◌, ◌/◌, ◌==◌, ◌<◌, ◌≤◌, List, [], ◌∷◌, length, Some, None, IfSome, if◌then◌else◌}
use Rattle.e57_base.specs.Count.{Rose}
use Rattle.e57_base.specs.Source.{SourceView}
use Rattle.e57_base.specs.Target.{TargetView}
use Rattle.e57_base.specs.declared.fault.AskFault.{AskFault}
use Rattle.e57_base.specs.declared.fault.AskFault.TheVariants as of_ask
use Rattle.e57_base.specs.declared.fault.Fault.{Fault}
use Rattle.e57_base.specs.declared.fault.RunFault.{RunFault}
use Rattle.e57_base.specs.declared.fault.RunFault.TheVariants.{Refused, Source, Out, Memory, Ask}
use Rattle.e57_layout.specs.Items.{AreColumns}
use Rattle.e57_layout.specs.Values.{ItemKind, Value}
use Rattle.e57_layout.specs.Written.{section_spelled}
use Rattle.e57_layout.specs.declared.field.Field.{Field}
use Rattle.e57_page.specs.Place.{payload_length}
use Rattle.e57_page_out.specs.Sequences.{Puts, Leaves}
use Rattle.e57_page_out.specs.Writing.{Writing, most_bytes}
use Rattle.e57_cloud.specs.Cloud.{records_of}
use Rattle.e57_nodes.specs.Items.{stated_cloud, leaves_of}
use Rattle.e57_tree.specs.declared.items.Cloud.{Cloud as StatedCloud}
use Rattle.e57_verdict.specs.Things.{records_body}
use Rattle.e57_verdict.specs.Verdict.{all_pages_fault}
use Rattle.e57_plain.specs.Valid.{kinds_in}
use Rattle.e57_plain.specs.Kept.{Selection, chosen, kept_columns as of_selection, kept_count}
use Rattle.e57_plain.specs.Written.{body_section, section_offset}
use Rattle.e57_stream.specs.Asking.{AsksMet}
use Rattle.e57_blocks.specs.Fields.{Slice, OnSlice, record_fault}
use Rattle.e57_chunk_out.specs.Standing.{in_groups}
use Rattle.e57_chunk_out.specs.Turns.{data_end}
use Rattle.e57_chunk_out.specs.declared.cloud_out.Written.{Written}
use Rattle.e57_check.specs.Asking.{AsksWhere}
use Rattle.e57_check.specs.Clouds.{cloud_of}
use Rattle.e57_copy.specs.Copying.{AreOfSlice}
use Rattle.e57_copy.specs.Found.{asked_kinds}
use Rattle.e57_copy.specs.Items.{IsSoundThing}
use Rattle.e57_copy.specs.Sections.{thing_of, PutsBody}
use Rattle.e57_filter.specs.Keeping.{Sieve, kept_columns, kept_number}
use Rattle.e57_filter.specs.declared.keep.Limits.{Limits}
use Rattle.e57_filter.specs.declared.select.FieldTest.{FieldTest}

-- ---- of a slice

-- the limits of tests, by the numbers of their blocks, of which the first one is this
abbrev pub limits_from : ℕ → List FieldTest → List Limits
limits_from b [] = []
limits_from b (test ∷ tests) = (record { block = b; low = test.low; high = test.high }) ∷ limits_from (b + 1) tests

-- the section of so many records, and nothing of none
unfoldable pub kept_section : ℕ → List ItemKind → ℕ → ℕ → List (List Value) → List ℕ
kept_section size kinds n count columns = if count == 0 then [] else section_spelled size kinds n count columns

-- The section of those records of a slice that pass was put, as the file has them, and this is its offset.
pub record PutsKept {T : Type 0} (view : T → TargetView) (s : Sieve) (m : ℕ) (a : Slice) (n : ℕ) (kinds : List ItemKind) (old new : SourceView) (out : Writing T) (written : Written) (out' : Writing T) : Type 0 where
  pub met : AsksMet (OnSlice a) old new
  pub columns : List (List Value)
  pub found : AreOfSlice a old columns
  pub full : AreColumns (asked_kinds a.asked) a.count columns
  pub number : written.count ≡ kept_number s columns a.count
  pub are : AreColumns kinds written.count (kept_columns s m columns)
  pub begins : written.place ≡ section_offset (out.size / payload_length) (kept_section out.size kinds n written.count (kept_columns s m columns))
  pub wrote : Puts view out (kept_section out.size kinds n written.count (kept_columns s m columns)) out'

-- A record of a slice has a fault.
pub record HasFault (a : Slice) (file : List ℕ) : Type 0 where
  pub i : ℕ
  pub after : a.from ≤ i
  pub before : i < a.from + a.count
  pub found : Fault
  pub is : record_fault file a.section a.fixed a.asked i ≡ Some found

-- The packets that are whole with some first records of a slice that pass, or the section of all, would pass the last page.
pub record PassesKept (s : Sieve) (m : ℕ) (a : Slice) (n : ℕ) (kinds : List ItemKind) (old : SourceView) (size : ℕ) : Type 0 where
  pub some : ℕ
  pub few : some ≤ a.count
  pub columns : List (List Value)
  pub found : AreOfSlice a old columns
  pub full : AreColumns (asked_kinds a.asked) some columns
  pub are : AreColumns kinds (kept_number s columns some) (kept_columns s m columns)
  pub past : (most_bytes < data_end size kinds n (in_groups (kept_number s columns some)) (kept_columns s m columns))
      ⊎ ((some ≡ a.count) × (0 < kept_number s columns some) × (most_bytes < size + length (section_spelled size kinds n (kept_number s columns some) (kept_columns s m columns))))

abbrev pub IsPastKept : {T : Type 0} → Sieve → ℕ → Slice → ℕ → List ItemKind → SourceView → Writing T → AskFault → Type 0
IsPastKept s m a n kinds old out of_ask.Large = PassesKept s m a n kinds old out.size
IsPastKept s m a n kinds old out why = ⊥

-- why not: a record has a fault, the source or the target failed, memory ran out, or it is too large
abbrev pub IsKeptCause : {T : Type 0} → (T → TargetView) → Sieve → ℕ → Slice → ℕ → List ItemKind → SourceView → SourceView → Writing T → RunFault → Writing T → Type 0
IsKeptCause view s m a n kinds old new out (Refused found) out' = IfSome old.held (HasFault a)
IsKeptCause view s m a n kinds old new out Source out' = Rose old.faults new.faults
IsKeptCause view s m a n kinds old new out Out out' = Rose (view out.target).faults (view out'.target).faults
IsKeptCause view s m a n kinds old new out Memory out' = Unit {0}
IsKeptCause view s m a n kinds old new out (Ask why) out' = IsPastKept s m a n kinds old out why

-- It was not put. What the target holds is no whole file.
pub record LosesKept {T : Type 0} (view : T → TargetView) (s : Sieve) (m : ℕ) (a : Slice) (n : ℕ) (kinds : List ItemKind) (old new : SourceView) (out : Writing T) (fault : RunFault) (out' : Writing T) : Type 0 where
  pub met : AsksMet (OnSlice a) old new
  pub left : Leaves view out (view out'.target)
  pub cause : IsKeptCause view s m a n kinds old new out fault out'

-- ---- of a cloud

-- what a cloud has in the file
abbrev pub cloud_records : StatedCloud → List Field → List ℕ → List (List Value)
cloud_records cloud fields file = records_of file (cloud_of cloud (leaves_of fields))

-- These are the records that are kept of a cloud.
pub record AreKept (selection : Selection) (records : List (List Value)) (number : ℕ) (kept : List (List Value)) : Type 0 where
  pub count : number ≡ kept_count selection records
  pub columns : kept ≡ of_selection selection records

-- The section of what is kept of a cloud was put, without the zeros behind it, whatever the number of the new cloud's node.
pub record FiltersCloud {T : Type 0} (view : T → TargetView) (n : ℕ) (cloud : StatedCloud) (fields : List Field) (selection : Selection) (count : ℕ) (old new : SourceView) (out : Writing T) (written : Written) (out' : Writing T) : Type 0 where
  pub source : AsksWhere (λ file. Unit {0}) count old new
  pub columns : List (List Value)
  pub few : written.count ≤ cloud.count
  pub are : AreColumns (kinds_in (chosen selection.fields fields)) written.count columns
  pub of_file : IfSome old.held (λ file. IsSoundThing (thing_of cloud fields) file → AreKept selection (cloud_records cloud fields file) written.count columns)
  pub puts : (node : ℕ) → PutsBody view n (stated_cloud node written.count (chosen selection.fields fields)) (records_body columns) out written.place out'

-- how long the section of what is kept of these records is
abbrev pub kept_length : ℕ → ℕ → List Field → Selection → List (List Value) → ℕ
kept_length n size fields selection records =
    length (body_section n size (stated_cloud 0 (kept_count selection records) (chosen selection.fields fields)) (records_body (of_selection selection records)))

-- with the section of what is kept the file has no page left
abbrev pub PassesFiltered : ℕ → StatedCloud → List Field → Selection → SourceView → ℕ → AskFault → Type 0
PassesFiltered n cloud fields selection old size of_ask.Large =
    IfSome old.held (λ file. IsSoundThing (thing_of cloud fields) file → most_bytes ≤ size + kept_length n size fields selection (cloud_records cloud fields file))
PassesFiltered n cloud fields selection old size why = ⊥

-- why not: the cloud or a page has a fault; the source or the target failed; memory ran out; or it is too large
abbrev pub IsFilterCause : {T : Type 0} → (T → TargetView) → ℕ → StatedCloud → List Field → Selection → SourceView → SourceView → Writing T → RunFault → Writing T → Type 0
IsFilterCause view n cloud fields selection old new out (Refused found) out' = IfSome old.held (λ file. all_pages_fault file ≡ None → IsSoundThing (thing_of cloud fields) file → ⊥)
IsFilterCause view n cloud fields selection old new out Source out' = Rose old.faults new.faults
IsFilterCause view n cloud fields selection old new out Out out' = Rose (view out.target).faults (view out'.target).faults
IsFilterCause view n cloud fields selection old new out Memory out' = Unit {0}
IsFilterCause view n cloud fields selection old new out (Ask why) out' = PassesFiltered n cloud fields selection old out.size why

-- It was not put. What the target holds is no whole file.
pub record LosesFiltered {T : Type 0} (view : T → TargetView) (n : ℕ) (cloud : StatedCloud) (fields : List Field) (selection : Selection) (count : ℕ) (old new : SourceView) (out : Writing T) (fault : RunFault) (out' : Writing T) : Type 0 where
  pub source : AsksWhere (λ file. Unit {0}) count old new
  pub left : Leaves view out (view out'.target)
  pub cause : IsFilterCause view n cloud fields selection old new out fault out'
