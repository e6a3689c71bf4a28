-- The section of a cloud or blob that is copied, up to its last byte: without the zeros up to the end of its last page.
use Rattle.std.specs.Prelude.{◌≡◌, ◌⊎◌, ℕ, ◌+◌, ◌/◌, ◌<◌, ◌≤◌, List, length, Option, Some, IfSome}
use Rattle.std.specs.List.{range_with_len}
use Rattle.e57_base.specs.Count.{Rose}
use Rattle.e57_base.specs.Fault.{read_as_run, put_as_write, write_as_run}
use Rattle.e57_base.specs.Source.{SourceView}
use Rattle.e57_base.specs.Target.{TargetView}
use Rattle.e57_base.specs.declared.fault.AskFault.{AskFault}
use Rattle.e57_base.specs.declared.fault.AskFault.TheVariants as of_ask
use Rattle.e57_base.specs.declared.fault.Fault.{Fault}
use Rattle.e57_base.specs.declared.fault.RunFault.{RunFault}
use Rattle.e57_base.specs.declared.fault.RunFault.TheVariants.{Refused, Source, Out, Memory, Ask}
use Rattle.e57_layout.specs.Items.{AreColumns}
use Rattle.e57_layout.specs.Values.{ItemKind, Value}
use Rattle.e57_layout.specs.Written.{physical, section_spelled}
use Rattle.e57_layout.specs.declared.field.Field.{Field}
use Rattle.e57_layout.specs.declared.field.Fixed.{Fixed}
use Rattle.e57_layout.specs.declared.section.Section.{Section}
use Rattle.e57_page.specs.Place.{payload_length}
use Rattle.e57_page_out.specs.Sequences.{Puts, Leaves}
use Rattle.e57_page_out.specs.Writing.{Writing, most_bytes}
use Rattle.e57_elements.specs.Tree.{Element}
use Rattle.e57_nodes.specs.Items.{StatedItem, stated_cloud, stated_blob, leaves_of}
use Rattle.e57_tree.specs.Held.{blob_in}
use Rattle.e57_tree.specs.declared.items.Item.TheVariants as item
use Rattle.e57_tree.specs.declared.items.Cloud.{Cloud as StatedCloud}
use Rattle.e57_verdict.specs.Things.{Body, Thing, cloud_thing, body_of}
use Rattle.e57_plain.specs.Valid.{IsBody}
use Rattle.e57_plain.specs.Written.{body_section, section_offset}
use Rattle.e57_stream.specs.Asking.{AsksMet}
use Rattle.e57_blocks.specs.Fields.{Slice, OnSlice, record_fault, slice_of}
use Rattle.e57_chunk_out.specs.Standing.{in_groups}
use Rattle.e57_chunk_out.specs.Turns.{data_end}
use Rattle.e57_check.specs.Asking.{AsksWhere}
use Rattle.e57_check.specs.Checking.{thing_in}
use Rattle.e57_check.specs.Clouds.{cloud_of}
use Rattle.e57_file_out.specs.declared.copy.CopyFault.{CopyFault}
use Rattle.e57_file_out.specs.declared.copy.CopyFault.TheVariants.{Read, Put}
use Rattle.e57_copy.specs.Copying.{AreOfSlice, IsOutside}
use Rattle.e57_copy.specs.Items.{IsSoundThing, LosesItem}

-- ---- all records of a section

-- all fields and records of a section
abbrev pub all_records : Section → Option Fixed → List Field → Slice
all_records s fixed fields = slice_of s fixed fields (range_with_len 0 (length fields)) 0 s.count

-- The section of all records of a slice was put, as the file has them, and this is its offset.
pub record PutsRecords {T : Type 0} (view : T → TargetView) (a : Slice) (n : ℕ) (kinds : List ItemKind) (old new : SourceView) (out : Writing T) (offset : ℕ) (out' : Writing T) : Type 0 where
  pub met : AsksMet (OnSlice a) old new
  pub columns : List (List Value)
  pub are : AreColumns kinds a.count columns
  pub found : AreOfSlice a old columns
  pub begins : offset ≡ physical out.size
  pub wrote : Puts view out (section_spelled out.size kinds n a.count columns) out'

-- Some record of a slice has a fault, or a value that isn't of these kinds.
pub record LacksRecord (a : Slice) (kinds : List ItemKind) (file : List ℕ) : Type 0 where
  pub i : ℕ
  pub after : a.from ≤ i
  pub before : i < a.from + a.count
  pub lacks : ((found : Fault) × (record_fault file a.section a.fixed a.asked i ≡ Some found)) ⊎ IsOutside a kinds file i

-- The packets that are whole with the first m of so many records, or the section of all, would pass the last page.
abbrev pub ArePast : ℕ → List ItemKind → ℕ → ℕ → ℕ → List (List Value) → Type 0
ArePast size kinds n count m columns =
    (most_bytes < data_end size kinds n (in_groups m) columns)
    ⊎ ((m ≡ count) × (most_bytes < size + length (section_spelled size kinds n count columns)))

-- Some first records of a slice, as the file has them, are too many for the new file.
pub record PassesRecords {T : Type 0} (a : Slice) (n : ℕ) (kinds : List ItemKind) (old : SourceView) (out : Writing T) : Type 0 where
  pub m : ℕ
  pub few : m ≤ a.count
  pub columns : List (List Value)
  pub are : AreColumns kinds m columns
  pub found : AreOfSlice a old columns
  pub past : ArePast out.size kinds n a.count m columns

abbrev pub IsPastCause : {T : Type 0} → Slice → ℕ → List ItemKind → SourceView → Writing T → AskFault → Type 0
IsPastCause a n kinds old out of_ask.Large = PassesRecords a n kinds old out
IsPastCause a n kinds old out why = ⊥

-- why not: a record has a fault or a value of another kind, the source or the target failed, memory ran out, or it is too
-- large
abbrev pub IsRecordsCause : {T : Type 0} → (T → TargetView) → Slice → ℕ → List ItemKind → SourceView → SourceView → Writing T → RunFault → Writing T → Type 0
IsRecordsCause view a n kinds old new out (Refused found) out' = IfSome old.held (λ file. LacksRecord a kinds file)
IsRecordsCause view a n kinds old new out Source out' = Rose old.faults new.faults
IsRecordsCause view a n kinds old new out Out out' = Rose (view out.target).faults (view out'.target).faults
IsRecordsCause view a n kinds old new out Memory out' = Unit {0}
IsRecordsCause view a n kinds old new out (Ask why) out' = IsPastCause a n kinds old out why

-- It was not put. What the target holds is no whole file.
pub record LosesSection {T : Type 0} (view : T → TargetView) (a : Slice) (n : ℕ) (kinds : List ItemKind) (old new : SourceView) (out : Writing T) (fault : RunFault) (out' : Writing T) : Type 0 where
  pub met : AsksMet (OnSlice a) old new
  pub left : Leaves view out (view out'.target)
  pub cause : IsRecordsCause view a n kinds old new out fault out'

-- ---- an item

-- The section of an item with this body was put where the file ended, and this is its offset.
pub record PutsBody {T : Type 0} (view : T → TargetView) (n : ℕ) (stated : StatedItem) (body : Body) (out : Writing T) (offset : ℕ) (out' : Writing T) : Type 0 where
  pub begins : offset ≡ section_offset (out.size / payload_length) (body_section n out.size stated body)
  pub wrote : Puts view out (body_section n out.size stated body) out'

-- That of an item of the file was put: with what the item has there, where it has no fault.
pub record CopiesBody {T : Type 0} (view : T → TargetView) (n : ℕ) (stated : StatedItem) (thing : Thing) (count : ℕ) (old new : SourceView) (out : Writing T) (offset : ℕ) (out' : Writing T) : Type 0 where
  pub source : AsksWhere (λ file. Unit {0}) count old new
  pub body : Body
  pub is_body : IsBody stated body
  pub of_file : IfSome old.held (λ file. IsSoundThing thing file → body ≡ body_of file thing)
  pub puts : PutsBody view n stated body out offset out'

-- the thing that a cloud of a tree with these fields is
abbrev pub thing_of : StatedCloud → List Field → Thing
thing_of cloud fields = cloud_thing (cloud_of cloud (leaves_of fields))

-- that of a cloud was put, with other fields, whatever the number of the new cloud's node
abbrev pub CopiesCloud : {T : Type 0} → (T → TargetView) → ℕ → StatedCloud → List Field → List Field → ℕ → SourceView → SourceView → Writing T → ℕ → Writing T → Type 0
CopiesCloud view n cloud fields others count old new out offset out' =
    (node : ℕ) → CopiesBody view n (stated_cloud node cloud.count others) (thing_of cloud fields) count old new out offset out'

-- it was not put
abbrev pub LosesCloud : {T : Type 0} → (T → TargetView) → ℕ → StatedCloud → List Field → List Field → ℕ → SourceView → SourceView → Writing T → RunFault → Writing T → Type 0
LosesCloud view n cloud fields others count old new out fault out' =
    (node : ℕ) → LosesItem view n (stated_cloud node cloud.count others) (thing_of cloud fields) count old new out fault out'

-- that of blob k of a tree was put, whatever the number of the new blob's node
abbrev pub CopiesBlobOf : {T : Type 0} → (T → TargetView) → Element → ℕ → ℕ → SourceView → SourceView → Writing T → ℕ → Writing T → Type 0
CopiesBlobOf view e k count old new out offset out' =
    (n node : ℕ) → CopiesBody view n (stated_blob node (blob_in e k).length) (thing_in e (item.Blob k)) count old new out offset out'

abbrev pub LosesBlobOf : {T : Type 0} → (T → TargetView) → Element → ℕ → ℕ → SourceView → SourceView → Writing T → RunFault → Writing T → Type 0
LosesBlobOf view e k count old new out fault out' =
    (n node : ℕ) → LosesItem view n (stated_blob node (blob_in e k).length) (thing_in e (item.Blob k)) count old new out fault out'

-- how the copying of a blob fails, as that of an item
abbrev pub copy_as_run : CopyFault → RunFault
copy_as_run (Read fault) = read_as_run fault
copy_as_run (Put fault) = write_as_run (put_as_write fault)
