-- The items of a file put into a new one, one after another: all as they are, but for one cloud, of which some records and fields are kept.
use Rattle.std.specs.Prelude.{◌≡◌, ℕ, zero, suc, ◌+◌, ◌/◌, ◌<◌, ◌≤◌, ◌==◌, Bool, true, false, List, [], ◌∷◌, ◌++◌, length, IfSome}
use Rattle.e57_base.specs.Count.{Rose}
use Rattle.e57_base.specs.Source.{SourceView}
use Rattle.e57_base.specs.Target.{TargetView}
use Rattle.e57_base.specs.declared.fault.AskFault.{AskFault}
use Rattle.e57_base.specs.declared.fault.AskFault.TheVariants as of_ask
use Rattle.e57_base.specs.declared.fault.RunFault.{RunFault}
use Rattle.e57_base.specs.declared.fault.RunFault.TheVariants.{Refused, Source, Out, Memory, Ask}
use Rattle.e57_layout.specs.Items.{AreColumns}
use Rattle.e57_layout.specs.Values.{Value}
use Rattle.e57_layout.specs.declared.field.Field.{Field}
use Rattle.e57_page_out.specs.Sequences.{Leaves}
use Rattle.e57_page_out.specs.Writing.{Writing, most_bytes}
use Rattle.e57_page.specs.Place.{payload_length}
use Rattle.e57_elements.specs.Tree.{Element}
use Rattle.e57_nodes.specs.Items.{StatedItem, stated_cloud, stated_blob, stated_items}
use Rattle.e57_nodes.specs.Shape.{shape_of}
use Rattle.e57_nodes.specs.Typed.{max_records}
use Rattle.e57_tree.specs.Held.{clouds_of, cloud_in, fields_in}
use Rattle.e57_tree.specs.declared.items.Cloud.{Cloud as StatedCloud}
use Rattle.e57_tree.specs.declared.items.Item.{Item}
use Rattle.e57_tree.specs.declared.items.Item.TheVariants as item
use Rattle.e57_verdict.specs.Things.{Body, Thing, records_body, things_in}
use Rattle.e57_plain.specs.Kept.{Selection, chosen, cloud_columns, kept, kept_columns, kept_count, with_columns}
use Rattle.e57_plain.specs.Pruned.{keeps_some}
use Rattle.e57_plain.specs.Valid.{AreBodies, kinds_in}
use Rattle.e57_plain.specs.Written.{Fits, sections_from}
use Rattle.e57_chunk_out.specs.declared.cloud_out.Written.{Written}
use Rattle.e57_check.specs.Asking.{AsksWhere}
use Rattle.e57_check.specs.Checking.{thing_in}
use Rattle.e57_copy.specs.Ending.{Aim}
use Rattle.e57_copy.specs.Items.{stated_in, CopiesItem, IsSoundThing, LosesItem, PutsItem}
use Rattle.e57_copy.specs.Sections.{thing_of}
use Rattle.e57_copy.specs.Several.{bodies_in, content_in, AreSound, PutsItems}
use Rattle.e57_filter.specs.Asking.{filter_chunk}
use Rattle.e57_filter.specs.KeptSection.{cloud_records, AreKept, LosesFiltered}
use Rattle.e57_filter.specs.Selecting.{AreOfCloud}
use Rattle.e57_filter.specs.declared.select.Selected.{Selected}

-- ---- what is kept of items

-- the items in which cloud k, from 0 on in document order, has so many records and the chosen fields
abbrev pub with_kept : ℕ → List Bool → ℕ → List StatedItem → List StatedItem
with_kept k flags number [] = []
with_kept k flags number (stated_blob n size ∷ items) = stated_blob n size ∷ with_kept k flags number items
with_kept zero flags number (stated_cloud n count fields ∷ items) = stated_cloud n number (chosen flags fields) ∷ items
with_kept (suc k) flags number (stated_cloud n count fields ∷ items) = stated_cloud n count fields ∷ with_kept k flags number items

abbrev pub kept_items : Selection → ℕ → List StatedItem → List StatedItem
kept_items selection number items = with_kept selection.cloud selection.fields number items

-- how many records are kept of the cloud among these bodies
abbrev pub kept_number : Selection → List Body → ℕ
kept_number selection bodies = kept_count selection (cloud_columns selection.cloud bodies)

-- the bodies with what is kept of the cloud
abbrev pub kept_bodies : Selection → List Body → List Body
kept_bodies selection bodies = with_columns selection.cloud (kept_columns selection (cloud_columns selection.cloud bodies)) bodies

-- This number and these bodies are what is kept of others.
pub record IsKept (selection : Selection) (old : List Body) (number : ℕ) (bodies : List Body) : Type 0 where
  pub count : number ≡ kept_number selection old
  pub are : bodies ≡ kept_bodies selection old

-- No page of the file has a fault, and none of these clouds and blobs, and each has there what is stated of it.
pub record AreRight (items : List StatedItem) (things : List Thing) (file : List ℕ) : Type 0 where
  pub sound : AreSound things file
  pub bodies : AreBodies items (bodies_in file things)

-- ---- putting all

-- The items were put: what they have in the file, and what is kept of the cloud.
pub record FiltersItems {T : Type 0} (view : T → TargetView) (n : ℕ) (items : List StatedItem) (things : List Thing) (selection : Selection) (count : ℕ) (old new : SourceView) (out : Writing T) (number : ℕ) (offsets : List ℕ) (out' : Writing T) : Type 0 where
  pub source : AsksWhere (λ file. Unit {0}) count old new
  pub few : number ≤ max_records
  pub bodies : List Body
  pub are_bodies : AreBodies (kept_items selection number items) bodies
  pub of_file : IfSome old.held (λ file. AreRight items things file → IsKept selection (bodies_in file things) number bodies)
  pub puts : PutsItems view n (kept_items selection number items) bodies out offsets out'

-- With the first ones of their sections the file has no page left.
pub record FillsFile (n size : ℕ) (items : List StatedItem) (bodies : List Body) : Type 0 where
  pub before : List ℕ
  pub after : List ℕ
  pub cut : sections_from n (size / payload_length) items bodies ≡ before ++ after
  pub full : most_bytes ≤ size + length before

abbrev pub FillsKept : {T : Type 0} → ℕ → List StatedItem → List Thing → Selection → SourceView → Writing T → AskFault → Type 0
FillsKept n items things selection old out of_ask.Large =
    IfSome old.held (λ file. AreRight items things file
    → FillsFile n out.size (kept_items selection (kept_number selection (bodies_in file things)) items) (kept_bodies selection (bodies_in file things)))
FillsKept n items things selection old out why = ⊥

-- why not: one or a page has a fault in the file; the source or the target failed; memory ran out; or the new file would be too large
abbrev pub IsFilteringCause : {T : Type 0} → (T → TargetView) → ℕ → List StatedItem → List Thing → Selection → SourceView → SourceView → Writing T → RunFault → Writing T → Type 0
IsFilteringCause view n items things selection old new out (Refused found) out' = IfSome old.held (λ file. AreRight items things file → ⊥)
IsFilteringCause view n items things selection old new out Source out' = Rose old.faults new.faults
IsFilteringCause view n items things selection old new out Out out' = Rose (view out.target).faults (view out'.target).faults
IsFilteringCause view n items things selection old new out Memory out' = Unit {0}
IsFilteringCause view n items things selection old new out (Ask why) out' = FillsKept n items things selection old out why

-- They were not all put. What the target holds is no whole file.
pub record LosesItems {T : Type 0} (view : T → TargetView) (n : ℕ) (items : List StatedItem) (things : List Thing) (selection : Selection) (count : ℕ) (old new : SourceView) (out : Writing T) (fault : RunFault) (out' : Writing T) : Type 0 where
  pub source : AsksWhere (λ file. Unit {0}) count old new
  pub left : Leaves view out (view out'.target)
  pub cause : IsFilteringCause view n items things selection old new out fault out'

-- ---- putting one

-- What is selected is one of the tree's clouds, some of its fields and records, and one field or more.
pub record IsOfTree (e : Element) (s : Selected) : Type 0 where
  pub there : s.k < length (clouds_of e)
  pub cloud : s.cloud ≡ cloud_in e s.k
  pub of_cloud : AreOfCloud (fields_in e s.k) s
  pub keeps : keeps_some s.chosen.items ≡ true

-- What is kept of a cloud was put, with zeros up to the end of its last page.
pub record KeepsCloud {T : Type 0} (view : T → TargetView) (n : ℕ) (cloud : StatedCloud) (fields : List Field) (selection : Selection) (count : ℕ) (old new : SourceView) (out : Writing T) (written : Written) (out' : Writing T) : Type 0 where
  pub source : AsksWhere (λ file. Unit {0}) count old new
  pub few : written.count ≤ cloud.count
  pub columns : List (List Value)
  pub are : AreColumns (kinds_in (chosen selection.fields fields)) written.count columns
  pub of_file : IfSome old.held (λ file. IsSoundThing (thing_of cloud fields) file → AreKept selection (cloud_records cloud fields file) written.count columns)
  pub puts : (node : ℕ) → PutsItem view n (stated_cloud node written.count (chosen selection.fields fields)) (records_body columns) out written.place out'

-- the item is cloud k
abbrev pub is_cloud : ℕ → Item → Bool
is_cloud k (item.Cloud c) = c == k
is_cloud k (item.Blob c) = false

-- The item was put: what is kept of it, if it is the cloud of the selection; and else as it is, and this is the number of before.
abbrev pub FiltersItem : {T : Type 0} → (T → TargetView) → ℕ → Element → Selection → Item → Bool → ℕ → ℕ → SourceView → SourceView → Writing T → Written → Writing T → Type 0
FiltersItem view n e selection x true number count old new out written out' =
    KeepsCloud view n (cloud_in e selection.cloud) (fields_in e selection.cloud) selection count old new out written out'
FiltersItem view n e selection x false number count old new out written out' =
    CopiesItem view n (stated_in e x) (thing_in e x) count old new out written.place out' × (written.count ≡ number)

-- it was not put
abbrev pub LosesOne : {T : Type 0} → (T → TargetView) → ℕ → Element → Selection → Item → Bool → ℕ → SourceView → SourceView → Writing T → RunFault → Writing T → Type 0
LosesOne view n e selection x true count old new out fault out' =
    LosesFiltered view n (cloud_in e selection.cloud) (fields_in e selection.cloud) selection count old new out fault out'
LosesOne view n e selection x false count old new out fault out' = LosesItem view n (stated_in e x) (thing_in e x) count old new out fault out'

-- ---- the whole file

-- What is kept of the content of a file with this tree is to be written. It isn't where the file has a fault, where its source failed, or
-- where the written form isn't within the format's limits.
abbrev pub filtered : Selection → Element → SourceView → SourceView → Aim
filtered selection e source after = record {
  chunk = filter_chunk;
  is = λ content. IfSome source.held (λ file. AreRight (stated_items (shape_of e)) (things_in e) file → content ≡ kept selection (content_in file e));
  refused = IfSome source.held (λ file. AreRight (stated_items (shape_of e)) (things_in e) file → ⊥);
  failed = Rose source.faults after.faults;
  large = IfSome source.held (λ file. AreRight (stated_items (shape_of e)) (things_in e) file → Fits filter_chunk (kept selection (content_in file e)) → ⊥);
}
