-- An item of a file, copied whole into a new one: a cloud with all its records, or a blob, with its section.
use Rattle.std.specs.Prelude.{◌≡◌, ℕ, ◌+◌, ◌/◌, ◌<◌, List, [], ◌∷◌, length, None, IfSome}
use Rattle.e57_base.specs.Count.{Rose}
use Rattle.e57_base.specs.Source.{SourceView}
use Rattle.e57_base.specs.Target.{TargetView}
use Rattle.e57_base.specs.declared.fault.AskFault.{AskFault}
use Rattle.e57_base.specs.declared.fault.AskFault.TheVariants as of_ask
use Rattle.e57_base.specs.declared.fault.RunFault.{RunFault}
use Rattle.e57_base.specs.declared.fault.RunFault.TheVariants.{Refused, Source, Out, Memory, Ask}
use Rattle.e57_layout.specs.Values.{ItemKind, integers}
use Rattle.e57_page.specs.Place.{payload_length}
use Rattle.e57_page_out.specs.Sequences.{Puts, Leaves}
use Rattle.e57_page_out.specs.Writing.{Writing, most_bytes}
use Rattle.e57_elements.specs.Tree.{Element}
use Rattle.e57_nodes.specs.Items.{StatedItem, stated_cloud, stated_blob}
use Rattle.e57_tree.specs.Held.{cloud_in, blob_in, blobs_of, fields_in}
use Rattle.e57_tree.specs.declared.items.Item.{Item}
use Rattle.e57_tree.specs.declared.items.Item.TheVariants as item
use Rattle.e57_verdict.specs.Things.{Body, Thing, body_of, thing_fault}
use Rattle.e57_verdict.specs.Verdict.{all_pages_fault}
use Rattle.e57_plain.specs.Valid.{IsBody, kinds_in}
use Rattle.e57_plain.specs.Written.{body_section, section_offset, whole_pages}
use Rattle.e57_check.specs.Asking.{AsksWhere}
use Rattle.e57_check.specs.Checking.{IsCloud}

-- the item is one of the tree's
abbrev pub IsItem : Element → Item → Type 0
IsItem e (item.Cloud k) = IsCloud e k
IsItem e (item.Blob k) = k < length (blobs_of e)

-- what the tree states of it
abbrev pub stated_in : Element → Item → StatedItem
stated_in e (item.Cloud k) = stated_cloud (cloud_in e k).node (cloud_in e k).count (fields_in e k)
stated_in e (item.Blob k) = stated_blob (blob_in e k).node (blob_in e k).length

-- both are of integers, or they are the same
abbrev pub IsAlike : ItemKind → ItemKind → Type 0
IsAlike (integers low high) (integers least most) = Unit {0}
IsAlike kind other = kind ≡ other

-- as many, and alike in their order
unfoldable pub AreAlike : List ItemKind → List ItemKind → Type 0
AreAlike [] [] = Unit {0}
AreAlike [] (other ∷ others) = ⊥
AreAlike (kind ∷ kinds) [] = ⊥
AreAlike (kind ∷ kinds) (other ∷ others) = IsAlike kind other × AreAlike kinds others

-- The same item, but for the limits of its integer fields.
abbrev pub IsAlikeItem : StatedItem → StatedItem → Type 0
IsAlikeItem (stated_cloud n count fields) (stated_cloud m other others) = (count ≡ other) × AreAlike (kinds_in fields) (kinds_in others)
IsAlikeItem (stated_cloud n count fields) (stated_blob m length) = ⊥
IsAlikeItem (stated_blob n size) (stated_cloud m other others) = ⊥
IsAlikeItem (stated_blob n size) (stated_blob m length) = size ≡ length

-- the file has no fault of this cloud or blob
abbrev pub IsSoundThing : Thing → List ℕ → Type 0
IsSoundThing thing file = thing_fault file thing ≡ None

-- The section of an item with this body was put where the file ended, with zeros up to the end of its last page, and this is its
-- offset.
pub record PutsItem {T : Type 0} (view : T → TargetView) (n : ℕ) (stated : StatedItem) (body : Body) (out : Writing T) (offset : ℕ) (out' : Writing T) : Type 0 where
  pub begins : offset ≡ section_offset (out.size / payload_length) (body_section n out.size stated body)
  pub wrote : Puts view out (whole_pages (body_section n out.size stated body)) out'

-- The item was copied: what it has in the file, where it has no fault.
pub record CopiesItem {T : Type 0} (view : T → TargetView) (n : ℕ) (stated : StatedItem) (thing : Thing) (count : ℕ) (old new : SourceView) (out : Writing T) (offset : ℕ) (out' : Writing T) : Type 0 where
  pub source : AsksWhere (λ file. Unit {0}) count old new
  pub body : Body
  pub is_body : IsBody stated body
  pub of_file : IfSome old.held (λ file. IsSoundThing thing file → body ≡ body_of file thing)
  pub puts : PutsItem view n stated body out offset out'

-- With its section, if what it has is what is stated of it, the file would pass its last page.
abbrev pub PassesItem : {T : Type 0} → ℕ → StatedItem → Thing → SourceView → Writing T → AskFault → Type 0
PassesItem n stated thing old out of_ask.Large =
    IfSome old.held (λ file. IsSoundThing thing file → IsBody stated (body_of file thing)
    → most_bytes < out.size + length (body_section n out.size stated (body_of file thing)))
PassesItem n stated thing old out why = ⊥

-- memory is wanted for a cloud with records
abbrev pub TakesMemory : StatedItem → Type 0
TakesMemory (stated_cloud n count fields) = 0 < count
TakesMemory (stated_blob n size) = ⊥

-- Why not: it or a page has a fault in the file, or it has a value outside of the stated limits; the source or the target
-- failed; memory ran out, which no blob wants; or the new file would be too large.
abbrev pub IsItemCause : {T : Type 0} → (T → TargetView) → ℕ → StatedItem → Thing → SourceView → SourceView → Writing T → RunFault → Writing T → Type 0
IsItemCause view n stated thing old new out (Refused found) out' =
    IfSome old.held (λ file. all_pages_fault file ≡ None → IsSoundThing thing file → IsBody stated (body_of file thing) → ⊥)
IsItemCause view n stated thing old new out Source out' = Rose old.faults new.faults
IsItemCause view n stated thing old new out Out out' = Rose (view out.target).faults (view out'.target).faults
IsItemCause view n stated thing old new out Memory out' = TakesMemory stated
IsItemCause view n stated thing old new out (Ask why) out' = PassesItem n stated thing old out why

-- It was not copied. What the target holds is no whole file.
pub record LosesItem {T : Type 0} (view : T → TargetView) (n : ℕ) (stated : StatedItem) (thing : Thing) (count : ℕ) (old new : SourceView) (out : Writing T) (fault : RunFault) (out' : Writing T) : Type 0 where
  pub source : AsksWhere (λ file. Unit {0}) count old new
  pub left : Leaves view out (view out'.target)
  pub cause : IsItemCause view n stated thing old new out fault out'
