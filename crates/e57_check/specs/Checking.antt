-- The verdict on an open file: what `check` answers, and what it does to the source.
use Rattle.std.specs.Prelude.{◌≡◌, ℕ, ◌+◌, ◌^◌, ◌<◌, ◌≤◌, List, length, IfSome}
use Rattle.e57_base.specs.Count.{Rose}
use Rattle.e57_base.specs.Source.{SourceView}
use Rattle.e57_base.specs.declared.fault.OpenFault.{OpenFault}
use Rattle.e57_base.specs.declared.fault.OpenFault.TheVariants.{Refused, Source, Memory}
use Rattle.e57_elements.specs.Tree.{Element, preorder}
use Rattle.e57_elements.specs.declared.tree.RawNode.{RawNode}
use Rattle.e57_file.specs.Opened.{HasNodes}
use Rattle.e57_nodes.specs.Shape.{shape_of}
use Rattle.e57_nodes.specs.Items.{stated_items, leaves_of}
use Rattle.e57_cloud.specs.Cloud.{cloud_fault}
use Rattle.e57_section.specs.Opening.{most_records}
use Rattle.e57_tree.specs.declared.items.Item.{Item}
use Rattle.e57_tree.specs.declared.items.Item.TheVariants as item
use Rattle.e57_tree.specs.Held.{clouds_of, blobs_of, cloud_in, blob_in, fields_in}
use Rattle.e57_verdict.specs.Things.{Thing, cloud_thing, blob_thing, thing_fault, things_in, things_fault, cloud_count, blob_count, record_count}
use Rattle.e57_verdict.specs.Verdict.{IsSoundFile, IsVerdict, accepted, refused}
use Rattle.e57_check.specs.Asking.{AsksWhere}
use Rattle.e57_check.specs.Clouds.{HasNone, Refuses, cloud_of}
use Rattle.e57_check.specs.declared.summary.Summary.{Summary}

-- The file is accepted, with these clouds, blobs and records.
pub record Accepts (count : ℕ) (old : SourceView) (summary : Summary) (new : SourceView) : Type 0 where
  pub source : AsksWhere (λ file. Unit {0}) count old new
  pub verdict : IfSome old.held (λ file. IsVerdict file (accepted summary.clouds summary.blobs summary.records))

-- The file has no fault, and these are the nodes of its tree.
pub record HasSoundNodes (file : List ℕ) (nodes : List RawNode) : Type 0 where
  pub tree : Element
  pub in_preorder : nodes ≡ preorder tree
  pub sound : IsSoundFile file tree
  pub has : HasNodes file nodes

-- The file is accepted, with these clouds, blobs and records, and these are the nodes of its tree.
pub record Judges (count : ℕ) (old : SourceView) (nodes : List RawNode) (summary : Summary) (new : SourceView) : Type 0 where
  pub accepts : Accepts count old summary new
  pub file : IfSome old.held (λ file. HasSoundNodes file nodes)

-- why it isn't: the verdict names this fault, the source failed, or memory ran out
abbrev pub IsRejection : SourceView → OpenFault → SourceView → Type 0
IsRejection old (Refused found) new = IfSome old.held (λ file. IsVerdict file (refused found))
IsRejection old Source new = Rose old.faults new.faults
IsRejection old Memory new = Unit {0}

pub record Rejects (count : ℕ) (old : SourceView) (found : OpenFault) (new : SourceView) : Type 0 where
  pub source : AsksWhere (λ file. Unit {0}) count old new
  pub cause : IsRejection old found new

-- ---- clouds and blobs

-- so many clouds, blobs and records
pub record Counts (e : Element) (summary : Summary) : Type 0 where
  pub clouds : summary.clouds ≡ cloud_count (stated_items (shape_of e))
  pub blobs : summary.blobs ≡ blob_count (stated_items (shape_of e))
  pub records : summary.records ≡ record_count (stated_items (shape_of e))

-- No cloud or blob of the tree has a fault, and there are so many.
pub record JudgesThings (count : ℕ) (old : SourceView) (e : Element) (summary : Summary) (new : SourceView) : Type 0 where
  pub none : HasNone (λ file. things_fault file (things_in e)) count old new
  pub counts : Counts e summary

abbrev pub RefusesThings : ℕ → SourceView → Element → OpenFault → SourceView → Type 0
RefusesThings count old e found new = Refuses (λ file. things_fault file (things_in e)) count old found new

-- the tree has a cloud of this number, with no more records than the limit
pub record IsCloud (e : Element) (k : ℕ) : Type 0 where
  pub there : k < length (clouds_of e)
  pub few : (cloud_in e k).count ≤ most_records

-- the item is one of the tree's, and the counts have room for it
abbrev pub FitsItem : Element → Item → Summary → Type 0
FitsItem e (item.Cloud k) s = IsCloud e k × (s.clouds + 1 < 2 ^ 64) × (s.records + (cloud_in e k).count < 2 ^ 64)
FitsItem e (item.Blob k) s = (k < length (blobs_of e)) × (s.blobs + 1 < 2 ^ 64)

abbrev pub thing_in : Element → Item → Thing
thing_in e (item.Cloud k) = cloud_thing (cloud_of (cloud_in e k) (leaves_of (fields_in e k)))
thing_in e (item.Blob k) = blob_thing (record { node = (blob_in e k).node; offset = (blob_in e k).place; length = (blob_in e k).length })

-- the counts with this item
abbrev pub with_item : Element → Item → Summary → Summary
with_item e (item.Cloud k) s = record s { clouds = s.clouds + 1; records = s.records + (cloud_in e k).count }
with_item e (item.Blob k) s = record s { blobs = s.blobs + 1 }

pub record JudgesThing (count : ℕ) (old : SourceView) (e : Element) (x : Item) (summary next : Summary) (new : SourceView) : Type 0 where
  pub none : HasNone (λ file. thing_fault file (thing_in e x)) count old new
  pub counted : next ≡ with_item e x summary

abbrev pub RefusesThing : ℕ → SourceView → Element → Item → OpenFault → SourceView → Type 0
RefusesThing count old e x found new = Refuses (λ file. thing_fault file (thing_in e x)) count old found new

pub record JudgesCloudAt (count : ℕ) (old : SourceView) (e : Element) (k records : ℕ) (new : SourceView) : Type 0 where
  pub none : HasNone (λ file. cloud_fault file (cloud_of (cloud_in e k) (leaves_of (fields_in e k)))) count old new
  pub counted : records ≡ (cloud_in e k).count

abbrev pub RefusesCloudAt : ℕ → SourceView → Element → ℕ → OpenFault → SourceView → Type 0
RefusesCloudAt count old e k found new = Refuses (λ file. cloud_fault file (cloud_of (cloud_in e k) (leaves_of (fields_in e k)))) count old found new
