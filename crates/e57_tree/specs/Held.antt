-- The clouds and blobs of a tree, as its calls give them.
use Rattle.std.specs.Prelude.{◌≡◌, ℕ, ◌+◌, ◌/◌, ◌<◌, ◌≤◌, List, [], ◌∷◌, ◌++◌, length, Option, Some, None, slice_get, unwrap_or, option_and_then, slice_index_or}
use Rattle.std.specs.List.{AllByRecursion}
use Rattle.e57_elements.specs.declared.tree.RawNode.{RawNode}
use Rattle.e57_elements.specs.Tree.{Element, preorder}
use Rattle.e57_elements.specs.Lawful.{AreNodes}
use Rattle.e57_layout.specs.declared.field.Field.{Field}
use Rattle.e57_layout.specs.declared.field.Fixed.{Fixed}
use Rattle.e57_layout.specs.Values.{ItemKind, integers, words, strings, IsValidField}
use Rattle.e57_cloud.specs.Cloud.{float_from}
use Rattle.e57_nodes.specs.declared.ElementType.{ElementType}
use Rattle.e57_nodes.specs.declared.ElementType.TheVariants as element_type
use Rattle.e57_nodes.specs.Facts.{value_of, unsigned_in}
use Rattle.e57_nodes.specs.Shape.{shape_of}
use Rattle.e57_nodes.specs.Places.{place_name, places_in}
use Rattle.e57_nodes.specs.Fields.{fields_of}
use Rattle.e57_nodes.specs.Typed.{max_fields, typed_fault}
use Rattle.e57_nodes.specs.Items.{StatedItem, stated_cloud, stated_blob, stated_items, leaves_of}
use Rattle.e57_tree.specs.declared.items.Cloud.{Cloud}
use Rattle.e57_tree.specs.declared.items.Blob.{Blob}
use Rattle.e57_tree.specs.declared.items.Item.{Item}
use Rattle.e57_tree.specs.declared.items.Item.TheVariants as item
use Rattle.e57_tree.specs.declared.found.Found.{Found}
use Rattle.e57_tree.specs.Flat.{raw_at, facts_in, node_in}

-- the clouds among these, each with its place
abbrev pub clouds_among : List StatedItem → List ℕ → List Cloud
clouds_among [] places = []
clouds_among (x ∷ xs) [] = []
clouds_among (stated_cloud n count fields ∷ xs) (place ∷ places) = record { node = n; place = place; count = count } ∷ clouds_among xs places
clouds_among (stated_blob n size ∷ xs) (place ∷ places) = clouds_among xs places

-- the blobs among these, each with its place
abbrev pub blobs_among : List StatedItem → List ℕ → List Blob
blobs_among [] places = []
blobs_among (x ∷ xs) [] = []
blobs_among (stated_cloud n count fields ∷ xs) (place ∷ places) = blobs_among xs places
blobs_among (stated_blob n size ∷ xs) (place ∷ places) = record { node = n; place = place; length = size } ∷ blobs_among xs places

-- both in order, by their numbers, which go on from these
abbrev pub items_among : ℕ → ℕ → List StatedItem → List Item
items_among clouds blobs [] = []
items_among clouds blobs (stated_cloud n count fields ∷ xs) = item.Cloud clouds ∷ items_among (clouds + 1) blobs xs
items_among clouds blobs (stated_blob n size ∷ xs) = item.Blob blobs ∷ items_among clouds (blobs + 1) xs

-- the fields of each cloud among these
abbrev pub fields_among : List StatedItem → List (List Field)
fields_among [] = []
fields_among (stated_cloud n count fields ∷ xs) = fields ∷ fields_among xs
fields_among (stated_blob n size ∷ xs) = fields_among xs

-- ---- of a tree

abbrev pub clouds_of : Element → List Cloud
clouds_of e = clouds_among (stated_items (shape_of e)) (places_in e)

abbrev pub blobs_of : Element → List Blob
blobs_of e = blobs_among (stated_items (shape_of e)) (places_in e)

abbrev pub items_of : Element → List Item
items_of e = items_among 0 0 (stated_items (shape_of e))

abbrev pub cloud_fields : Element → List (List Field)
cloud_fields e = fields_among (stated_items (shape_of e))

-- ---- one of them by its number

abbrev pub no_cloud : Cloud
no_cloud = record { node = 0; place = 0; count = 0 }

abbrev pub no_blob : Blob
no_blob = record { node = 0; place = 0; length = 0 }

abbrev pub cloud_in : Element → ℕ → Cloud
cloud_in e k = slice_index_or (clouds_of e) k no_cloud

abbrev pub blob_in : Element → ℕ → Blob
blob_in e k = slice_index_or (blobs_of e) k no_blob

abbrev pub fields_in : Element → ℕ → List Field
fields_in e k = slice_index_or (cloud_fields e) k []

-- 1 to 512 fields, each valid.
pub record AreCloudFields (fields : List Field) : Type 0 where
  pub some : 0 < length fields
  pub few : length fields ≤ max_fields
  pub each : AllByRecursion IsValidField fields

-- the bytes of an item of a Float; 0 of another field
abbrev pub float_bytes : ItemKind → ℕ
float_bytes (integers low high) = 0
float_bytes (words w) = w / 8
float_bytes strings = 0

-- the first Float field of cloud k
abbrev pub IsFixed : List (List Field) → ℕ → Option Fixed → Type 0
IsFixed clouds k fixed = (fields : List Field) → slice_get clouds k ≡ Some fields → fixed ≡ float_from 0 (leaves_of fields)

-- They are those of the tree.
pub record Holds (e : Element) (found : Found) : Type 0 where
  pub clouds : found.clouds.items ≡ clouds_of e
  pub blobs : found.blobs.items ≡ blobs_of e
  pub items : found.items.items ≡ items_of e
  pub fields : found.fields.items ≡ cloud_fields e

-- These are the nodes of a lawful tree without a fault of its nodes, and its clouds and blobs.
pub record IsTree (nodes : List RawNode) (found : Found) : Type 0 where
  pub are_nodes : AreNodes nodes
  pub is_typed : (e : Element) → nodes ≡ preorder e → typed_fault (shape_of e) ≡ None
  pub holds : (e : Element) → nodes ≡ preorder e → Holds e found

-- ---- one node after another

abbrev pub place_at : List RawNode → ℕ → ℕ
place_at nodes n = unwrap_or (option_and_then unsigned_in (value_of place_name (raw_at nodes n).attrs)) 0

abbrev pub cloud_at : List RawNode → ℕ → Cloud
cloud_at nodes n = record { node = n; place = place_at nodes n; count = unwrap_or (facts_in (raw_at nodes n)).record_count 0 }

-- The cloud at the node is added.
pub record AddsCloud (nodes : List RawNode) (n : ℕ) (old new : Found) : Type 0 where
  pub clouds : new.clouds.items ≡ old.clouds.items ++ cloud_at nodes n ∷ []
  pub blobs : new.blobs.items ≡ old.blobs.items
  pub items : new.items.items ≡ old.items.items ++ item.Cloud (length old.clouds.items) ∷ []
  pub fields : new.fields.items ≡ old.fields.items ++ fields_of (node_in nodes n) ∷ []

-- The blob at the node is added.
pub record AddsBlob (nodes : List RawNode) (n : ℕ) (old new : Found) : Type 0 where
  pub clouds : new.clouds.items ≡ old.clouds.items
  pub blobs : new.blobs.items ≡ old.blobs.items ++ (record { node = n; place = place_at nodes n; length = unwrap_or (facts_in (raw_at nodes n)).blob_length 0 }) ∷ []
  pub items : new.items.items ≡ old.items.items ++ item.Blob (length old.blobs.items) ∷ []
  pub fields : new.fields.items ≡ old.fields.items

-- What stands at the node, of this type, is added.
abbrev pub AddsNode : List RawNode → ℕ → Option ElementType → Found → Found → Type 0
AddsNode nodes n (Some element_type.CompressedVector) old new = AddsCloud nodes n old new
AddsNode nodes n (Some element_type.Blob) old new = AddsBlob nodes n old new
AddsNode nodes n other old new = new ≡ old
