-- The clouds and blobs of a file: with their offsets as its tree states them, their first fault, and what they hold.
use Rattle.std.specs.Prelude.{ℕ, ◌+◌, List, [], ◌∷◌, Option, None}
use Rattle.std.specs.Option.{option_or}
use Rattle.e57_base.specs.declared.fault.Fault.{Fault}
use Rattle.e57_layout.specs.Values.{Value}
use Rattle.e57_cloud.specs.Cloud.{Cloud, cloud_fault, records_of}
use Rattle.e57_elements.specs.Tree.{Element}
use Rattle.e57_nodes.specs.Shape.{shape_of}
use Rattle.e57_nodes.specs.Items.{StatedItem, stated_cloud, stated_blob, stated_items, leaves_of}
use Rattle.e57_nodes.specs.Places.{places_in}
use Rattle.e57_verdict.specs.Blob.{Blob, blob_fault, blob_bytes}

-- a cloud or a blob, with the offset of its section
pub data Thing : Type 0 where
  cloud_thing : Cloud → Thing
  blob_thing : Blob → Thing

abbrev pub thing_at : StatedItem → ℕ → Thing
thing_at (stated_cloud n count fields) offset = cloud_thing (record { node = n; offset = offset; count = count; leaves = leaves_of fields })
thing_at (stated_blob n size) offset = blob_thing (record { node = n; offset = offset; length = size })

-- items, and the offset of each
abbrev pub things_at : List StatedItem → List ℕ → List Thing
things_at [] offsets = []
things_at (item ∷ items) [] = []
things_at (item ∷ items) (offset ∷ offsets) = thing_at item offset ∷ things_at items offsets

-- the clouds and blobs of a tree, in document order
abbrev pub things_in : Element → List Thing
things_in tree = things_at (stated_items (shape_of tree)) (places_in tree)

-- ---- faults

abbrev pub thing_fault : List ℕ → Thing → Option Fault
thing_fault file (cloud_thing c) = cloud_fault file c
thing_fault file (blob_thing b) = blob_fault file b

-- the first fault of some things in order
abbrev pub things_fault : List ℕ → List Thing → Option Fault
things_fault file [] = None
things_fault file (thing ∷ things) = option_or (thing_fault file thing) (things_fault file things)

-- ---- what they hold

-- the records of a cloud, a column of items for each field; or the bytes of a blob
pub data Body : Type 0 where
  records_body : List (List Value) → Body
  bytes_body : List ℕ → Body

-- what a thing without fault holds
abbrev pub body_of : List ℕ → Thing → Body
body_of file (cloud_thing c) = records_body (records_of file c)
body_of file (blob_thing b) = bytes_body (blob_bytes file b)

-- ---- how many there are

abbrev pub cloud_count : List StatedItem → ℕ
cloud_count [] = 0
cloud_count (stated_cloud n count fields ∷ items) = 1 + cloud_count items
cloud_count (stated_blob n size ∷ items) = cloud_count items

abbrev pub blob_count : List StatedItem → ℕ
blob_count [] = 0
blob_count (stated_cloud n count fields ∷ items) = blob_count items
blob_count (stated_blob n size ∷ items) = 1 + blob_count items

-- the records of all clouds
abbrev pub record_count : List StatedItem → ℕ
record_count [] = 0
record_count (stated_cloud n count fields ∷ items) = count + record_count items
record_count (stated_blob n size ∷ items) = record_count items
