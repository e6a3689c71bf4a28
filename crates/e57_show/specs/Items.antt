-- The lines of one cloud or blob of a tree, by its number.
use Rattle.std.specs.Prelude.{◌≡◌, ℕ, ◌<◌, ◌≤◌, List, ◌++◌, length}
use Rattle.e57_elements.specs.Tree.{Element, preorder}
use Rattle.e57_nodes.specs.Shape.{shape_of}
use Rattle.e57_nodes.specs.Paths.{path_of}
use Rattle.e57_tree.specs.declared.items.Item.{Item}
use Rattle.e57_tree.specs.declared.items.Item.TheVariants as item
use Rattle.e57_tree.specs.Held.{clouds_of, blobs_of, cloud_in, blob_in, fields_in}
use Rattle.e57_show.specs.Listing.{cloud_line, blob_line, field_lines}

-- the tree has a cloud of this number, at one of its nodes
pub record IsCloud (e : Element) (k : ℕ) : Type 0 where
  pub there : k < length (clouds_of e)
  pub inside : (cloud_in e k).node < length (preorder e)

-- the tree has a blob of this number, at one of its nodes
pub record IsBlob (e : Element) (k : ℕ) : Type 0 where
  pub there : k < length (blobs_of e)
  pub inside : (blob_in e k).node < length (preorder e)

abbrev pub IsItem : Element → Item → Type 0
IsItem e (item.Cloud k) = IsCloud e k
IsItem e (item.Blob k) = IsBlob e k

-- the number of its node
abbrev pub item_node : Element → Item → ℕ
item_node e (item.Cloud k) = (cloud_in e k).node
item_node e (item.Blob k) = (blob_in e k).node

-- The item is there, at this node or behind it.
pub record IsItemFrom (e : Element) (low : ℕ) (x : Item) : Type 0 where
  pub is_item : IsItem e x
  pub from : low ≤ item_node e x

-- the lines of cloud k and its fields
abbrev pub cloud_text : Element → ℕ → List ℕ
cloud_text e k = cloud_line k (path_of (shape_of e) (cloud_in e k).node) (cloud_in e k).count (length (fields_in e k)) ++ field_lines 0 (fields_in e k)

-- the line of blob k
abbrev pub blob_text : Element → ℕ → List ℕ
blob_text e k = blob_line k (path_of (shape_of e) (blob_in e k).node) (blob_in e k).length

abbrev pub item_text : Element → Item → List ℕ
item_text e (item.Cloud k) = cloud_text e k
item_text e (item.Blob k) = blob_text e k

-- Its lines are appended, and the trail stands at its node.
pub record AppendsItem (e : Element) (x : Item) (old new : List ℕ) (node : ℕ) : Type 0 where
  pub lines : new ≡ old ++ item_text e x
  pub there : node ≡ item_node e x
