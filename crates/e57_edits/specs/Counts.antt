-- The tree with other numbers of records of its clouds, and other lengths of its blobs.
use Rattle.std.specs.Prelude.{◌≡◌, ℕ, ◌≤◌, List, length, drop, codes, decimal, slice_get, slice_index_or, Option, Some, if◌then◌else◌}
use Rattle.e57_elements.specs.Tree.{Element, element, Elements, none, more}
use Rattle.e57_nodes.specs.declared.ElementType.{ElementType}
use Rattle.e57_nodes.specs.declared.ElementType.TheVariants as element_type
use Rattle.e57_nodes.specs.Facts.{type_in}
use Rattle.e57_nodes.specs.Places.{is_cloud_or_blob, places_in, with_value}
use Rattle.e57_nodes.specs.Typed.{max_records}
use Rattle.e57_plain.specs.Pruned.{count_name}
use Rattle.e57_tree.specs.declared.items.Item.{Item}
use Rattle.e57_tree.specs.declared.items.Item.TheVariants as item

abbrev pub length_name : List ℕ
length_name = codes "length"

-- the attribute in which an element of this type states its count: of records, or of the bytes of a blob
abbrev pub count_name_of : Option ElementType → List ℕ
count_name_of (Some element_type.Blob) = length_name
count_name_of other = count_name

-- the tree with these counts in decimal, one for each cloud and blob in document order
abbrev mutual
  pub with_counts : List ℕ → Element → Element
  with_counts counts (element name attrs text children) =
      if is_cloud_or_blob attrs
      then element name (with_value (count_name_of (type_in attrs)) (decimal (slice_index_or counts 0 0)) attrs) text (with_counts_all (drop 1 counts) children)
      else element name attrs text (with_counts_all counts children)

  pub with_counts_all : List ℕ → Elements → Elements
  with_counts_all counts none = none
  with_counts_all counts (more e es) = more (with_counts counts e) (with_counts_all (drop (length (places_in e)) counts) es)

-- No cloud gets more records than a cloud may have.
abbrev pub AreCounts : List Item → List ℕ → Type 0
AreCounts items counts = (i cloud : ℕ) → slice_get items i ≡ Some (item.Cloud cloud) → slice_index_or counts i 0 ≤ max_records
