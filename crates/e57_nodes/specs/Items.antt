-- The clouds and blobs of a tree, in document order.
use Rattle.std.specs.Prelude.{ℕ, List, map, Option, Some, None, unwrap_or}
use Rattle.std.specs.List.{filter_map}
use Rattle.e57_layout.specs.declared.field.Field.{Field}
use Rattle.e57_layout.specs.Values.{item_kind}
use Rattle.e57_cloud.specs.Cloud.{Leaf}
use Rattle.e57_nodes.specs.declared.ElementType.{ElementType}
use Rattle.e57_nodes.specs.declared.ElementType.TheVariants as element_type
use Rattle.e57_nodes.specs.Shape.{Shape, Node, nodes_from}
use Rattle.e57_nodes.specs.Fields.{fields_of}

-- a cloud: the number of its node, how many records it has, its fields; or a blob: the number of its node, its length in bytes
pub data StatedItem : Type 0 where
  stated_cloud : ℕ → ℕ → List Field → StatedItem
  stated_blob : ℕ → ℕ → StatedItem

abbrev pub stated_by : Node → Option ElementType → Option StatedItem
stated_by x (Some element_type.CompressedVector) = Some (stated_cloud x.number (unwrap_or x.facts.record_count 0) (fields_of x))
stated_by x (Some element_type.Blob) = Some (stated_blob x.number (unwrap_or x.facts.blob_length 0))
stated_by x other = None

-- what a node is; nothing of a node without a section
unfoldable pub stated_item : Node → Option StatedItem
stated_item x = stated_by x x.facts.element_type

abbrev pub stated_items : Shape → List StatedItem
stated_items tree = filter_map stated_item (nodes_from 0 tree)

-- fields as the reading of a section knows them, which has no use for paths, scales and offsets
abbrev pub leaves_of : List Field → List Leaf
leaves_of fields = map (λ (field : Field). record { node = field.node; kind = item_kind field.kind }) fields
