-- The content with limits as narrow as its values: in each cloud with records, each integer field whose element has room for both
-- limits gets the least and the greatest of its items as its limits.
use Rattle.std.specs.Prelude.{ℕ, ◌==◌, ℤ, Bool, List, [], ◌∷◌, ◌++◌, Option, Some, None, if◌then◌else◌}
use Rattle.std.specs.Int.{int_min, int_max}
use Rattle.e57_layout.specs.Values.{Value, whole, word, octets}
use Rattle.e57_layout.specs.declared.field.Field.{Field}
use Rattle.e57_nodes.specs.Items.{StatedItem, stated_cloud, stated_blob}
use Rattle.e57_nodes.specs.Limits.{with_limits}
use Rattle.e57_verdict.specs.Things.{Body, records_body, bytes_body}
use Rattle.e57_verdict.specs.Content.{Content}
use Rattle.e57_plain.specs.Valid.{items_in}
use Rattle.e57_plain.specs.Written.{plain}

-- ---- the least and the greatest

abbrev pub widened : ℤ → Option (ℤ × ℤ) → Option (ℤ × ℤ)
widened z None = Some (z, z)
widened z (Some range) = Some (int_min z range.0, int_max z range.1)

-- of the integers among some items; none where there is no integer
abbrev pub range_of : List Value → Option (ℤ × ℤ)
range_of [] = None
range_of (whole z ∷ values) = widened z (range_of values)
range_of (word n ∷ values) = range_of values
range_of (octets t ∷ values) = range_of values

-- ---- by the number of a node

-- the items of the field with this number, among columns of items for each field
abbrev pub field_items : ℕ → List Field → List (List Value) → List Value
field_items node [] columns = []
field_items node (field ∷ fields) [] = []
field_items node (field ∷ fields) (column ∷ columns) = (if field.node == node then column else []) ++ field_items node fields columns

-- the same among the clouds of a content
abbrev pub node_items : ℕ → List StatedItem → List Body → List Value
node_items node [] bodies = []
node_items node (item ∷ items) [] = []
node_items node (stated_cloud n count fields ∷ items) (records_body columns ∷ bodies) = field_items node fields columns ++ node_items node items bodies
node_items node (stated_cloud n count fields ∷ items) (bytes_body bytes ∷ bodies) = node_items node items bodies
node_items node (stated_blob n size ∷ items) (body ∷ bodies) = node_items node items bodies

-- the least and the greatest item of the node with this number
unfoldable pub range_in : Content → ℕ → Option (ℤ × ℤ)
range_in content node = range_of (node_items node (items_in content) content.bodies)

-- ---- the content

unfoldable pub tight : Content → Content
tight content = record { tree = with_limits (range_in content) 0 content.tree; bodies = content.bodies }

-- what is written of a content, with narrow limits or with its own
unfoldable pub written : ℕ → Bool → Content → List ℕ
written n is_tight content = plain n (if is_tight then tight content else content)
