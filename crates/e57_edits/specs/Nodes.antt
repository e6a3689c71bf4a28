-- The nodes that stay of a list of nodes in preorder, and their new sizes.
use Rattle.std.specs.Prelude.{ℕ, ◌+◌, ◌-◌, ◌==◌, nat_lt, Bool, ◌||◌, List, [], ◌∷◌, ◌++◌, drop, slice_index_or, if◌then◌else◌}
use Rattle.e57_elements.specs.declared.tree.RawNode.{RawNode}
use Rattle.e57_edits.specs.declared.changes.Change.{Change}
use Rattle.e57_edits.specs.Changes.{stays_alone, changed_attrs, first_change}

-- the number at a place
abbrev pub count_at : List ℕ → ℕ → ℕ
count_at counts n = slice_index_or counts n 0

-- whether a node stays, by how many of the nodes from each one behind it on do
abbrev pub is_left : Change → RawNode → List ℕ → Bool
is_left change node later = stays_alone change || nat_lt (count_at later (node.size - 1)) (count_at later 0)

abbrev pub count_before : Change → RawNode → List ℕ → ℕ
count_before change node later = (if is_left change node later then 1 else 0) + count_at later 0

-- how many of the nodes from each one on stay, and 0 at the end
unfoldable pub remaining : List Change → List RawNode → List ℕ
remaining changes [] = 0 ∷ []
remaining changes (node ∷ nodes) = count_before (first_change changes) node (remaining (drop 1 changes) nodes) ∷ remaining (drop 1 changes) nodes

-- how many stay of the first of these nodes and those below it
abbrev pub size_left : List Change → RawNode → List RawNode → ℕ
size_left changes node nodes = count_at (remaining changes (node ∷ nodes)) 0 - count_at (remaining changes (node ∷ nodes)) node.size

abbrev pub edited_node : Change → RawNode → ℕ → RawNode
edited_node change node size = record { name = node.name; attrs = changed_attrs change node.attrs; text = node.text; size = size }

-- the node, if it stays
abbrev pub node_left : Change → RawNode → ℕ → List RawNode
node_left change node size = if size == 0 then [] else edited_node change node size ∷ []

-- the nodes that stay
unfoldable pub edited_nodes : List Change → List RawNode → List RawNode
edited_nodes changes [] = []
edited_nodes changes (node ∷ nodes) = node_left (first_change changes) node (size_left changes node nodes) ++ edited_nodes (drop 1 changes) nodes
