-- Paths and fields by number.
use Rattle.std.specs.Prelude.{◌≡◌, ℕ, ◌+◌, ◌-◌, ◌<◌, ◌≤◌, Bool, List, [], ◌∷◌, ◌++◌, length, slice_get, unwrap_or, if◌then◌else◌}
use Rattle.std.specs.Fmt.{decimal}
use Rattle.e57_elements.specs.declared.tree.RawNode.{RawNode}
use Rattle.e57_layout.specs.declared.field.Field.{Field}
use Rattle.e57_nodes.specs.Paths.{counts_children, paths_from}
use Rattle.e57_nodes.specs.Fields.{kind_of, field_at, fields_from_all}
use Rattle.e57_tree.specs.Flat.{raw_at, facts_in, shape_in, shapes_between, end_of}

-- the path of a child, by its position or its name
abbrev pub named_path : Bool → List ℕ → ℕ → List ℕ → List ℕ
named_path counted own position name = own ++ (47 ∷ (if counted then decimal position else name))

-- the fields below the node with this number and this path
abbrev pub fields_in : List RawNode → ℕ → List ℕ → List Field
fields_in nodes n path = fields_from_all (counts_children (facts_in (raw_at nodes n)).element_type) path 0 (n + 1) (shapes_between nodes (n + 1) (end_of nodes n))

-- the field of the node with this number and this path, if it is one
abbrev pub own_field : List RawNode → ℕ → List ℕ → List Field
own_field nodes n path = field_at n path (kind_of (facts_in (raw_at nodes n)) (facts_in (raw_at nodes n)).element_type)

-- the path of a node that stands at or below the node with this number, which has this path
abbrev pub path_in : List RawNode → ℕ → List ℕ → ℕ → List ℕ
path_in nodes n own wanted = unwrap_or (slice_get (paths_from own (shape_in nodes n)) (wanted - n)) []

-- The wanted node stands at or below this child of the node, whose path goes on by this position or the child's name.
pub record LeadsTo (nodes : List RawNode) (n wanted child position : ℕ) : Type 0 where
  pub after : n < child
  pub inside : child < length nodes
  pub from : child ≤ wanted
  pub below : wanted < end_of nodes child
  pub few : position ≤ child
  pub path : (own : List ℕ) → path_in nodes n own wanted
      ≡ path_in nodes child (named_path (counts_children (facts_in (raw_at nodes n)).element_type) own position (raw_at nodes child).name) wanted
