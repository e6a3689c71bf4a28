-- The first fault of the nodes of a tree (ASTM E2807, element types): the rules of each type, tested in one order.
use Rattle.std.specs.Prelude.{ℕ, ◌+◌, ◌^◌, ◌==◌, nat_lt, int_lt, pos, Bool, true, false, ◌&&◌, ◌||◌, not, List, [], ◌∷◌, ◌++◌, length, find, slice_get, codes, Option, Some, None, is_some, option_map, unwrap_or}
use Rattle.std.specs.Option.{option_or}
use Rattle.std.specs.Str.{bytes_eq}
use Rattle.e57_base.specs.declared.fault.Fault.{Fault}
use Rattle.e57_base.specs.declared.kind.Kind.TheVariants as kind
use Rattle.e57_base.specs.Fault.{fault}
use Rattle.e57_cloud.specs.Section.{when}
use Rattle.e57_nodes.specs.declared.ElementType.{ElementType}
use Rattle.e57_nodes.specs.declared.ElementType.TheVariants as element_type
use Rattle.e57_nodes.specs.Facts.{Facts}
use Rattle.e57_nodes.specs.Shape.{Shape, shape, Shapes, no_shapes, shapes, node_count, Node, node_at, children_of, nodes_below}
use Rattle.e57_nodes.specs.Places.{has_section}
use Rattle.e57_nodes.specs.Fields.{child_named, fields_of}

-- the most records and the most fields of a cloud
abbrev pub max_records : ℕ
max_records = 2 ^ 40

abbrev pub max_fields : ℕ
max_fields = 512

-- ---- the tests of a node with number n, in their order

-- it has a type that is known, and the root is a Structure
unfoldable pub type_fault : ℕ → Option ElementType → Option Fault
type_fault n None = Some (fault kind.NodeType n 0)
type_fault n (Some element_type.Structure) = None
type_fault n (Some other) = when (n == 0) (fault kind.NodeType n 0)

-- The root is named `e57Root`. A child of a Structure or CompressedVector has no namesake, an earlier child with its name.
unfoldable pub name_fault : ℕ → Option ℕ → List ℕ → Option Fault
name_fault n namesake name =
    option_or (when (n == 0 && not (bytes_eq name (codes "e57Root"))) (fault kind.NodeName n 0)) (option_map (λ earlier. fault kind.NodeName n earlier) namesake)

abbrev pub is_misplaced : Node → Bool
is_misplaced child = not (bytes_eq child.facts.name (codes "prototype") || bytes_eq child.facts.name (codes "codecs"))

abbrev pub vector_child_fault : ℕ → List Node → Option Fault
vector_child_fault n children =
    option_or (option_map (λ (x : Node). fault kind.NodeChild n x.number) (find is_misplaced children))
    (when (not (is_some (child_named (codes "prototype") children))) (fault kind.NodeChild n n))

abbrev pub leaf_child_fault : ℕ → List Node → Option Fault
leaf_child_fault n children = option_map (λ (x : Node). fault kind.NodeChild n x.number) (slice_get children 0)

-- A CompressedVector has a `prototype`, perhaps `codecs`, and no other child; a leaf and a Blob have no child.
unfoldable pub child_fault : ℕ → Option ElementType → List Node → Option Fault
child_fault n (Some element_type.CompressedVector) children = vector_child_fault n children
child_fault n (Some element_type.Structure) children = None
child_fault n (Some element_type.Vector) children = None
child_fault n (Some leaf) children = leaf_child_fault n children
child_fault n None children = None

-- the attribute with this number isn't readable
abbrev pub unread : {A : Type 0} → ℕ → ℕ → Option A → Option Fault
unread n attribute found = when (not (is_some found)) (fault kind.NodeAttr n attribute)

abbrev pub integer_fault : ℕ → Facts → Option Fault
integer_fault n facts = option_or (unread n 1 facts.minimum) (option_or (unread n 2 facts.maximum) (when (not facts.is_integer) (fault kind.NodeAttr n 7)))

abbrev pub float_fault : ℕ → Facts → Option Fault
float_fault n facts = unread n 3 facts.precision

abbrev pub vector_attr_fault : ℕ → Facts → Option Fault
vector_attr_fault n facts = option_or (when (not facts.has_place) (fault kind.NodeAttr n 4)) (unread n 5 facts.record_count)

abbrev pub blob_attr_fault : ℕ → Facts → Option Fault
blob_attr_fault n facts = option_or (when (not facts.has_place) (fault kind.NodeAttr n 4)) (unread n 6 facts.blob_length)

-- What the type needs is readable: 1 `minimum`, 2 `maximum`, 3 `precision`, 4 `fileOffset`, 5 `recordCount`, 6 `length`, 7 the text.
unfoldable pub attr_fault : ℕ → Option ElementType → Facts → Option Fault
attr_fault n (Some element_type.Integer) facts = integer_fault n facts
attr_fault n (Some element_type.ScaledInteger) facts = integer_fault n facts
attr_fault n (Some element_type.Float) facts = float_fault n facts
attr_fault n (Some element_type.CompressedVector) facts = vector_attr_fault n facts
attr_fault n (Some element_type.Blob) facts = blob_attr_fault n facts
attr_fault n other facts = None

abbrev pub order_fault : ℕ → Facts → Option Fault
order_fault n facts = when (int_lt (unwrap_or facts.maximum (pos 0)) (unwrap_or facts.minimum (pos 0))) (fault kind.Limits n 0)

-- the minimum isn't above the maximum
unfoldable pub limits_fault : ℕ → Option ElementType → Facts → Option Fault
limits_fault n (Some element_type.Integer) facts = order_fault n facts
limits_fault n (Some element_type.ScaledInteger) facts = order_fault n facts
limits_fault n other facts = None

-- the first `codecs` of a CompressedVector has no child
abbrev pub codecs_fault : ℕ → Option Node → Option Fault
codecs_fault n None = None
codecs_fault n (Some codecs) = when (is_some (slice_get (children_of codecs) 0)) (fault kind.Codecs n codecs.number)

abbrev pub is_structure : Option ElementType → Bool
is_structure (Some element_type.Structure) = true
is_structure other = false

-- the first `prototype` of a CompressedVector is a Structure, and neither a cloud nor a blob stands below it
abbrev pub prototype_fault : ℕ → Option Node → Option Fault
prototype_fault n None = None
prototype_fault n (Some prototype) =
    option_or (when (not (is_structure prototype.facts.element_type)) (fault kind.Prototype n prototype.number))
    (option_map (λ (x : Node). fault kind.Prototype n x.number) (find (λ (x : Node). has_section x.facts.element_type) (nodes_below prototype)))

-- there are 1 to 512 fields
abbrev pub field_count_fault : ℕ → ℕ → Option Fault
field_count_fault n count = when (count == 0 || nat_lt max_fields count) (fault kind.FieldCount n count)

abbrev pub record_limit_fault : ℕ → Facts → Option Fault
record_limit_fault n facts = when (nat_lt max_records (unwrap_or facts.record_count 0)) (fault kind.RecordLimit n (unwrap_or facts.record_count 0))

abbrev pub prototype_fields_fault : Node → Option Fault
prototype_fields_fault x = option_or (prototype_fault x.number (child_named (codes "prototype") (children_of x))) (field_count_fault x.number (length (fields_of x)))

-- what is tested of a CompressedVector alone
unfoldable pub compressed_vector_fault : Node → Option ElementType → Option Fault
compressed_vector_fault x (Some element_type.CompressedVector) =
    option_or (record_limit_fault x.number x.facts)
    (option_or (codecs_fault x.number (child_named (codes "codecs") (children_of x))) (prototype_fields_fault x))
compressed_vector_fault x other = None

-- what is tested by the type
abbrev pub rules_fault : Node → Option ElementType → Option Fault
rules_fault x t =
    option_or (child_fault x.number t (children_of x))
    (option_or (attr_fault x.number t x.facts) (option_or (limits_fault x.number t x.facts) (compressed_vector_fault x t)))

-- the first fault of a node, whose namesake is the number of an earlier child with its name
unfoldable pub node_fault : Option ℕ → Node → Option Fault
node_fault namesake x =
    option_or (type_fault x.number x.facts.element_type) (option_or (name_fault x.number namesake x.facts.name) (rules_fault x x.facts.element_type))

-- ---- the first fault of the first node at fault, in preorder

-- the children of such a node differ in their names
abbrev pub names_differ : Option ElementType → Bool
names_differ (Some element_type.Structure) = true
names_differ (Some element_type.CompressedVector) = true
names_differ other = false

-- the number of the first of the earlier children that has the name
abbrev pub namesake_of : Bool → List Node → List ℕ → Option ℕ
namesake_of false earlier name = None
namesake_of true earlier name = option_map (λ (x : Node). x.number) (child_named name earlier)

-- of a node and those below it, or of nodes one after another that stand behind the earlier ones; the first has this number
abbrev mutual
  pub tree_fault : Option ℕ → ℕ → Shape → Option Fault
  tree_fault namesake n (shape facts below) =
      option_or (node_fault namesake (node_at n (shape facts below))) (trees_fault (names_differ facts.element_type) [] (n + 1) below)

  pub trees_fault : Bool → List Node → ℕ → Shapes → Option Fault
  trees_fault differ earlier n no_shapes = None
  trees_fault differ earlier n (shapes s ss) =
      option_or (tree_fault (namesake_of differ earlier (node_at n s).facts.name) n s) (trees_fault differ (earlier ++ node_at n s ∷ []) (n + node_count s) ss)

-- of a whole tree
abbrev pub typed_fault : Shape → Option Fault
typed_fault tree = tree_fault None 0 tree
