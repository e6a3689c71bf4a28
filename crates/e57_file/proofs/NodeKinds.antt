-- The kinds of faults that nodes have.
use Rattle.std.proofs.Common.{◌≡◌, ℕ, ◌+◌, ◌==◌, Bool, true, false, ◌&&◌, ◌||◌, not, List, [], ◌∷◌, ◌++◌, length, find, slice_get, Option, Some, None, refl, subst, pos}
use Rattle.std.specs.Prelude.{nat_lt, int_lt, codes, is_some, option_map, unwrap_or, if◌then◌else◌}
use Rattle.std.specs.Option.{option_or}
use Rattle.std.specs.Str.{bytes_eq}
use Rattle.e57_base.specs.Fault.{fault}
use Rattle.e57_base.specs.declared.fault.Fault.{Fault}
use Rattle.e57_base.specs.declared.kind.Kind.TheVariants as kind
use Rattle.e57_nodes.specs.declared.ElementType.{ElementType}
use Rattle.e57_nodes.specs.declared.ElementType.TheVariants as element_type
use Rattle.e57_nodes.specs.Facts.{Facts}
use Rattle.e57_nodes.specs.Shape.{Shape, shape, Shapes, no_shapes, shapes, node_count, Node, node_at, children_of, nodes_below}
use Rattle.e57_nodes.specs.Places.{has_section}
use Rattle.e57_nodes.specs.Fields.{child_named, fields_of}
use Rattle.e57_nodes.specs.Typed.{max_records, max_fields, type_fault, name_fault, is_misplaced, vector_child_fault, leaf_child_fault, child_fault, integer_fault, vector_attr_fault, blob_attr_fault, attr_fault, order_fault, limits_fault, codecs_fault, is_structure, prototype_fault, field_count_fault, record_limit_fault, prototype_fields_fault, compressed_vector_fault, rules_fault, node_fault, names_differ, namesake_of, tree_fault, trees_fault}
use Rattle.e57_file.specs.Opened.{is_node_kind}

-- the fault where the test holds
abbrev when : Bool → Fault → Option Fault
when test found = if test then Some found else None

-- a fault there is has a kind of a node's
abbrev pub OfNode : Option Fault → Type 0
OfNode None = Unit {0}
OfNode (Some found) = is_node_kind found.kind ≡ true

first_of : (a b : Option Fault) → OfNode a → OfNode b → OfNode (option_or a b)
first_of None b x y = y
first_of (Some found) b x y = x

tested : (test : Bool) (found : Fault) → is_node_kind found.kind ≡ true → OfNode (when test found)
tested true found e = e
tested false found e = tt

mapped : {A : Type 0} (f : A → Fault) (o : Option A) → ((x : A) → is_node_kind (f x).kind ≡ true) → OfNode (option_map f o)
mapped f None e = tt
mapped f (Some x) e = e x

of_type : (n : ℕ) (t : Option ElementType) → OfNode (type_fault n t)
unfolding type_fault
of_type n None = refl
of_type n (Some element_type.Structure) = tt
of_type n (Some other) = tested (n == 0) (fault kind.NodeType n 0) refl

of_name : (n : ℕ) (namesake : Option ℕ) (name : List ℕ) → OfNode (name_fault n namesake name)
unfolding name_fault
of_name n namesake name =
    first_of (when (n == 0 && not (bytes_eq name (codes "e57Root"))) (fault kind.NodeName n 0)) (option_map (λ earlier. fault kind.NodeName n earlier) namesake)
    (tested (n == 0 && not (bytes_eq name (codes "e57Root"))) (fault kind.NodeName n 0) refl) (mapped (λ earlier. fault kind.NodeName n earlier) namesake (λ x. refl))

of_vector_child : (n : ℕ) (children : List Node) → OfNode (vector_child_fault n children)
of_vector_child n children =
    first_of (option_map (λ (x : Node). fault kind.NodeChild n x.number) (find is_misplaced children)) (when (not (is_some (child_named (codes "prototype") children))) (fault kind.NodeChild n n))
    (mapped (λ (x : Node). fault kind.NodeChild n x.number) (find is_misplaced children) (λ x. refl)) (tested (not (is_some (child_named (codes "prototype") children))) (fault kind.NodeChild n n) refl)

of_leaf_child : (n : ℕ) (children : List Node) → OfNode (leaf_child_fault n children)
of_leaf_child n children = mapped (λ (x : Node). fault kind.NodeChild n x.number) (slice_get children 0) (λ x. refl)

of_child : (n : ℕ) (t : Option ElementType) (children : List Node) → OfNode (child_fault n t children)
unfolding child_fault
of_child n (Some element_type.CompressedVector) children = of_vector_child n children
of_child n (Some element_type.Structure) children = tt
of_child n (Some element_type.Vector) children = tt
of_child n (Some leaf) children = of_leaf_child n children
of_child n None children = tt

of_unread : {A : Type 0} (n attribute : ℕ) (o : Option A) → OfNode (when (not (is_some o)) (fault kind.NodeAttr n attribute))
of_unread n attribute o = tested (not (is_some o)) (fault kind.NodeAttr n attribute) refl

of_integer : (n : ℕ) (facts : Facts) → OfNode (integer_fault n facts)
of_integer n facts =
    first_of (when (not (is_some facts.minimum)) (fault kind.NodeAttr n 1)) (option_or (when (not (is_some facts.maximum)) (fault kind.NodeAttr n 2)) (when (not facts.is_integer) (fault kind.NodeAttr n 7)))
    (of_unread n 1 facts.minimum)
    (first_of (when (not (is_some facts.maximum)) (fault kind.NodeAttr n 2)) (when (not facts.is_integer) (fault kind.NodeAttr n 7)) (of_unread n 2 facts.maximum) (tested (not facts.is_integer) (fault kind.NodeAttr n 7) refl))

of_vector_attr : (n : ℕ) (facts : Facts) → OfNode (vector_attr_fault n facts)
of_vector_attr n facts =
    first_of (when (not facts.has_place) (fault kind.NodeAttr n 4)) (when (not (is_some facts.record_count)) (fault kind.NodeAttr n 5))
    (tested (not facts.has_place) (fault kind.NodeAttr n 4) refl) (of_unread n 5 facts.record_count)

of_blob_attr : (n : ℕ) (facts : Facts) → OfNode (blob_attr_fault n facts)
of_blob_attr n facts =
    first_of (when (not facts.has_place) (fault kind.NodeAttr n 4)) (when (not (is_some facts.blob_length)) (fault kind.NodeAttr n 6))
    (tested (not facts.has_place) (fault kind.NodeAttr n 4) refl) (of_unread n 6 facts.blob_length)

of_attr : (n : ℕ) (t : Option ElementType) (facts : Facts) → OfNode (attr_fault n t facts)
unfolding attr_fault
of_attr n (Some element_type.Integer) facts = of_integer n facts
of_attr n (Some element_type.ScaledInteger) facts = of_integer n facts
of_attr n (Some element_type.Float) facts = of_unread n 3 facts.precision
of_attr n (Some element_type.CompressedVector) facts = of_vector_attr n facts
of_attr n (Some element_type.Blob) facts = of_blob_attr n facts
of_attr n other facts = tt

of_order : (n : ℕ) (facts : Facts) → OfNode (order_fault n facts)
of_order n facts = tested (int_lt (unwrap_or facts.maximum (pos 0)) (unwrap_or facts.minimum (pos 0))) (fault kind.Limits n 0) refl

of_limits : (n : ℕ) (t : Option ElementType) (facts : Facts) → OfNode (limits_fault n t facts)
unfolding limits_fault
of_limits n (Some element_type.Integer) facts = of_order n facts
of_limits n (Some element_type.ScaledInteger) facts = of_order n facts
of_limits n other facts = tt

of_codecs : (n : ℕ) (codecs : Option Node) → OfNode (codecs_fault n codecs)
of_codecs n None = tt
of_codecs n (Some codecs) = tested (is_some (slice_get (children_of codecs) 0)) (fault kind.Codecs n codecs.number) refl

of_prototype : (n : ℕ) (prototype : Option Node) → OfNode (prototype_fault n prototype)
of_prototype n None = tt
of_prototype n (Some prototype) =
    first_of (when (not (is_structure prototype.facts.element_type)) (fault kind.Prototype n prototype.number))
    (option_map (λ (x : Node). fault kind.Prototype n x.number) (find (λ (x : Node). has_section x.facts.element_type) (nodes_below prototype)))
    (tested (not (is_structure prototype.facts.element_type)) (fault kind.Prototype n prototype.number) refl)
    (mapped (λ (x : Node). fault kind.Prototype n x.number) (find (λ (x : Node). has_section x.facts.element_type) (nodes_below prototype)) (λ x. refl))

of_fields : (x : Node) → OfNode (prototype_fields_fault x)
of_fields x =
    first_of (prototype_fault x.number (child_named (codes "prototype") (children_of x))) (field_count_fault x.number (length (fields_of x)))
    (of_prototype x.number (child_named (codes "prototype") (children_of x)))
    (tested (length (fields_of x) == 0 || nat_lt max_fields (length (fields_of x))) (fault kind.FieldCount x.number (length (fields_of x))) refl)

of_cloud : (x : Node) (t : Option ElementType) → OfNode (compressed_vector_fault x t)
unfolding compressed_vector_fault
of_cloud x (Some element_type.CompressedVector) =
    first_of (record_limit_fault x.number x.facts) (option_or (codecs_fault x.number (child_named (codes "codecs") (children_of x))) (prototype_fields_fault x))
    (tested (nat_lt max_records (unwrap_or x.facts.record_count 0)) (fault kind.RecordLimit x.number (unwrap_or x.facts.record_count 0)) refl)
    (first_of (codecs_fault x.number (child_named (codes "codecs") (children_of x))) (prototype_fields_fault x) (of_codecs x.number (child_named (codes "codecs") (children_of x))) (of_fields x))
of_cloud x other = tt

of_rules : (x : Node) (t : Option ElementType) → OfNode (rules_fault x t)
of_rules x t =
    first_of (child_fault x.number t (children_of x)) (option_or (attr_fault x.number t x.facts) (option_or (limits_fault x.number t x.facts) (compressed_vector_fault x t)))
    (of_child x.number t (children_of x))
    (first_of (attr_fault x.number t x.facts) (option_or (limits_fault x.number t x.facts) (compressed_vector_fault x t)) (of_attr x.number t x.facts)
    (first_of (limits_fault x.number t x.facts) (compressed_vector_fault x t) (of_limits x.number t x.facts) (of_cloud x t)))

of_node : (namesake : Option ℕ) (x : Node) → OfNode (node_fault namesake x)
unfolding node_fault
of_node namesake x =
    first_of (type_fault x.number x.facts.element_type) (option_or (name_fault x.number namesake x.facts.name) (rules_fault x x.facts.element_type))
    (of_type x.number x.facts.element_type)
    (first_of (name_fault x.number namesake x.facts.name) (rules_fault x x.facts.element_type) (of_name x.number namesake x.facts.name) (of_rules x x.facts.element_type))

mutual
  pub of_tree : (namesake : Option ℕ) (n : ℕ) (s : Shape) → OfNode (tree_fault namesake n s)
  of_tree namesake n (shape facts below) =
      first_of (node_fault namesake (node_at n (shape facts below))) (trees_fault (names_differ facts.element_type) [] (n + 1) below)
      (of_node namesake (node_at n (shape facts below))) (of_trees (names_differ facts.element_type) [] (n + 1) below)

  pub of_trees : (differ : Bool) (earlier : List Node) (n : ℕ) (ss : Shapes) → OfNode (trees_fault differ earlier n ss)
  of_trees differ earlier n no_shapes = tt
  of_trees differ earlier n (shapes s ss) =
      first_of (tree_fault (namesake_of differ earlier (node_at n s).facts.name) n s) (trees_fault differ (earlier ++ node_at n s ∷ []) (n + node_count s) ss)
      (of_tree (namesake_of differ earlier (node_at n s).facts.name) n s) (of_trees differ (earlier ++ node_at n s ∷ []) (n + node_count s) ss)

pub node_kind : (namesake : Option ℕ) (n : ℕ) (s : Shape) (found : Fault) → tree_fault namesake n s ≡ Some found → is_node_kind found.kind ≡ true
node_kind namesake n s found e = subst (λ (o : Option Fault). OfNode o) e (of_tree namesake n s)
