-- A tree has no fault by its numbered nodes just where it has none by the rules without numbers.
use Rattle.std.specs.Prelude.{◌≡◌, ℕ, ◌+◌, ◌<◌, ◌≤◌, ◌==◌, ◌||◌, ◌&&◌, not, nat_lt, int_lt, pos, Bool, true, false, List, [], ◌∷◌, ◌++◌, length, map, find, slice_get, codes, Option, Some, None, is_some, option_map, unwrap_or}
use Rattle.std.specs.List.{list_all}
use Rattle.std.specs.Option.{option_or}
use Rattle.std.specs.Str.{bytes_eq}
use Rattle.std.proofs.Common.{refl, sym, ap, subst, ◌∙◌, arith, ne_eqb, le-ltb}
use Rattle.std.proofs.lemmas.Bool.Decides.{nat_tests}
use Rattle.e57_base.specs.declared.kind.Kind.TheVariants as kind
use Rattle.e57_base.specs.Fault.{fault}
use Rattle.e57_cloud.specs.Section.{when}
use Rattle.e57_nodes.specs.declared.ElementType.{ElementType}
use Rattle.e57_nodes.specs.declared.ElementType.TheVariants as element_type
use Rattle.e57_nodes.specs.Facts.{Facts}
use Rattle.e57_nodes.specs.Shape.{Shape, shape, Shapes, no_shapes, shapes, node_count, Node, node_at, children_from, children_of, nodes_below}
use Rattle.e57_nodes.specs.Fields.{child_named, fields_of}
use Rattle.e57_nodes.specs.Typed.{max_records, max_fields, type_fault, name_fault, is_misplaced, leaf_child_fault, child_fault, unread, integer_fault, attr_fault, order_fault, limits_fault, codecs_fault, is_structure, prototype_fault, field_count_fault, record_limit_fault, prototype_fields_fault, compressed_vector_fault, node_fault, names_differ, namesake_of, tree_fault, trees_fault, typed_fault}
use Rattle.e57_nodes.proofs.Laws.Sound.{option_or-none}
use Rattle.e57_plain.proofs.Laws.Typing.{name_in, names_in, is_among, called, AreDistinct, kinds_all, is_expected, ChildRule, CodecsRule, IsPrototype, PrototypeRule, VectorRule, IsTypedNode, IsTyped, AreTyped, none-or, when-other, when-false, map-none, none-map, stripped, child-called, among-named, find-skip, find-no, is_section, no-sections, sections-none, length-kinds, vector_kinds, fields_of-kinds}
use Rattle.std.proofs.lemmas.Bool.{and_parts, or_parts, and_from}
use Rattle.e57_base.proofs.Options.{absent_is_none}
use Rattle.e57_cloud.proofs.Laws.Sections.{when-none}

-- ---- type

type-known : (n : ℕ) (t : Option ElementType) → type_fault n t ≡ None → is_some t ≡ true
unfolding type_fault
type-known n None free = absurd (cc)
type-known n (Some t) free = refl

type-root : (n : ℕ) (t : Option ElementType) → type_fault n t ≡ None → (n == 0) ≡ true → t ≡ Some element_type.Structure
unfolding type_fault
type-root n None free root = absurd (cc)
type-root n (Some element_type.Structure) free root = refl
type-root n (Some element_type.Vector) free root = absurd (let h = when-none (n == 0) (fault kind.NodeType n 0) free in cc)
type-root n (Some element_type.CompressedVector) free root = absurd (let h = when-none (n == 0) (fault kind.NodeType n 0) free in cc)
type-root n (Some element_type.Integer) free root = absurd (let h = when-none (n == 0) (fault kind.NodeType n 0) free in cc)
type-root n (Some element_type.ScaledInteger) free root = absurd (let h = when-none (n == 0) (fault kind.NodeType n 0) free in cc)
type-root n (Some element_type.Float) free root = absurd (let h = when-none (n == 0) (fault kind.NodeType n 0) free in cc)
type-root n (Some element_type.String) free root = absurd (let h = when-none (n == 0) (fault kind.NodeType n 0) free in cc)
type-root n (Some element_type.Blob) free root = absurd (let h = when-none (n == 0) (fault kind.NodeType n 0) free in cc)

not-root : (b : Bool) (t : ElementType) → (b ≡ true → Some t ≡ Some element_type.Structure) → (Some t ≡ Some element_type.Structure → ⊥) → b ≡ false
not-root true t is other = absurd (other (is refl))
not-root false t is other = refl

type-none : (n : ℕ) (t : Option ElementType) → is_some t ≡ true → ((n == 0) ≡ true → t ≡ Some element_type.Structure) → type_fault n t ≡ None
unfolding type_fault
type-none n None known root = absurd (cc)
type-none n (Some element_type.Structure) known root = refl
type-none n (Some element_type.Vector) known root = when-false (n == 0) (fault kind.NodeType n 0) (not-root (n == 0) element_type.Vector root (λ e. cc))
type-none n (Some element_type.CompressedVector) known root = when-false (n == 0) (fault kind.NodeType n 0) (not-root (n == 0) element_type.CompressedVector root (λ e. cc))
type-none n (Some element_type.Integer) known root = when-false (n == 0) (fault kind.NodeType n 0) (not-root (n == 0) element_type.Integer root (λ e. cc))
type-none n (Some element_type.ScaledInteger) known root = when-false (n == 0) (fault kind.NodeType n 0) (not-root (n == 0) element_type.ScaledInteger root (λ e. cc))
type-none n (Some element_type.Float) known root = when-false (n == 0) (fault kind.NodeType n 0) (not-root (n == 0) element_type.Float root (λ e. cc))
type-none n (Some element_type.String) known root = when-false (n == 0) (fault kind.NodeType n 0) (not-root (n == 0) element_type.String root (λ e. cc))
type-none n (Some element_type.Blob) known root = when-false (n == 0) (fault kind.NodeType n 0) (not-root (n == 0) element_type.Blob root (λ e. cc))

-- ---- name

and-false : (a b : Bool) → (a && not b) ≡ false → a ≡ true → b ≡ true
and-false true true e a = refl
and-false true false e a = absurd (cc)
and-false false b e a = absurd (cc)

false-and : (a b : Bool) → (a ≡ true → b ≡ true) → (a && not b) ≡ false
false-and true true is = refl
false-and true false is = absurd (let h = is refl in cc)
false-and false b is = refl

name-parts : (n : ℕ) (namesake : Option ℕ) (name : List ℕ) → name_fault n namesake name ≡ None → ((n == 0) ≡ true → bytes_eq name (codes "e57Root") ≡ true) × (namesake ≡ None)
unfolding name_fault
name-parts n namesake name free =
    let parts = option_or-none (when (n == 0 && not (bytes_eq name (codes "e57Root"))) (fault kind.NodeName n 0)) (option_map (λ earlier. fault kind.NodeName n earlier) namesake) free in
    (and-false (n == 0) (bytes_eq name (codes "e57Root")) (when-none (n == 0 && not (bytes_eq name (codes "e57Root"))) (fault kind.NodeName n 0) parts.0), map-none (λ earlier. fault kind.NodeName n earlier) namesake parts.1)

name-none : (n : ℕ) (namesake : Option ℕ) (name : List ℕ) → ((n == 0) ≡ true → bytes_eq name (codes "e57Root") ≡ true) → namesake ≡ None → name_fault n namesake name ≡ None
unfolding name_fault
name-none n namesake name root alone =
    none-or (when (n == 0 && not (bytes_eq name (codes "e57Root"))) (fault kind.NodeName n 0)) (option_map (λ earlier. fault kind.NodeName n earlier) namesake)
    (when-false (n == 0 && not (bytes_eq name (codes "e57Root"))) (fault kind.NodeName n 0) (false-and (n == 0) (bytes_eq name (codes "e57Root")) root))
    (none-map (λ earlier. fault kind.NodeName n earlier) namesake alone)

-- ---- children

not-false : (b : Bool) → not b ≡ false → b ≡ true
not-false true e = refl
not-false false e = absurd (cc)

not-true : (b : Bool) → b ≡ true → not b ≡ false
not-true true e = refl
not-true false e = absurd (cc)

all-expected : (n : ℕ) (ss : Shapes) → find is_misplaced (children_from n ss) ≡ None → list_all is_expected (names_in ss) ≡ true
all-expected n no_shapes free = refl
all-expected n (shapes (shape facts below) ss) free =
    let parts = find-no is_misplaced (node_at n (shape facts below)) (children_from (n + node_count (shape facts below)) ss) free in
    and_from (is_expected facts.name) (list_all is_expected (names_in ss)) (not-false (is_expected facts.name) parts.0) (all-expected (n + node_count (shape facts below)) ss parts.1)

expected-all : (n : ℕ) (ss : Shapes) → list_all is_expected (names_in ss) ≡ true → find is_misplaced (children_from n ss) ≡ None
expected-all n no_shapes all = refl
expected-all n (shapes (shape facts below) ss) all =
    let parts = and_parts (is_expected facts.name) (list_all is_expected (names_in ss)) all in
    find-skip is_misplaced (node_at n (shape facts below)) (children_from (n + node_count (shape facts below)) ss) (not-true (is_expected facts.name) parts.0)
    ∙ expected-all (n + node_count (shape facts below)) ss parts.1

leaf-bare : (n m : ℕ) (ss : Shapes) → leaf_child_fault n (children_from m ss) ≡ None → ss ≡ no_shapes
leaf-bare n m no_shapes free = refl
leaf-bare n m (shapes (shape facts below) ss) free = absurd (cc)

bare-leaf : (n m : ℕ) (ss : Shapes) → ss ≡ no_shapes → leaf_child_fault n (children_from m ss) ≡ None
bare-leaf n m no_shapes none = refl
bare-leaf n m (shapes s ss) none = absurd (cc)

child-rule : (n m : ℕ) (t : Option ElementType) (below : Shapes) → child_fault n t (children_from m below) ≡ None → ChildRule t below
unfolding child_fault
child-rule n m None below free = tt
child-rule n m (Some element_type.Structure) below free = tt
child-rule n m (Some element_type.Vector) below free = tt
child-rule n m (Some element_type.CompressedVector) below free =
    all-expected m below (map-none (λ (x : Node). fault kind.NodeChild n x.number) (find is_misplaced (children_from m below)) (option_or-none (option_map (λ (x : Node). fault kind.NodeChild n x.number) (find is_misplaced (children_from m below))) (when (not (is_some (child_named (codes "prototype") (children_from m below)))) (fault kind.NodeChild n n)) free).0)
child-rule n m (Some element_type.Integer) below free = leaf-bare n m below free
child-rule n m (Some element_type.ScaledInteger) below free = leaf-bare n m below free
child-rule n m (Some element_type.Float) below free = leaf-bare n m below free
child-rule n m (Some element_type.String) below free = leaf-bare n m below free
child-rule n m (Some element_type.Blob) below free = leaf-bare n m below free

prototype-there : (n : ℕ) (below : Shapes) → PrototypeRule (called (codes "prototype") below) → is_some (child_named (codes "prototype") (children_from n below)) ≡ true
prototype-there n below rule = by_found (child_named (codes "prototype") (children_from n below)) (child-called (codes "prototype") n below) where
  by_found : (found : Option Node) → option_map stripped found ≡ called (codes "prototype") below → is_some found ≡ true
  by_found None is = absurd (subst (λ (s : Option Shape). PrototypeRule s) (sym is) rule)
  by_found (Some x) is = refl

rule-child : (n m : ℕ) (t : Option ElementType) (facts : Facts) (below : Shapes) → ChildRule t below → VectorRule t facts below → child_fault n t (children_from m below) ≡ None
unfolding child_fault
rule-child n m None facts below rule vector = refl
rule-child n m (Some element_type.Structure) facts below rule vector = refl
rule-child n m (Some element_type.Vector) facts below rule vector = refl
rule-child n m (Some element_type.CompressedVector) facts below rule vector =
    none-or (option_map (λ (x : Node). fault kind.NodeChild n x.number) (find is_misplaced (children_from m below))) (when (not (is_some (child_named (codes "prototype") (children_from m below)))) (fault kind.NodeChild n n))
    (none-map (λ (x : Node). fault kind.NodeChild n x.number) (find is_misplaced (children_from m below)) (expected-all m below rule))
    (when-false (not (is_some (child_named (codes "prototype") (children_from m below)))) (fault kind.NodeChild n n) (not-true (is_some (child_named (codes "prototype") (children_from m below))) (prototype-there m below vector.prototype)))
rule-child n m (Some element_type.Integer) facts below rule vector = bare-leaf n m below rule
rule-child n m (Some element_type.ScaledInteger) facts below rule vector = bare-leaf n m below rule
rule-child n m (Some element_type.Float) facts below rule vector = bare-leaf n m below rule
rule-child n m (Some element_type.String) facts below rule vector = bare-leaf n m below rule
rule-child n m (Some element_type.Blob) facts below rule vector = bare-leaf n m below rule

-- ---- attributes and limits, whatever the number

integer-other : (n m : ℕ) (facts : Facts) → integer_fault n facts ≡ None → integer_fault m facts ≡ None
integer-other n m facts free =
    let first = option_or-none (unread n 1 facts.minimum) (option_or (unread n 2 facts.maximum) (when (not facts.is_integer) (fault kind.NodeAttr n 7))) free in
    let rest = option_or-none (unread n 2 facts.maximum) (when (not facts.is_integer) (fault kind.NodeAttr n 7)) first.1 in
    none-or (unread m 1 facts.minimum) (option_or (unread m 2 facts.maximum) (when (not facts.is_integer) (fault kind.NodeAttr m 7)))
    (when-other (not (is_some facts.minimum)) (fault kind.NodeAttr n 1) (fault kind.NodeAttr m 1) first.0)
    (none-or (unread m 2 facts.maximum) (when (not facts.is_integer) (fault kind.NodeAttr m 7))
    (when-other (not (is_some facts.maximum)) (fault kind.NodeAttr n 2) (fault kind.NodeAttr m 2) rest.0)
    (when-other (not facts.is_integer) (fault kind.NodeAttr n 7) (fault kind.NodeAttr m 7) rest.1))

attr-other : (n m : ℕ) (t : Option ElementType) (facts : Facts) → attr_fault n t facts ≡ None → attr_fault m t facts ≡ None
unfolding attr_fault
attr-other n m None facts free = refl
attr-other n m (Some element_type.Structure) facts free = refl
attr-other n m (Some element_type.Vector) facts free = refl
attr-other n m (Some element_type.CompressedVector) facts free =
    let parts = option_or-none (when (not facts.has_place) (fault kind.NodeAttr n 4)) (unread n 5 facts.record_count) free in
    none-or (when (not facts.has_place) (fault kind.NodeAttr m 4)) (unread m 5 facts.record_count)
    (when-other (not facts.has_place) (fault kind.NodeAttr n 4) (fault kind.NodeAttr m 4) parts.0)
    (when-other (not (is_some facts.record_count)) (fault kind.NodeAttr n 5) (fault kind.NodeAttr m 5) parts.1)
attr-other n m (Some element_type.Integer) facts free = integer-other n m facts free
attr-other n m (Some element_type.ScaledInteger) facts free = integer-other n m facts free
attr-other n m (Some element_type.Float) facts free = when-other (not (is_some facts.precision)) (fault kind.NodeAttr n 3) (fault kind.NodeAttr m 3) free
attr-other n m (Some element_type.String) facts free = refl
attr-other n m (Some element_type.Blob) facts free =
    let parts = option_or-none (when (not facts.has_place) (fault kind.NodeAttr n 4)) (unread n 6 facts.blob_length) free in
    none-or (when (not facts.has_place) (fault kind.NodeAttr m 4)) (unread m 6 facts.blob_length)
    (when-other (not facts.has_place) (fault kind.NodeAttr n 4) (fault kind.NodeAttr m 4) parts.0)
    (when-other (not (is_some facts.blob_length)) (fault kind.NodeAttr n 6) (fault kind.NodeAttr m 6) parts.1)

order-other : (n m : ℕ) (facts : Facts) → order_fault n facts ≡ None → order_fault m facts ≡ None
order-other n m facts free = when-other (int_lt (unwrap_or facts.maximum (pos 0)) (unwrap_or facts.minimum (pos 0))) (fault kind.Limits n 0) (fault kind.Limits m 0) free

limits-other : (n m : ℕ) (t : Option ElementType) (facts : Facts) → limits_fault n t facts ≡ None → limits_fault m t facts ≡ None
unfolding limits_fault
limits-other n m None facts free = refl
limits-other n m (Some element_type.Structure) facts free = refl
limits-other n m (Some element_type.Vector) facts free = refl
limits-other n m (Some element_type.CompressedVector) facts free = refl
limits-other n m (Some element_type.Integer) facts free = order-other n m facts free
limits-other n m (Some element_type.ScaledInteger) facts free = order-other n m facts free
limits-other n m (Some element_type.Float) facts free = refl
limits-other n m (Some element_type.String) facts free = refl
limits-other n m (Some element_type.Blob) facts free = refl

-- ---- what is tested of a CompressedVector alone

codecs-rule : (n m : ℕ) (below : Shapes) → codecs_fault n (child_named (codes "codecs") (children_from m below)) ≡ None → CodecsRule (called (codes "codecs") below)
codecs-rule n m below free = subst (λ (s : Option Shape). CodecsRule s) (child-called (codes "codecs") m below) (by_found (child_named (codes "codecs") (children_from m below)) free) where
  bare : (k : ℕ) (ss : Shapes) → is_some (slice_get (children_from k ss) 0) ≡ false → ss ≡ no_shapes
  bare k no_shapes none = refl
  bare k (shapes s ss) none = absurd (cc)

  by_found : (found : Option Node) → codecs_fault n found ≡ None → CodecsRule (option_map stripped found)
  by_found None free = tt
  by_found (Some x) free = bare (x.number + 1) x.below (when-none (is_some (slice_get (children_of x) 0)) (fault kind.Codecs n x.number) free)

rule-codecs : (n m : ℕ) (below : Shapes) → CodecsRule (called (codes "codecs") below) → codecs_fault n (child_named (codes "codecs") (children_from m below)) ≡ None
rule-codecs n m below rule = by_found (child_named (codes "codecs") (children_from m below)) (subst (λ (s : Option Shape). CodecsRule s) (sym (child-called (codes "codecs") m below)) rule) where
  bare : (k : ℕ) (ss : Shapes) → ss ≡ no_shapes → is_some (slice_get (children_from k ss) 0) ≡ false
  bare k no_shapes none = refl
  bare k (shapes s ss) none = absurd (cc)

  by_found : (found : Option Node) → CodecsRule (option_map stripped found) → codecs_fault n found ≡ None
  by_found None rule = refl
  by_found (Some x) rule = when-false (is_some (slice_get (children_of x) 0)) (fault kind.Codecs n x.number) (bare (x.number + 1) x.below rule)

-- a count of fields
count-rule : (n k : ℕ) → field_count_fault n k ≡ None → (0 < k) × (k ≤ 512)
count-rule n k free =
    let parts = or_parts (k == 0) (nat_lt max_fields k) (when-none (k == 0 || nat_lt max_fields k) (fault kind.FieldCount n k) free) in
    let first = parts.0 in
    let second = parts.1 in
    (grind (arith, nat_tests), grind (arith, nat_tests))

rule-count : (n k : ℕ) → 0 < k → k ≤ 512 → field_count_fault n k ≡ None
rule-count n k some few = when-false (k == 0 || nat_lt max_fields k) (fault kind.FieldCount n k) (rw (ne_eqb k 0 (λ zero. omega arith), le-ltb 512 k few) refl)

field-count : (x : Node) → length (fields_of x) ≡ length (vector_kinds (called (codes "prototype") x.below))
field-count x = sym (length-kinds (fields_of x)) ∙ ap length (fields_of-kinds x)

prototype-rule : (x : Node) → prototype_fields_fault x ≡ None → PrototypeRule (called (codes "prototype") x.below)
prototype-rule x free = subst (λ (s : Option Shape). PrototypeRule s) (child-called (codes "prototype") (x.number + 1) x.below) (by_found (child_named (codes "prototype") (children_of x)) (ap vector_kinds (child-called (codes "prototype") (x.number + 1) x.below)) parts.0) where
  parts : (prototype_fault x.number (child_named (codes "prototype") (children_of x)) ≡ None) × (field_count_fault x.number (length (fields_of x)) ≡ None)
  parts = option_or-none (prototype_fault x.number (child_named (codes "prototype") (children_of x))) (field_count_fault x.number (length (fields_of x))) free

  counts : (0 < length (vector_kinds (called (codes "prototype") x.below))) × (length (vector_kinds (called (codes "prototype") x.below)) ≤ 512)
  counts = subst (λ k. (0 < k) × (k ≤ 512)) (field-count x) (count-rule x.number (length (fields_of x)) parts.1)

  by_found : (found : Option Node) → vector_kinds (option_map stripped found) ≡ vector_kinds (called (codes "prototype") x.below) → prototype_fault x.number found ≡ None → PrototypeRule (option_map stripped found)
  by_found None same free = absurd (let h : 0 ≡ length (vector_kinds (called (codes "prototype") x.below)) = ap length same in let c = counts.0 in omega arith)
  by_found (Some p) same free =
      let both = option_or-none (when (not (is_structure p.facts.element_type)) (fault kind.Prototype x.number p.number)) (option_map (λ (y : Node). fault kind.Prototype x.number y.number) (find is_section (nodes_below p))) free in
      let count = ap length same in
      record {
        is_structure = not-false (is_structure p.facts.element_type) (when-none (not (is_structure p.facts.element_type)) (fault kind.Prototype x.number p.number) both.0);
        no_section = no-sections (p.number + 1) p.below (map-none (λ (y : Node). fault kind.Prototype x.number y.number) (find is_section (nodes_below p)) both.1);
        some = let c = counts.0 in omega arith;
        few = let c = counts.1 in omega arith;
      }

rule-prototype : (x : Node) → PrototypeRule (called (codes "prototype") x.below) → prototype_fields_fault x ≡ None
rule-prototype x rule = by_found (child_named (codes "prototype") (children_of x)) (child-called (codes "prototype") (x.number + 1) x.below) refl where
  by_found : (found : Option Node) → option_map stripped found ≡ called (codes "prototype") x.below → child_named (codes "prototype") (children_of x) ≡ found → prototype_fields_fault x ≡ None
  by_found None is found = absurd (subst (λ (s : Option Shape). PrototypeRule s) (sym is) rule)
  by_found (Some p) is found =
      let here : IsPrototype p.facts p.below = subst (λ (s : Option Shape). PrototypeRule s) (sym is) rule in
      let count : length (fields_of x) ≡ length (kinds_all p.below) = field-count x ∙ ap (λ s. length (vector_kinds s)) (sym is) in
      let structure = when-false (not (is_structure p.facts.element_type)) (fault kind.Prototype x.number p.number) (not-true (is_structure p.facts.element_type) here.is_structure) in
      let sections = none-map (λ (y : Node). fault kind.Prototype x.number y.number) (find is_section (nodes_below p)) (sections-none (p.number + 1) p.below here.no_section) in
      none-or (prototype_fault x.number (child_named (codes "prototype") (children_of x))) (field_count_fault x.number (length (fields_of x)))
      (ap (prototype_fault x.number) found
      ∙ none-or (when (not (is_structure p.facts.element_type)) (fault kind.Prototype x.number p.number)) (option_map (λ (y : Node). fault kind.Prototype x.number y.number) (find is_section (nodes_below p))) structure sections)
      (ap (field_count_fault x.number) count ∙ rule-count x.number (length (kinds_all p.below)) here.some here.few)

vector-rule : (x : Node) (t : Option ElementType) → compressed_vector_fault x t ≡ None → VectorRule t x.facts x.below
unfolding compressed_vector_fault
vector-rule x None free = tt
vector-rule x (Some element_type.Structure) free = tt
vector-rule x (Some element_type.Vector) free = tt
vector-rule x (Some element_type.CompressedVector) free =
    let first = option_or-none (record_limit_fault x.number x.facts) (option_or (codecs_fault x.number (child_named (codes "codecs") (children_of x))) (prototype_fields_fault x)) free in
    let rest = option_or-none (codecs_fault x.number (child_named (codes "codecs") (children_of x))) (prototype_fields_fault x) first.1 in
    record {
      few = when-none (nat_lt max_records (unwrap_or x.facts.record_count 0)) (fault kind.RecordLimit x.number (unwrap_or x.facts.record_count 0)) first.0;
      codecs = codecs-rule x.number (x.number + 1) x.below rest.0;
      prototype = prototype-rule x rest.1;
    }
vector-rule x (Some element_type.Integer) free = tt
vector-rule x (Some element_type.ScaledInteger) free = tt
vector-rule x (Some element_type.Float) free = tt
vector-rule x (Some element_type.String) free = tt
vector-rule x (Some element_type.Blob) free = tt

rule-vector : (x : Node) (t : Option ElementType) → VectorRule t x.facts x.below → compressed_vector_fault x t ≡ None
unfolding compressed_vector_fault
rule-vector x None rule = refl
rule-vector x (Some element_type.Structure) rule = refl
rule-vector x (Some element_type.Vector) rule = refl
rule-vector x (Some element_type.CompressedVector) rule =
    none-or (record_limit_fault x.number x.facts) (option_or (codecs_fault x.number (child_named (codes "codecs") (children_of x))) (prototype_fields_fault x))
    (when-false (nat_lt max_records (unwrap_or x.facts.record_count 0)) (fault kind.RecordLimit x.number (unwrap_or x.facts.record_count 0)) rule.few)
    (none-or (codecs_fault x.number (child_named (codes "codecs") (children_of x))) (prototype_fields_fault x)
    (rule-codecs x.number (x.number + 1) x.below rule.codecs) (rule-prototype x rule.prototype))
rule-vector x (Some element_type.Integer) rule = refl
rule-vector x (Some element_type.ScaledInteger) rule = refl
rule-vector x (Some element_type.Float) rule = refl
rule-vector x (Some element_type.String) rule = refl
rule-vector x (Some element_type.Blob) rule = refl

-- ---- a node

node-typed : (namesake : Option ℕ) (x : Node) → node_fault namesake x ≡ None → IsTypedNode (x.number == 0) x.facts x.below × (namesake ≡ None)
unfolding node_fault
node-typed namesake x free =
    let t = x.facts.element_type in
    let last = option_or (limits_fault x.number t x.facts) (compressed_vector_fault x t) in
    let after_type = option_or-none (type_fault x.number t) (option_or (name_fault x.number namesake x.facts.name) (option_or (child_fault x.number t (children_of x)) (option_or (attr_fault x.number t x.facts) last))) free in
    let after_name = option_or-none (name_fault x.number namesake x.facts.name) (option_or (child_fault x.number t (children_of x)) (option_or (attr_fault x.number t x.facts) last)) after_type.1 in
    let after_child = option_or-none (child_fault x.number t (children_of x)) (option_or (attr_fault x.number t x.facts) last) after_name.1 in
    let after_attr = option_or-none (attr_fault x.number t x.facts) last after_child.1 in
    let after_limits = option_or-none (limits_fault x.number t x.facts) (compressed_vector_fault x t) after_attr.1 in
    let name = name-parts x.number namesake x.facts.name after_name.0 in (
      record {
        has_type = type-known x.number t after_type.0;
        root_type = type-root x.number t after_type.0;
        root_name = name.0;
        children = child-rule x.number (x.number + 1) t x.below after_child.0;
        attrs = attr-other x.number 0 t x.facts after_attr.0;
        limits = limits-other x.number 0 t x.facts after_limits.0;
        vector = vector-rule x t after_limits.1;
      },
      name.1,
    )

typed-node : (namesake : Option ℕ) (x : Node) → IsTypedNode (x.number == 0) x.facts x.below → namesake ≡ None → node_fault namesake x ≡ None
unfolding node_fault
typed-node namesake x is alone =
    let t = x.facts.element_type in
    let last = option_or (limits_fault x.number t x.facts) (compressed_vector_fault x t) in
    none-or (type_fault x.number t) (option_or (name_fault x.number namesake x.facts.name) (option_or (child_fault x.number t (children_of x)) (option_or (attr_fault x.number t x.facts) last)))
    (type-none x.number t is.has_type is.root_type)
    (none-or (name_fault x.number namesake x.facts.name) (option_or (child_fault x.number t (children_of x)) (option_or (attr_fault x.number t x.facts) last))
    (name-none x.number namesake x.facts.name is.root_name alone)
    (none-or (child_fault x.number t (children_of x)) (option_or (attr_fault x.number t x.facts) last)
    (rule-child x.number (x.number + 1) t x.facts x.below is.children is.vector)
    (none-or (attr_fault x.number t x.facts) last (attr-other 0 x.number t x.facts is.attrs)
    (none-or (limits_fault x.number t x.facts) (compressed_vector_fault x t) (limits-other 0 x.number t x.facts is.limits) (rule-vector x t is.vector)))))

-- ---- a tree

name-at : (n : ℕ) (s : Shape) → (node_at n s).facts.name ≡ name_in s
name-at n (shape facts below) = refl

abbrev names_before : List Node → List (List ℕ)
names_before earlier = map (λ (x : Node). x.facts.name) earlier

none-some : {A : Type 0} (found : Option A) → found ≡ None → is_some found ≡ false
none-some None is = refl
none-some (Some x) is = absurd (cc)

apart : (differ : Bool) (earlier : List Node) (name : List ℕ) → namesake_of differ earlier name ≡ None → differ ≡ true → is_among (names_before earlier) name ≡ false
apart false earlier name alone differs = absurd (cc)
apart true earlier name alone differs = sym (among-named name earlier) ∙ none-some (child_named name earlier) (map-none (λ (x : Node). x.number) (child_named name earlier) alone)

alone : (differ : Bool) (earlier : List Node) (name : List ℕ) → (differ ≡ true → is_among (names_before earlier) name ≡ false) → namesake_of differ earlier name ≡ None
alone false earlier name apart = refl
alone true earlier name apart = none-map (λ (x : Node). x.number) (child_named name earlier) (absent_is_none (child_named name earlier) (among-named name earlier ∙ apart refl))

names-more : (earlier : List Node) (n : ℕ) (s : Shape) → names_before (earlier ++ node_at n s ∷ []) ≡ names_before earlier ++ name_in s ∷ []
names-more [] n s = ap (λ (name : List ℕ). name ∷ []) (name-at n s)
names-more (x ∷ earlier) n s = ap (λ (names : List (List ℕ)). x.facts.name ∷ names) (names-more earlier n s)

above-zero : (n : ℕ) → 0 < n → (n == 0) ≡ false
above-zero n some = ne_eqb n 0 (λ zero. omega arith)

mutual
  pub tree-typed : (namesake : Option ℕ) (n : ℕ) (s : Shape) → tree_fault namesake n s ≡ None → IsTyped (n == 0) s × (namesake ≡ None)
  tree-typed namesake n (shape facts below) free =
      let parts = option_or-none (node_fault namesake (node_at n (shape facts below))) (trees_fault (names_differ facts.element_type) [] (n + 1) below) free in
      let node = node-typed namesake (node_at n (shape facts below)) parts.0 in
      let later = trees-typed (names_differ facts.element_type) [] (n + 1) below (omega arith) parts.1 in
      ((node.0, later.0, later.1), node.1)

  pub trees-typed : (differ : Bool) (earlier : List Node) (n : ℕ) (ss : Shapes) → 0 < n → trees_fault differ earlier n ss ≡ None → AreTyped ss × (differ ≡ true → AreDistinct (names_before earlier) ss)
  trees-typed differ earlier n no_shapes some free = (tt, λ differs. tt)
  trees-typed differ earlier n (shapes s ss) some free =
      let parts = option_or-none (tree_fault (namesake_of differ earlier (node_at n s).facts.name) n s) (trees_fault differ (earlier ++ node_at n s ∷ []) (n + node_count s) ss) free in
      let first = tree-typed (namesake_of differ earlier (node_at n s).facts.name) n s parts.0 in
      let later = trees-typed differ (earlier ++ node_at n s ∷ []) (n + node_count s) ss (omega arith) parts.1 in (
        (subst (λ (root : Bool). IsTyped root s) (above-zero n some) first.0, later.0),
        λ differs. (subst (λ (name : List ℕ). is_among (names_before earlier) name ≡ false) (name-at n s) (apart differ earlier (node_at n s).facts.name first.1 differs), subst (λ (names : List (List ℕ)). AreDistinct names ss) (names-more earlier n s) (later.1 differs)),
      )

mutual
  pub typed-tree : (namesake : Option ℕ) (n : ℕ) (s : Shape) → IsTyped (n == 0) s → namesake ≡ None → tree_fault namesake n s ≡ None
  typed-tree namesake n (shape facts below) is free =
      none-or (node_fault namesake (node_at n (shape facts below))) (trees_fault (names_differ facts.element_type) [] (n + 1) below)
      (typed-node namesake (node_at n (shape facts below)) is.0 free)
      (typed-trees (names_differ facts.element_type) [] (n + 1) below (omega arith) is.1 is.2)

  pub typed-trees : (differ : Bool) (earlier : List Node) (n : ℕ) (ss : Shapes) → 0 < n → AreTyped ss → (differ ≡ true → AreDistinct (names_before earlier) ss) → trees_fault differ earlier n ss ≡ None
  typed-trees differ earlier n no_shapes some are distinct = refl
  typed-trees differ earlier n (shapes s ss) some are distinct =
      none-or (tree_fault (namesake_of differ earlier (node_at n s).facts.name) n s) (trees_fault differ (earlier ++ node_at n s ∷ []) (n + node_count s) ss)
      (typed-tree (namesake_of differ earlier (node_at n s).facts.name) n s (subst (λ (root : Bool). IsTyped root s) (sym (above-zero n some)) are.0)
      (alone differ earlier (node_at n s).facts.name (λ differs. subst (λ (name : List ℕ). is_among (names_before earlier) name ≡ false) (sym (name-at n s)) (distinct differs).0)))
      (typed-trees differ (earlier ++ node_at n s ∷ []) (n + node_count s) ss (omega arith) are.1
      (λ differs. subst (λ (names : List (List ℕ)). AreDistinct names ss) (sym (names-more earlier n s)) (distinct differs).1))

-- A whole tree, whose root has the number 0.
pub whole-typed : (s : Shape) → typed_fault s ≡ None → IsTyped true s
whole-typed s free = (tree-typed None 0 s free).0

pub typed-whole : (s : Shape) → IsTyped true s → typed_fault s ≡ None
typed-whole s is = typed-tree None 0 s is refl
