-- A tree with other counts is lawful and has no fault where it had none.
use Rattle.std.proofs.Common.{◌≡◌, ℕ, suc, ◌+◌, ◌^◌, ◌≤◌, ◌<◌, Bool, true, false, cond, not, List, [], ◌∷◌, ◌++◌, length, drop, get_or, Option, Some, None, is_some, refl, sym, ap, subst, ◌∙◌, arith, length-append, max, le-ltb}
use Rattle.std.specs.Prelude.{codes, decimal, option_and_then}
use Rattle.std.specs.List.{AllByRecursion, list_all, filter_map, cons_option}
use Rattle.std.specs.Str.{bytes_eq}
use Rattle.std.proofs.lemmas.List.{drop-drop, get_or-drop}
use Rattle.std.proofs.lemmas.List.Elements.{filter_map-append}
use Rattle.e57_base.specs.declared.kind.Kind.TheVariants as kind
use Rattle.e57_base.specs.Fault.{fault}
use Rattle.e57_pieces.specs.declared.piece.Attr.{Attr}
use Rattle.e57_elements.specs.Tree.{Element, element, Elements, none, more, preorder, preorder_all, depth, depth_all}
use Rattle.e57_elements.specs.Lawful.{IsLawfulAttr, IsLawfulNode, IsLawful}
use Rattle.e57_elements.specs.Nested.{only_space}
use Rattle.e57_cloud.specs.Section.{when}
use Rattle.e57_nodes.specs.declared.ElementType.{ElementType}
use Rattle.e57_nodes.specs.declared.ElementType.TheVariants as element_type
use Rattle.e57_nodes.specs.Facts.{value_of, unsigned_in, type_in, Facts, facts_of}
use Rattle.e57_nodes.specs.Shape.{Shape, shape, no_shapes, shape_of, shapes_of, node_count, Node, node_at, nodes_from, nodes_from_all}
use Rattle.e57_nodes.specs.Places.{has_section, is_cloud_or_blob, places_in, with_value}
use Rattle.e57_nodes.specs.Items.{StatedItem, stated_cloud, stated_blob, stated_by, stated_item}
use Rattle.e57_nodes.specs.Typed.{unread, attr_fault, limits_fault, is_structure, names_differ, typed_fault}
use Rattle.e57_nodes.proofs.Laws.Decimals.{decimal_writes, AreCharacters-digits}
use Rattle.e57_nodes.proofs.Laws.Values.{value_of-with_value, value_of-with_other, length-with_value, all-with_value, differ-with_value}
use Rattle.e57_nodes.proofs.Laws.Sound.{option_or-none}
use Rattle.e57_cloud.proofs.Laws.Sections.{when-none}
use Rattle.e57_nodes.proofs.Laws.Stated.{as_many}
use Rattle.e57_plain.proofs.Laws.Typing.{name_in, names_in, called, NoSection, NoSections, is_expected, ChildRule, CodecsRule, PrototypeRule, VectorRule, IsTypedNode, IsTyped, AreTyped, none-or}
use Rattle.e57_plain.proofs.Laws.Typed.{whole-typed, typed-whole}
use Rattle.e57_plain.proofs.Laws.LimitedTrees.{nodes-parts, nodes-append}
use Rattle.e57_plain.proofs.Laws.Pruned.{facts-type, facts-name, own-none}
use Rattle.e57_plain.proofs.Laws.WithCloud.{with_count, count-read, counted-facts}
use Rattle.e57_plain.proofs.Laws.Changed.{count-attrs, count-limits, count-there, distinct-names}
use Rattle.e57_edits.specs.Counts.{length_name, count_name_of, with_counts, with_counts_all}

-- ---- one element

abbrev pub count_attrs : List ℕ → List Attr → List Attr
count_attrs counts attrs = cond (is_cloud_or_blob attrs) (with_value (count_name_of (type_in attrs)) (decimal (get_or counts 0 0)) attrs) attrs

abbrev pub counts_after : List ℕ → List Attr → List ℕ
counts_after counts attrs = cond (is_cloud_or_blob attrs) (drop 1 counts) counts

pub with_counts-is : (counts : List ℕ) (name : List ℕ) (attrs : List Attr) (text : List ℕ) (children : Elements)
    → with_counts counts (element name attrs text children) ≡ element name (count_attrs counts attrs) text (with_counts_all (counts_after counts attrs) children)
with_counts-is counts name attrs text children = by_test (is_cloud_or_blob attrs) where
  new : List Attr
  new = with_value (count_name_of (type_in attrs)) (decimal (get_or counts 0 0)) attrs

  by_test : (b : Bool) → cond b (element name new text (with_counts_all (drop 1 counts) children)) (element name attrs text (with_counts_all counts children))
      ≡ element name (cond b new attrs) text (with_counts_all (cond b (drop 1 counts) counts) children)
  by_test true = refl
  by_test false = refl

-- ---- it is lawful

mutual
  counts-size : (counts : List ℕ) (e : Element) → length (preorder (with_counts counts e)) ≡ length (preorder e)
  counts-size counts (element name attrs text children) =
      ap (λ (x : Element). length (preorder x)) (with_counts-is counts name attrs text children) ∙ ap (λ k. suc k) (counts-size_all (counts_after counts attrs) children)

  counts-size_all : (counts : List ℕ) (es : Elements) → length (preorder_all (with_counts_all counts es)) ≡ length (preorder_all es)
  counts-size_all counts none = refl
  counts-size_all counts (more e es) =
      let first = counts-size counts e in
      let later = counts-size_all (drop (length (places_in e)) counts) es in
      let sum = length-append (preorder e) (preorder_all es) in
      length-append (preorder (with_counts counts e)) (preorder_all (with_counts_all (drop (length (places_in e)) counts) es)) ∙ omega arith

mutual
  counts-depth : (counts : List ℕ) (e : Element) → depth (with_counts counts e) ≡ depth e
  counts-depth counts (element name attrs text children) = ap depth (with_counts-is counts name attrs text children) ∙ ap (λ d. d + 1) (counts-depth_all (counts_after counts attrs) children)

  counts-depth_all : (counts : List ℕ) (es : Elements) → depth_all (with_counts_all counts es) ≡ depth_all es
  counts-depth_all counts none = refl
  counts-depth_all counts (more e es) =
      ap (λ d. max d (depth_all (with_counts_all (drop (length (places_in e)) counts) es))) (counts-depth counts e) ∙ ap (λ d. max (depth e) d) (counts-depth_all (drop (length (places_in e)) counts) es)

-- each count is an unsigned number of 64 bits
abbrev pub AreUnsigned : List ℕ → Type 0
AreUnsigned counts = (i : ℕ) → get_or counts i 0 < 2 ^ 64

unsigned-later : (counts : List ℕ) (k : ℕ) → AreUnsigned counts → AreUnsigned (drop k counts)
unsigned-later counts k h i = subst (λ n. n < 2 ^ 64) (sym (get_or-drop k counts i 0)) (h (k + i))

unsigned-after : (counts : List ℕ) (attrs : List Attr) → AreUnsigned counts → AreUnsigned (counts_after counts attrs)
unsigned-after counts attrs h = by_test (is_cloud_or_blob attrs) where
  by_test : (b : Bool) → AreUnsigned (cond b (drop 1 counts) counts)
  by_test true = unsigned-later counts 1 h
  by_test false = h

counted-node : (word value : List ℕ) (name : List ℕ) (attrs : List Attr) (text : List ℕ) (size other : ℕ) → ((attr : Attr) → IsLawfulAttr attr → IsLawfulAttr (record { name = attr.name; value = value })) → other ≡ size
    → IsLawfulNode (record { name = name; attrs = attrs; text = text; size = size }) → IsLawfulNode (record { name = name; attrs = with_value word value attrs; text = text; size = other })
counted-node word value name attrs text size other ok same h = record {
  is_name = h.is_name;
  name = h.name;
  each = all-with_value IsLawfulAttr word value attrs ok h.each;
  names_differ = differ-with_value word value attrs ∙ h.names_differ;
  few_attrs = let many = length-with_value word value attrs in omega (arith, h.few_attrs);
  text = h.text;
  no_space = subst (λ (k : ℕ). 1 < k → only_space text ≡ true → text ≡ []) (sym same) h.no_space;
}

counts-node : (counts : List ℕ) (name : List ℕ) (attrs : List Attr) (text : List ℕ) (size other : ℕ) → AreUnsigned counts → other ≡ size
    → IsLawfulNode (record { name = name; attrs = attrs; text = text; size = size }) → IsLawfulNode (record { name = name; attrs = count_attrs counts attrs; text = text; size = other })
counts-node counts name attrs text size other fits same h = by_test (is_cloud_or_blob attrs) where
  n : ℕ
  n = get_or counts 0 0

  by_test : (b : Bool) → IsLawfulNode (record { name = name; attrs = cond b (with_value (count_name_of (type_in attrs)) (decimal n) attrs) attrs; text = text; size = other })
  by_test true =
      counted-node (count_name_of (type_in attrs)) (decimal n) name attrs text size other
      (λ attr k. record { is_name = k.is_name; name = k.name; value = AreCharacters-digits (decimal n) (decimal_writes n (fits 0)).digits }) same h
  by_test false = subst (λ (k : ℕ). IsLawfulNode (record { name = name; attrs = attrs; text = text; size = k })) (sym same) h

mutual
  counts-nodes : (counts : List ℕ) (e : Element) → AreUnsigned counts → AllByRecursion IsLawfulNode (preorder e) → AllByRecursion IsLawfulNode (preorder (with_counts counts e))
  counts-nodes counts (element name attrs text children) fits h =
      subst (λ (x : Element). AllByRecursion IsLawfulNode (preorder x)) (sym (with_counts-is counts name attrs text children)) (
        counts-node counts name attrs text (length (preorder_all children) + 1) (length (preorder_all (with_counts_all (counts_after counts attrs) children)) + 1) fits (ap (λ k. k + 1) (counts-size_all (counts_after counts attrs) children)) h.0,
        counts-nodes_all (counts_after counts attrs) children (unsigned-after counts attrs fits) h.1,
      )

  counts-nodes_all : (counts : List ℕ) (es : Elements) → AreUnsigned counts → AllByRecursion IsLawfulNode (preorder_all es) → AllByRecursion IsLawfulNode (preorder_all (with_counts_all counts es))
  counts-nodes_all counts none fits h = tt
  counts-nodes_all counts (more e es) fits h =
      let parts = nodes-parts (preorder e) (preorder_all es) h in
      nodes-append (preorder (with_counts counts e)) (preorder_all (with_counts_all (drop (length (places_in e)) counts) es)) (counts-nodes counts e fits parts.0)
      (counts-nodes_all (drop (length (places_in e)) counts) es (unsigned-later counts (length (places_in e)) fits) parts.1)

pub counts-lawful : (counts : List ℕ) (e : Element) → AreUnsigned counts → IsLawful e → IsLawful (with_counts counts e)
counts-lawful counts e fits h = record {
  each = counts-nodes counts e fits h.each;
  not_deep = let same = counts-depth counts e in omega (arith, h.not_deep);
  not_large = let same = counts-size counts e in omega (arith, h.not_large);
}

-- ---- what is read of a node

abbrev with_length : ℕ → Facts → Facts
with_length size facts = record {
  name = facts.name;
  element_type = facts.element_type;
  minimum = facts.minimum;
  maximum = facts.maximum;
  scale = facts.scale;
  offset = facts.offset;
  precision = facts.precision;
  has_place = facts.has_place;
  record_count = facts.record_count;
  blob_length = Some size;
  is_integer = facts.is_integer;
}

-- by the type of the element
abbrev counted : Option ElementType → ℕ → Facts → Facts
counted (Some element_type.CompressedVector) n facts = with_count n facts
counted (Some element_type.Blob) n facts = with_length n facts
counted other n facts = facts

length-facts : (size : ℕ) (name : List ℕ) (attrs : List Attr) (text : List ℕ) → size < 2 ^ 64 → is_some (facts_of name attrs text).blob_length ≡ true
    → facts_of name (with_value length_name (decimal size) attrs) text ≡ with_length size (facts_of name attrs text)
unfolding facts_of type_in
length-facts size name attrs text small is =
    let here = ap (option_and_then unsigned_in) (value_of-with_value length_name (decimal size) attrs) ∙ count-read (value_of length_name attrs) size small is in
    let a = value_of-with_other length_name (decimal size) (codes "type") attrs refl in
    let b = value_of-with_other length_name (decimal size) (codes "scale") attrs refl in
    let c = value_of-with_other length_name (decimal size) (codes "offset") attrs refl in
    let d = value_of-with_other length_name (decimal size) (codes "precision") attrs refl in
    let e = value_of-with_other length_name (decimal size) (codes "fileOffset") attrs refl in
    let f = value_of-with_other length_name (decimal size) (codes "minimum") attrs refl in
    let g = value_of-with_other length_name (decimal size) (codes "maximum") attrs refl in
    let h = value_of-with_other length_name (decimal size) (codes "recordCount") attrs refl in
    rw (here, a, b, c, d, e, f, g, h) refl

not-false : (b : Bool) → not b ≡ false → b ≡ true
not-false true e = refl
not-false false e = absurd (cc)

length-there : (facts : Facts) → attr_fault 0 (Some element_type.Blob) facts ≡ None → is_some facts.blob_length ≡ true
unfolding attr_fault
length-there facts free =
    not-false (is_some facts.blob_length) (when-none (not (is_some facts.blob_length)) (fault kind.NodeAttr 0 6) (option_or-none (when (not facts.has_place) (fault kind.NodeAttr 0 4)) (unread 0 6 facts.blob_length) free).1)

count-facts : (counts : List ℕ) (name : List ℕ) (attrs : List Attr) (text : List ℕ) (t : Option ElementType) → AreUnsigned counts → type_in attrs ≡ t → attr_fault 0 t (facts_of name attrs text) ≡ None
    → facts_of name (count_attrs counts attrs) text ≡ counted t (get_or counts 0 0) (facts_of name attrs text)
count-facts counts name attrs text t fits is free =
    ap (λ (x : Option ElementType). facts_of name (cond (has_section x) (with_value (count_name_of x) (decimal n) attrs) attrs) text) is ∙ by_type t free
  where
    n : ℕ
    n = get_or counts 0 0

    by_type : (t : Option ElementType) → attr_fault 0 t (facts_of name attrs text) ≡ None → facts_of name (cond (has_section t) (with_value (count_name_of t) (decimal n) attrs) attrs) text ≡ counted t n (facts_of name attrs text)
    by_type None free = refl
    by_type (Some element_type.Structure) free = refl
    by_type (Some element_type.Vector) free = refl
    by_type (Some element_type.CompressedVector) free = counted-facts n name attrs text (fits 0) (count-there (facts_of name attrs text) free)
    by_type (Some element_type.Integer) free = refl
    by_type (Some element_type.ScaledInteger) free = refl
    by_type (Some element_type.Float) free = refl
    by_type (Some element_type.String) free = refl
    by_type (Some element_type.Blob) free = length-facts n name attrs text (fits 0) (length-there (facts_of name attrs text) free)

-- ---- elements without a section stay as they are

mutual
  unchanged : (counts : List ℕ) (e : Element) → NoSection (shape_of e) → with_counts counts e ≡ e
  unchanged counts (element name attrs text children) free =
      let own : is_cloud_or_blob attrs ≡ false = own-none name attrs text free.0 in
      with_counts-is counts name attrs text children
      ∙ ap (λ (b : Bool). element name (cond b (with_value (count_name_of (type_in attrs)) (decimal (get_or counts 0 0)) attrs) attrs) text (with_counts_all (cond b (drop 1 counts) counts) children)) own
      ∙ ap (λ (xs : Elements). element name attrs text xs) (unchanged_all counts children free.1)

  unchanged_all : (counts : List ℕ) (es : Elements) → NoSections (shapes_of es) → with_counts_all counts es ≡ es
  unchanged_all counts none free = refl
  unchanged_all counts (more e es) free =
      ap (λ (x : Element). more x (with_counts_all (drop (length (places_in e)) counts) es)) (unchanged counts e free.0)
      ∙ ap (λ (xs : Elements). more e xs) (unchanged_all (drop (length (places_in e)) counts) es free.1)

structure-section : (t : Option ElementType) → is_structure t ≡ true → has_section t ≡ false
structure-section None is = refl
structure-section (Some element_type.Structure) is = refl
structure-section (Some element_type.Vector) is = refl
structure-section (Some element_type.CompressedVector) is = absurd (cc)
structure-section (Some element_type.Integer) is = refl
structure-section (Some element_type.ScaledInteger) is = refl
structure-section (Some element_type.Float) is = refl
structure-section (Some element_type.String) is = refl
structure-section (Some element_type.Blob) is = absurd (cc)

-- ---- children by their names

counts-name : (counts : List ℕ) (e : Element) → name_in (shape_of (with_counts counts e)) ≡ name_in (shape_of e)
counts-name counts (element name attrs text children) =
    ap (λ (x : Element). name_in (shape_of x)) (with_counts-is counts name attrs text children) ∙ facts-name name (count_attrs counts attrs) text ∙ sym (facts-name name attrs text)

counts-names : (counts : List ℕ) (es : Elements) → names_in (shapes_of (with_counts_all counts es)) ≡ names_in (shapes_of es)
counts-names counts none = refl
counts-names counts (more e es) =
    ap (λ (name : List ℕ). name ∷ names_in (shapes_of (with_counts_all (drop (length (places_in e)) counts) es))) (counts-name counts e)
    ∙ ap (λ (names : List (List ℕ)). name_in (shape_of e) ∷ names) (counts-names (drop (length (places_in e)) counts) es)

counts-bare : (counts : List ℕ) (es : Elements) → shapes_of es ≡ no_shapes → shapes_of (with_counts_all counts es) ≡ no_shapes
counts-bare counts none bare = refl
counts-bare counts (more e es) bare = absurd (cc)

-- what holds of the first child of a name
counts-called : (Rule : Option Shape → Type 0) (word : List ℕ) (counts : List ℕ) (es : Elements) → ((cs : List ℕ) (e : Element) → Rule (Some (shape_of e)) → Rule (Some (shape_of (with_counts cs e))))
    → Rule (called word (shapes_of es)) → Rule (called word (shapes_of (with_counts_all counts es)))
counts-called Rule word counts none keeps rule = rule
counts-called Rule word counts (more e es) keeps rule =
    by_tests (counts-called Rule word (drop (length (places_in e)) counts) es keeps) (bytes_eq (name_in (shape_of e)) word) (bytes_eq (name_in (shape_of (with_counts counts e))) word)
    (ap (λ (name : List ℕ). bytes_eq name word) (counts-name counts e)) rule
  where
    xs : Elements
    xs = with_counts_all (drop (length (places_in e)) counts) es

    by_tests : (Rule (called word (shapes_of es)) → Rule (called word (shapes_of xs))) → (a b : Bool) → b ≡ a → Rule (cond a (Some (shape_of e)) (called word (shapes_of es)))
        → Rule (cond b (Some (shape_of (with_counts counts e))) (called word (shapes_of xs)))
    by_tests later true true same rule = keeps counts e rule
    by_tests later true false same rule = absurd (cc)
    by_tests later false true same rule = absurd (cc)
    by_tests later false false same rule = later rule

keeps-codecs : (counts : List ℕ) (e : Element) → CodecsRule (Some (shape_of e)) → CodecsRule (Some (shape_of (with_counts counts e)))
keeps-codecs counts (element name attrs text children) rule =
    subst (λ (x : Element). CodecsRule (Some (shape_of x))) (sym (with_counts-is counts name attrs text children)) (counts-bare (counts_after counts attrs) children rule)

keeps-prototype : (counts : List ℕ) (e : Element) → PrototypeRule (Some (shape_of e)) → PrototypeRule (Some (shape_of (with_counts counts e)))
keeps-prototype counts (element name attrs text children) rule =
    subst (λ (x : Element). PrototypeRule (Some (shape_of x)))
    (sym (unchanged counts (element name attrs text children) (structure-section (facts_of name attrs text).element_type rule.is_structure, rule.no_section))) rule

-- ---- the rules

counted-type : (t : Option ElementType) (n : ℕ) (facts : Facts) → (counted t n facts).element_type ≡ facts.element_type
counted-type None n facts = refl
counted-type (Some element_type.Structure) n facts = refl
counted-type (Some element_type.Vector) n facts = refl
counted-type (Some element_type.CompressedVector) n facts = refl
counted-type (Some element_type.Integer) n facts = refl
counted-type (Some element_type.ScaledInteger) n facts = refl
counted-type (Some element_type.Float) n facts = refl
counted-type (Some element_type.String) n facts = refl
counted-type (Some element_type.Blob) n facts = refl

counted-name : (t : Option ElementType) (n : ℕ) (facts : Facts) → (counted t n facts).name ≡ facts.name
counted-name None n facts = refl
counted-name (Some element_type.Structure) n facts = refl
counted-name (Some element_type.Vector) n facts = refl
counted-name (Some element_type.CompressedVector) n facts = refl
counted-name (Some element_type.Integer) n facts = refl
counted-name (Some element_type.ScaledInteger) n facts = refl
counted-name (Some element_type.Float) n facts = refl
counted-name (Some element_type.String) n facts = refl
counted-name (Some element_type.Blob) n facts = refl

length-attrs : (size : ℕ) (facts : Facts) → attr_fault 0 (Some element_type.Blob) facts ≡ None → attr_fault 0 (Some element_type.Blob) (with_length size facts) ≡ None
unfolding attr_fault
length-attrs size facts free =
    none-or (when (not facts.has_place) (fault kind.NodeAttr 0 4)) None (option_or-none (when (not facts.has_place) (fault kind.NodeAttr 0 4)) (unread 0 6 facts.blob_length) free).0 refl

counted-attrs : (t : Option ElementType) (n : ℕ) (facts : Facts) → attr_fault 0 t facts ≡ None → attr_fault 0 t (counted t n facts) ≡ None
counted-attrs None n facts free = free
counted-attrs (Some element_type.Structure) n facts free = free
counted-attrs (Some element_type.Vector) n facts free = free
counted-attrs (Some element_type.CompressedVector) n facts free = count-attrs n (Some element_type.CompressedVector) facts free
counted-attrs (Some element_type.Integer) n facts free = free
counted-attrs (Some element_type.ScaledInteger) n facts free = free
counted-attrs (Some element_type.Float) n facts free = free
counted-attrs (Some element_type.String) n facts free = free
counted-attrs (Some element_type.Blob) n facts free = length-attrs n facts free

length-limits : (size : ℕ) (facts : Facts) → limits_fault 0 (Some element_type.Blob) (with_length size facts) ≡ None
unfolding limits_fault
length-limits size facts = refl

counted-limits : (t : Option ElementType) (n : ℕ) (facts : Facts) → limits_fault 0 t facts ≡ None → limits_fault 0 t (counted t n facts) ≡ None
counted-limits None n facts free = free
counted-limits (Some element_type.Structure) n facts free = free
counted-limits (Some element_type.Vector) n facts free = free
counted-limits (Some element_type.CompressedVector) n facts free = count-limits n (Some element_type.CompressedVector) facts free
counted-limits (Some element_type.Integer) n facts free = free
counted-limits (Some element_type.ScaledInteger) n facts free = free
counted-limits (Some element_type.Float) n facts free = free
counted-limits (Some element_type.String) n facts free = free
counted-limits (Some element_type.Blob) n facts free = length-limits n facts

counts-child : (t : Option ElementType) (counts : List ℕ) (es : Elements) → ChildRule t (shapes_of es) → ChildRule t (shapes_of (with_counts_all counts es))
counts-child None counts es rule = tt
counts-child (Some element_type.Structure) counts es rule = tt
counts-child (Some element_type.Vector) counts es rule = tt
counts-child (Some element_type.CompressedVector) counts es rule = ap (list_all is_expected) (counts-names counts es) ∙ rule
counts-child (Some element_type.Integer) counts es rule = counts-bare counts es rule
counts-child (Some element_type.ScaledInteger) counts es rule = counts-bare counts es rule
counts-child (Some element_type.Float) counts es rule = counts-bare counts es rule
counts-child (Some element_type.String) counts es rule = counts-bare counts es rule
counts-child (Some element_type.Blob) counts es rule = counts-bare counts es rule

counts-vector : (t : Option ElementType) (n : ℕ) (facts : Facts) (counts : List ℕ) (es : Elements) → (t ≡ Some element_type.CompressedVector → n ≤ 2 ^ 40) → VectorRule t facts (shapes_of es)
    → VectorRule t (counted t n facts) (shapes_of (with_counts_all counts es))
counts-vector None n facts counts es few rule = tt
counts-vector (Some element_type.Structure) n facts counts es few rule = tt
counts-vector (Some element_type.Vector) n facts counts es few rule = tt
counts-vector (Some element_type.CompressedVector) n facts counts es few rule = record {
  few = le-ltb (2 ^ 40) n (few refl);
  codecs = counts-called CodecsRule (codes "codecs") counts es keeps-codecs rule.codecs;
  prototype = counts-called PrototypeRule (codes "prototype") counts es keeps-prototype rule.prototype;
}
counts-vector (Some element_type.Integer) n facts counts es few rule = tt
counts-vector (Some element_type.ScaledInteger) n facts counts es few rule = tt
counts-vector (Some element_type.Float) n facts counts es few rule = tt
counts-vector (Some element_type.String) n facts counts es few rule = tt
counts-vector (Some element_type.Blob) n facts counts es few rule = tt

counted-typed : (root : Bool) (t : Option ElementType) (n : ℕ) (facts : Facts) (counts : List ℕ) (es : Elements) → facts.element_type ≡ t → (t ≡ Some element_type.CompressedVector → n ≤ 2 ^ 40)
    → IsTypedNode root facts (shapes_of es) → IsTypedNode root (counted t n facts) (shapes_of (with_counts_all counts es))
counted-typed root t n facts counts es is few node =
    let type_is = counted-type t n facts in
    let still : (counted t n facts).element_type ≡ t = type_is ∙ is in
    let xs = with_counts_all counts es in
    record {
      has_type = ap (λ (k : Option ElementType). is_some k) type_is ∙ node.has_type;
      root_type = λ top. type_is ∙ node.root_type top;
      root_name = λ top. ap (λ (x : List ℕ). bytes_eq x (codes "e57Root")) (counted-name t n facts) ∙ node.root_name top;
      children = subst (λ (k : Option ElementType). ChildRule k (shapes_of xs)) (sym still) (counts-child t counts es (subst (λ (k : Option ElementType). ChildRule k (shapes_of es)) is node.children));
      attrs = ap (λ (k : Option ElementType). attr_fault 0 k (counted t n facts)) still ∙ counted-attrs t n facts (ap (λ (k : Option ElementType). attr_fault 0 k facts) (sym is) ∙ node.attrs);
      limits = ap (λ (k : Option ElementType). limits_fault 0 k (counted t n facts)) still ∙ counted-limits t n facts (ap (λ (k : Option ElementType). limits_fault 0 k facts) (sym is) ∙ node.limits);
      vector =
          subst (λ (k : Option ElementType). VectorRule k (counted t n facts) (shapes_of xs)) (sym still)
          (counts-vector t n facts counts es few (subst (λ (k : Option ElementType). VectorRule k facts (shapes_of es)) is node.vector));
    }

-- ---- not too many records

-- no cloud among these gets more records than a cloud may have
abbrev pub FewItems : List StatedItem → List ℕ → Type 0
FewItems [] counts = Unit {0}
FewItems (stated_cloud n count fields ∷ items) counts = (get_or counts 0 0 ≤ 2 ^ 40) × FewItems items (drop 1 counts)
FewItems (stated_blob n size ∷ items) counts = FewItems items (drop 1 counts)

drop_more : (k : ℕ) (counts : List ℕ) → drop k (drop 1 counts) ≡ drop (suc k) counts
drop_more k counts = let e : 1 + k ≡ suc k = omega arith in drop-drop k 1 counts ∙ ap (λ j. drop j counts) e

few-parts : (xs ys : List StatedItem) (counts : List ℕ) → FewItems (xs ++ ys) counts → FewItems xs counts × FewItems ys (drop (length xs) counts)
few-parts [] ys counts h = (tt, h)
few-parts (stated_cloud n count fields ∷ xs) ys counts h =
    let later = few-parts xs ys (drop 1 counts) h.1 in
    ((h.0, later.0), subst (λ (cs : List ℕ). FewItems ys cs) (drop_more (length xs) counts) later.1)
few-parts (stated_blob n size ∷ xs) ys counts h =
    let later = few-parts xs ys (drop 1 counts) h in
    (later.0, subst (λ (cs : List ℕ). FewItems ys cs) (drop_more (length xs) counts) later.1)

few-own : (x : Node) (t : Option ElementType) (items : List StatedItem) (counts : List ℕ) → FewItems (cons_option (stated_by x t) items) counts
    → (t ≡ Some element_type.CompressedVector → get_or counts 0 0 ≤ 2 ^ 40) × FewItems items (cond (has_section t) (drop 1 counts) counts)
few-own x None items counts h = (λ e. absurd (cc), h)
few-own x (Some element_type.Structure) items counts h = (λ e. absurd (cc), h)
few-own x (Some element_type.Vector) items counts h = (λ e. absurd (cc), h)
few-own x (Some element_type.CompressedVector) items counts h = (λ e. h.0, h.1)
few-own x (Some element_type.Integer) items counts h = (λ e. absurd (cc), h)
few-own x (Some element_type.ScaledInteger) items counts h = (λ e. absurd (cc), h)
few-own x (Some element_type.Float) items counts h = (λ e. absurd (cc), h)
few-own x (Some element_type.String) items counts h = (λ e. absurd (cc), h)
few-own x (Some element_type.Blob) items counts h = (λ e. absurd (cc), h)

few-element : (n : ℕ) (name : List ℕ) (attrs : List Attr) (text : List ℕ) (children : Elements) (counts : List ℕ) → FewItems (filter_map stated_item (nodes_from n (shape_of (element name attrs text children)))) counts
    → (type_in attrs ≡ Some element_type.CompressedVector → get_or counts 0 0 ≤ 2 ^ 40) × FewItems (filter_map stated_item (nodes_from_all (n + 1) (shapes_of children))) (counts_after counts attrs)
unfolding stated_item facts_of
few-element n name attrs text children counts h =
    few-own (node_at n (shape_of (element name attrs text children))) (type_in attrs) (filter_map stated_item (nodes_from_all (n + 1) (shapes_of children))) counts h

-- ---- no fault

mutual
  counts-typed : (root : Bool) (n : ℕ) (counts : List ℕ) (e : Element) → AreUnsigned counts → FewItems (filter_map stated_item (nodes_from n (shape_of e))) counts → IsTyped root (shape_of e) → IsTyped root (shape_of (with_counts counts e))
  counts-typed root n counts (element name attrs text children) fits few typed =
      let facts = facts_of name attrs text in
      let t = type_in attrs in
      let is : facts.element_type ≡ t = facts-type name attrs text in
      let own = few-element n name attrs text children counts few in
      let next = counts_after counts attrs in
      let xs = with_counts_all next children in
      let free : attr_fault 0 t facts ≡ None = ap (λ (k : Option ElementType). attr_fault 0 k facts) (sym is) ∙ typed.0.attrs in
      let whole : IsTyped root (shape (counted t (get_or counts 0 0) facts) (shapes_of xs)) = (
        counted-typed root t (get_or counts 0 0) facts next children is own.0 typed.0,
        counts-typed_all (n + 1) next children (unsigned-after counts attrs fits) own.1 typed.1,
        λ differs. distinct-names (shapes_of children) (shapes_of xs) [] (counts-names next children) (typed.2 (ap names_differ (sym (counted-type t (get_or counts 0 0) facts)) ∙ differs)),
      ) in
      subst (λ (x : Element). IsTyped root (shape_of x)) (sym (with_counts-is counts name attrs text children))
      (subst (λ (f : Facts). IsTyped root (shape f (shapes_of xs))) (sym (count-facts counts name attrs text t fits refl free)) whole)

  counts-typed_all : (n : ℕ) (counts : List ℕ) (es : Elements) → AreUnsigned counts → FewItems (filter_map stated_item (nodes_from_all n (shapes_of es))) counts → AreTyped (shapes_of es) → AreTyped (shapes_of (with_counts_all counts es))
  counts-typed_all n counts none fits few typed = tt
  counts-typed_all n counts (more e es) fits few typed =
      let xs = filter_map stated_item (nodes_from n (shape_of e)) in
      let ys = filter_map stated_item (nodes_from_all (n + node_count (shape_of e)) (shapes_of es)) in
      let parts = few-parts xs ys counts (subst (λ (items : List StatedItem). FewItems items counts) (filter_map-append stated_item (nodes_from n (shape_of e)) (nodes_from_all (n + node_count (shape_of e)) (shapes_of es))) few) in (
        counts-typed false n counts e fits parts.0 typed.0,
        counts-typed_all (n + node_count (shape_of e)) (drop (length (places_in e)) counts) es (unsigned-later counts (length (places_in e)) fits)
            (subst (λ (k : ℕ). FewItems ys (drop k counts)) (as_many e n) parts.1) typed.1,
      )

pub counts-typed_fault : (counts : List ℕ) (e : Element) → AreUnsigned counts → FewItems (filter_map stated_item (nodes_from 0 (shape_of e))) counts → typed_fault (shape_of e) ≡ None → typed_fault (shape_of (with_counts counts e)) ≡ None
counts-typed_fault counts e fits few free = typed-whole (shape_of (with_counts counts e)) (counts-typed true 0 counts e fits few (whole-typed (shape_of e) free))
