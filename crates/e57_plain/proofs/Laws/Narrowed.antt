-- A tree with other limits has no fault where it had none, and states the same clouds and blobs with these limits.
use Rattle.std.specs.Prelude.{◌≡◌, ℕ, ◌+◌, nat_lt, ℤ, pos, ◌≤ℤ◌, int_lt, ◌⊎◌, Bool, true, false, cond, not, List, [], ◌∷◌, ◌++◌, length, find, codes, Option, Some, None, is_some, unwrap_or}
use Rattle.std.specs.List.{list_all, filter_map, cons_option}
use Rattle.std.specs.Option.{option_or}
use Rattle.std.specs.Str.{bytes_eq}
use Rattle.std.proofs.Common.{refl, sym, ap, subst, ◌∙◌, arith, inl, inr, length-append}
use Rattle.std.proofs.lemmas.Int.{ints}
use Rattle.std.proofs.lemmas.List.Elements.{filter_map-append}
use Rattle.e57_base.specs.declared.kind.Kind.TheVariants as kind
use Rattle.e57_base.specs.Fault.{fault}
use Rattle.e57_layout.specs.declared.field.Field.{Field}
use Rattle.e57_layout.specs.declared.field.FieldKind.{FieldKind}
use Rattle.e57_layout.specs.Values.{ItemKind, integers, item_kind}
use Rattle.e57_cloud.specs.Section.{when}
use Rattle.e57_nodes.specs.declared.ElementType.{ElementType}
use Rattle.e57_nodes.specs.declared.ElementType.TheVariants as element_type
use Rattle.e57_nodes.specs.Facts.{Facts}
use Rattle.e57_nodes.specs.Shape.{Shape, shape, Shapes, no_shapes, shapes, node_count, Node, node_at, children_from, nodes_from, nodes_from_all}
use Rattle.e57_nodes.specs.Paths.{counts_children, child_path}
use Rattle.e57_nodes.specs.Places.{has_section}
use Rattle.e57_nodes.specs.Fields.{child_named, kind_of, field_at, fields_from, fields_from_all, fields_below, fields_of}
use Rattle.e57_nodes.specs.Items.{StatedItem, stated_cloud, stated_blob, stated_by, stated_item, stated_items}
use Rattle.e57_nodes.specs.Typed.{max_records, unread, attr_fault, order_fault, limits_fault, is_structure, names_differ, typed_fault}
use Rattle.e57_nodes.proofs.Laws.Sound.{option_or-none}
use Rattle.e57_plain.proofs.Laws.Typing.{name_in, names_in, is_among, called, AreDistinct, kind_list, kinds_at, kinds_all, NoSection, NoSections, is_expected, ChildRule, CodecsRule, PrototypeRule, VectorRule, IsTypedNode, IsTyped, AreTyped, when-false}
use Rattle.e57_plain.proofs.Laws.Typed.{whole-typed, typed-whole}
use Rattle.e57_plain.proofs.Laws.Limits.{IsRange, AreRanges, with_range, IsRanged, IsLimited, AreLimited, AreLimitedAll, limited-count}

-- ---- what stays of a node

module _ (found : Option (ℤ × ℤ)) (facts other : Facts) where
  same-type : IsLimited found facts other → other.element_type ≡ facts.element_type
  same-type (inl same) = ap (λ (f : Facts). f.element_type) same
  same-type (inr (range, is, other_is)) = ap (λ (f : Facts). f.element_type) other_is.same

  same-name : IsLimited found facts other → other.name ≡ facts.name
  same-name (inl same) = ap (λ (f : Facts). f.name) same
  same-name (inr (range, is, other_is)) = ap (λ (f : Facts). f.name) other_is.same

  same-records : IsLimited found facts other → other.record_count ≡ facts.record_count
  same-records (inl same) = ap (λ (f : Facts). f.record_count) same
  same-records (inr (range, is, other_is)) = ap (λ (f : Facts). f.record_count) other_is.same

  same-size : IsLimited found facts other → other.blob_length ≡ facts.blob_length
  same-size (inl same) = ap (λ (f : Facts). f.blob_length) same
  same-size (inr (range, is, other_is)) = ap (λ (f : Facts). f.blob_length) other_is.same

limited-name : (ranges : ℕ → Option (ℤ × ℤ)) (n : ℕ) (s t : Shape) → AreLimited ranges n s t → name_in t ≡ name_in s
limited-name ranges n (shape facts below) (shape other beneath) are = same-name (ranges n) facts other are.0

limited-names : (ranges : ℕ → Option (ℤ × ℤ)) (n : ℕ) (ss ts : Shapes) → AreLimitedAll ranges n ss ts → names_in ts ≡ names_in ss
limited-names ranges n no_shapes no_shapes are = refl
limited-names ranges n no_shapes (shapes t ts) are = absurd are
limited-names ranges n (shapes s ss) no_shapes are = absurd are
limited-names ranges n (shapes s ss) (shapes t ts) are =
    ap (λ (name : List ℕ). name ∷ names_in ts) (limited-name ranges n s t are.0) ∙ ap (λ (names : List (List ℕ)). name_in s ∷ names) (limited-names ranges (n + node_count s) ss ts are.1)

limited-distinct : (ranges : ℕ → Option (ℤ × ℤ)) (n : ℕ) (ss ts : Shapes) (earlier : List (List ℕ)) → AreLimitedAll ranges n ss ts → AreDistinct earlier ss → AreDistinct earlier ts
limited-distinct ranges n no_shapes no_shapes earlier are distinct = tt
limited-distinct ranges n no_shapes (shapes t ts) earlier are distinct = absurd are
limited-distinct ranges n (shapes s ss) no_shapes earlier are distinct = absurd are
limited-distinct ranges n (shapes s ss) (shapes t ts) earlier are distinct =
    let name = sym (limited-name ranges n s t are.0) in (
      subst (λ (x : List ℕ). is_among earlier x ≡ false) name distinct.0,
      subst (λ (x : List ℕ). AreDistinct (earlier ++ x ∷ []) ts) name (limited-distinct ranges (n + node_count s) ss ts (earlier ++ name_in s ∷ []) are.1 distinct.1),
    )

limited-bare : (ranges : ℕ → Option (ℤ × ℤ)) (n : ℕ) (ss ts : Shapes) → AreLimitedAll ranges n ss ts → ss ≡ no_shapes → ts ≡ no_shapes
limited-bare ranges n no_shapes no_shapes are bare = refl
limited-bare ranges n no_shapes (shapes t ts) are bare = absurd are
limited-bare ranges n (shapes s ss) ts are bare = absurd (cc)

mutual
  limited-section : (ranges : ℕ → Option (ℤ × ℤ)) (n : ℕ) (s t : Shape) → AreLimited ranges n s t → NoSection s → NoSection t
  limited-section ranges n (shape facts below) (shape other beneath) are free =
      (subst (λ (k : Option ElementType). has_section k ≡ false) (sym (same-type (ranges n) facts other are.0)) free.0, limited-sections ranges (n + 1) below beneath are.1 free.1)

  limited-sections : (ranges : ℕ → Option (ℤ × ℤ)) (n : ℕ) (ss ts : Shapes) → AreLimitedAll ranges n ss ts → NoSections ss → NoSections ts
  limited-sections ranges n no_shapes no_shapes are free = tt
  limited-sections ranges n no_shapes (shapes t ts) are free = absurd are
  limited-sections ranges n (shapes s ss) no_shapes are free = absurd are
  limited-sections ranges n (shapes s ss) (shapes t ts) are free = (limited-section ranges n s t are.0 free.0, limited-sections ranges (n + node_count s) ss ts are.1 free.1)

-- as many kinds
kinds-many : (low high : Option ℤ) (facts : Facts) (t : Option ElementType) → length (kind_list (kind_of (with_range low high facts) t)) ≡ length (kind_list (kind_of facts t))
kinds-many low high facts None = refl
kinds-many low high facts (Some element_type.Structure) = refl
kinds-many low high facts (Some element_type.Vector) = refl
kinds-many low high facts (Some element_type.CompressedVector) = refl
kinds-many low high facts (Some element_type.Integer) = refl
kinds-many low high facts (Some element_type.ScaledInteger) = refl
kinds-many low high facts (Some element_type.Float) = refl
kinds-many low high facts (Some element_type.String) = refl
kinds-many low high facts (Some element_type.Blob) = refl

kinds-same : (found : Option (ℤ × ℤ)) (facts other : Facts) → IsLimited found facts other → length (kind_list (kind_of other other.element_type)) ≡ length (kind_list (kind_of facts facts.element_type))
kinds-same found facts other (inl same) = ap (λ (f : Facts). length (kind_list (kind_of f f.element_type))) same
kinds-same found facts other (inr (range, is, ranged)) = ap (λ (f : Facts). length (kind_list (kind_of f f.element_type))) ranged.same ∙ kinds-many ranged.low ranged.high facts facts.element_type

mutual
  limited-kinds : (ranges : ℕ → Option (ℤ × ℤ)) (n : ℕ) (s t : Shape) → AreLimited ranges n s t → length (kinds_at t) ≡ length (kinds_at s)
  limited-kinds ranges n (shape facts below) (shape other beneath) are =
      let here = kinds-same (ranges n) facts other are.0 in
      let later = limited-kinds_all ranges (n + 1) below beneath are.1 in
      length-append (kind_list (kind_of other other.element_type)) (kinds_all beneath)
      ∙ ap (λ k. k + length (kinds_all beneath)) here ∙ ap (λ k. length (kind_list (kind_of facts facts.element_type)) + k) later
      ∙ sym (length-append (kind_list (kind_of facts facts.element_type)) (kinds_all below))

  limited-kinds_all : (ranges : ℕ → Option (ℤ × ℤ)) (n : ℕ) (ss ts : Shapes) → AreLimitedAll ranges n ss ts → length (kinds_all ts) ≡ length (kinds_all ss)
  limited-kinds_all ranges n no_shapes no_shapes are = refl
  limited-kinds_all ranges n no_shapes (shapes t ts) are = absurd are
  limited-kinds_all ranges n (shapes s ss) no_shapes are = absurd are
  limited-kinds_all ranges n (shapes s ss) (shapes t ts) are =
      let here = limited-kinds ranges n s t are.0 in
      let later = limited-kinds_all ranges (n + node_count s) ss ts are.1 in
      length-append (kinds_at t) (kinds_all ts) ∙ ap (λ k. k + length (kinds_all ts)) here ∙ ap (λ k. length (kinds_at s) + k) later ∙ sym (length-append (kinds_at s) (kinds_all ss))

-- the child of a name
abbrev IsFoundLimited : (ℕ → Option (ℤ × ℤ)) → Option Shape → Option Shape → Type 0
IsFoundLimited ranges None None = Unit {0}
IsFoundLimited ranges None (Some t) = ⊥
IsFoundLimited ranges (Some s) None = ⊥
IsFoundLimited ranges (Some s) (Some t) = (n : ℕ) × AreLimited ranges n s t

limited-called : (ranges : ℕ → Option (ℤ × ℤ)) (n : ℕ) (name : List ℕ) (ss ts : Shapes) → AreLimitedAll ranges n ss ts → IsFoundLimited ranges (called name ss) (called name ts)
limited-called ranges n name no_shapes no_shapes are = tt
limited-called ranges n name no_shapes (shapes t ts) are = absurd are
limited-called ranges n name (shapes s ss) no_shapes are = absurd are
limited-called ranges n name (shapes s ss) (shapes t ts) are =
    by_tests (limited-called ranges (n + node_count s) name ss ts are.1) (bytes_eq (name_in s) name) (bytes_eq (name_in t) name) (ap (λ (x : List ℕ). bytes_eq x name) (limited-name ranges n s t are.0))
  where
    by_tests : IsFoundLimited ranges (called name ss) (called name ts) → (a b : Bool) → b ≡ a → IsFoundLimited ranges (cond a (Some s) (called name ss)) (cond b (Some t) (called name ts))
    by_tests later true true same = (n, are.0)
    by_tests later true false same = absurd (cc)
    by_tests later false true same = absurd (cc)
    by_tests later false false same = later

-- ---- the rules

limited-child : (ranges : ℕ → Option (ℤ × ℤ)) (n : ℕ) (t : Option ElementType) (ss ts : Shapes) → AreLimitedAll ranges n ss ts → ChildRule t ss → ChildRule t ts
limited-child ranges n None ss ts are rule = tt
limited-child ranges n (Some element_type.Structure) ss ts are rule = tt
limited-child ranges n (Some element_type.Vector) ss ts are rule = tt
limited-child ranges n (Some element_type.CompressedVector) ss ts are rule = ap (list_all is_expected) (limited-names ranges n ss ts are) ∙ rule
limited-child ranges n (Some element_type.Integer) ss ts are rule = limited-bare ranges n ss ts are rule
limited-child ranges n (Some element_type.ScaledInteger) ss ts are rule = limited-bare ranges n ss ts are rule
limited-child ranges n (Some element_type.Float) ss ts are rule = limited-bare ranges n ss ts are rule
limited-child ranges n (Some element_type.String) ss ts are rule = limited-bare ranges n ss ts are rule
limited-child ranges n (Some element_type.Blob) ss ts are rule = limited-bare ranges n ss ts are rule

range-attrs : (range : ℤ × ℤ) (facts : Facts) (t : Option ElementType) → attr_fault 0 t facts ≡ None → attr_fault 0 t (with_range (Some range.0) (Some range.1) facts) ≡ None
unfolding attr_fault
range-attrs range facts None free = refl
range-attrs range facts (Some element_type.Structure) free = refl
range-attrs range facts (Some element_type.Vector) free = refl
range-attrs range facts (Some element_type.CompressedVector) free = free
range-attrs range facts (Some element_type.Integer) free = (option_or-none (unread 0 2 facts.maximum) (when (not facts.is_integer) (fault kind.NodeAttr 0 7)) (option_or-none (unread 0 1 facts.minimum) (option_or (unread 0 2 facts.maximum) (when (not facts.is_integer) (fault kind.NodeAttr 0 7))) free).1).1
range-attrs range facts (Some element_type.ScaledInteger) free = (option_or-none (unread 0 2 facts.maximum) (when (not facts.is_integer) (fault kind.NodeAttr 0 7)) (option_or-none (unread 0 1 facts.minimum) (option_or (unread 0 2 facts.maximum) (when (not facts.is_integer) (fault kind.NodeAttr 0 7))) free).1).1
range-attrs range facts (Some element_type.Float) free = free
range-attrs range facts (Some element_type.String) free = refl
range-attrs range facts (Some element_type.Blob) free = free

range-order : (range : ℤ × ℤ) (facts : Facts) → IsRange range → order_fault 0 (with_range (Some range.0) (Some range.1) facts) ≡ None
range-order range facts is = when-false (int_lt range.1 range.0) (fault kind.Limits 0 0) (not-below range.0 range.1 is.order) where
  not-below : (a b : ℤ) → a ≤ℤ b → int_lt b a ≡ false
  not-below a b le = grind (arith, ints)

range-limits : (range : ℤ × ℤ) (facts : Facts) (t : Option ElementType) → IsRange range → limits_fault 0 t (with_range (Some range.0) (Some range.1) facts) ≡ None
unfolding limits_fault
range-limits range facts None is = refl
range-limits range facts (Some element_type.Structure) is = refl
range-limits range facts (Some element_type.Vector) is = refl
range-limits range facts (Some element_type.CompressedVector) is = refl
range-limits range facts (Some element_type.Integer) is = range-order range facts is
range-limits range facts (Some element_type.ScaledInteger) is = range-order range facts is
range-limits range facts (Some element_type.Float) is = refl
range-limits range facts (Some element_type.String) is = refl
range-limits range facts (Some element_type.Blob) is = refl

-- limits that can be read
read-range : (range : ℤ × ℤ) (facts other : Facts) → IsRange range → IsRanged range facts other → other ≡ with_range (Some range.0) (Some range.1) facts
read-range range facts other is ranged =
    ranged.same ∙ ap (λ (low : Option ℤ). with_range low ranged.high facts) (ranged.read_low is) ∙ ap (λ (high : Option ℤ). with_range (Some range.0) high facts) (ranged.read_high is)

limited-attrs : (found : Option (ℤ × ℤ)) (facts other : Facts) → ((range : ℤ × ℤ) → found ≡ Some range → IsRange range) → IsLimited found facts other → attr_fault 0 facts.element_type facts ≡ None → attr_fault 0 other.element_type other ≡ None
limited-attrs found facts other are (inl same) free = ap (λ (f : Facts). attr_fault 0 f.element_type f) same ∙ free
limited-attrs found facts other are (inr (range, is, ranged)) free = ap (λ (f : Facts). attr_fault 0 f.element_type f) (read-range range facts other (are range is) ranged) ∙ range-attrs range facts facts.element_type free

limited-limits : (found : Option (ℤ × ℤ)) (facts other : Facts) → ((range : ℤ × ℤ) → found ≡ Some range → IsRange range) → IsLimited found facts other → limits_fault 0 facts.element_type facts ≡ None → limits_fault 0 other.element_type other ≡ None
limited-limits found facts other are (inl same) free = ap (λ (f : Facts). limits_fault 0 f.element_type f) same ∙ free
limited-limits found facts other are (inr (range, is, ranged)) free = ap (λ (f : Facts). limits_fault 0 f.element_type f) (read-range range facts other (are range is) ranged) ∙ range-limits range facts facts.element_type (are range is)

limited-codecs : (ranges : ℕ → Option (ℤ × ℤ)) (found other : Option Shape) → IsFoundLimited ranges found other → CodecsRule found → CodecsRule other
limited-codecs ranges None None are rule = tt
limited-codecs ranges None (Some t) are rule = absurd are
limited-codecs ranges (Some s) None are rule = tt
limited-codecs ranges (Some (shape facts below)) (Some (shape other beneath)) (n, are) rule = limited-bare ranges (n + 1) below beneath are.1 rule

limited-prototype : (ranges : ℕ → Option (ℤ × ℤ)) (found other : Option Shape) → IsFoundLimited ranges found other → PrototypeRule found → PrototypeRule other
limited-prototype ranges None other are rule = absurd rule
limited-prototype ranges (Some s) None are rule = absurd are
limited-prototype ranges (Some (shape facts below)) (Some (shape other beneath)) (n, are) rule =
    let many = limited-kinds_all ranges (n + 1) below beneath are.1 in
    record {
      is_structure = ap is_structure (same-type (ranges n) facts other are.0) ∙ rule.is_structure;
      no_section = limited-sections ranges (n + 1) below beneath are.1 rule.no_section;
      some = rw many rule.some;
      few = rw many rule.few;
    }

limited-vector : (ranges : ℕ → Option (ℤ × ℤ)) (n : ℕ) (t : Option ElementType) (facts other : Facts) (ss ts : Shapes) → other.record_count ≡ facts.record_count → AreLimitedAll ranges n ss ts → VectorRule t facts ss → VectorRule t other ts
limited-vector ranges n None facts other ss ts same are rule = tt
limited-vector ranges n (Some element_type.Structure) facts other ss ts same are rule = tt
limited-vector ranges n (Some element_type.Vector) facts other ss ts same are rule = tt
limited-vector ranges n (Some element_type.CompressedVector) facts other ss ts same are rule = record {
  few = ap (λ (found : Option ℕ). nat_lt max_records (unwrap_or found 0)) same ∙ rule.few;
  codecs = limited-codecs ranges (called (codes "codecs") ss) (called (codes "codecs") ts) (limited-called ranges n (codes "codecs") ss ts are) rule.codecs;
  prototype = limited-prototype ranges (called (codes "prototype") ss) (called (codes "prototype") ts) (limited-called ranges n (codes "prototype") ss ts are) rule.prototype;
}
limited-vector ranges n (Some element_type.Integer) facts other ss ts same are rule = tt
limited-vector ranges n (Some element_type.ScaledInteger) facts other ss ts same are rule = tt
limited-vector ranges n (Some element_type.Float) facts other ss ts same are rule = tt
limited-vector ranges n (Some element_type.String) facts other ss ts same are rule = tt
limited-vector ranges n (Some element_type.Blob) facts other ss ts same are rule = tt

limited-node : (ranges : ℕ → Option (ℤ × ℤ)) (n : ℕ) (root : Bool) (facts other : Facts) (ss ts : Shapes) → AreRanges ranges → IsLimited (ranges n) facts other → AreLimitedAll ranges (n + 1) ss ts → IsTypedNode root facts ss → IsTypedNode root other ts
limited-node ranges n root facts other ss ts ok is are node =
    let same = same-type (ranges n) facts other is in
    let name = same-name (ranges n) facts other is in
    record {
      has_type = ap (λ (t : Option ElementType). is_some t) same ∙ node.has_type;
      root_type = λ top. same ∙ node.root_type top;
      root_name = λ top. ap (λ (x : List ℕ). bytes_eq x (codes "e57Root")) name ∙ node.root_name top;
      children = subst (λ (t : Option ElementType). ChildRule t ts) (sym same) (limited-child ranges (n + 1) facts.element_type ss ts are node.children);
      attrs = limited-attrs (ranges n) facts other (ok n) is node.attrs;
      limits = limited-limits (ranges n) facts other (ok n) is node.limits;
      vector = subst (λ (t : Option ElementType). VectorRule t other ts) (sym same) (limited-vector ranges (n + 1) facts.element_type facts other ss ts (same-records (ranges n) facts other is) are node.vector);
    }

mutual
  pub limited-typed : (ranges : ℕ → Option (ℤ × ℤ)) (n : ℕ) (root : Bool) (s t : Shape) → AreRanges ranges → AreLimited ranges n s t → IsTyped root s → IsTyped root t
  limited-typed ranges n root (shape facts below) (shape other beneath) ok are is = (
    limited-node ranges n root facts other below beneath ok are.0 are.1 is.0,
    limited-typed_all ranges (n + 1) below beneath ok are.1 is.1,
    λ differs. limited-distinct ranges (n + 1) below beneath [] are.1 (is.2 (ap names_differ (sym (same-type (ranges n) facts other are.0)) ∙ differs)),
  )

  pub limited-typed_all : (ranges : ℕ → Option (ℤ × ℤ)) (n : ℕ) (ss ts : Shapes) → AreRanges ranges → AreLimitedAll ranges n ss ts → AreTyped ss → AreTyped ts
  limited-typed_all ranges n no_shapes no_shapes ok are is = tt
  limited-typed_all ranges n no_shapes (shapes t ts) ok are is = absurd are
  limited-typed_all ranges n (shapes s ss) no_shapes ok are is = absurd are
  limited-typed_all ranges n (shapes s ss) (shapes t ts) ok are is = (limited-typed ranges n false s t ok are.0 is.0, limited-typed_all ranges (n + node_count s) ss ts ok are.1 is.1)

pub limited-typed_fault : (ranges : ℕ → Option (ℤ × ℤ)) (s t : Shape) → AreRanges ranges → AreLimited ranges 0 s t → typed_fault s ≡ None → typed_fault t ≡ None
limited-typed_fault ranges s t ok are free = typed-whole t (limited-typed ranges 0 true s t ok are (whole-typed s free))

-- ---- fields

-- what the items are stays, or they are integers of this range
abbrev pub IsLimitedKind : Option (ℤ × ℤ) → ItemKind → ItemKind → Type 0
IsLimitedKind found kind other = (other ≡ kind) ⊎ ((range : ℤ × ℤ) × (found ≡ Some range) × (low high : ℤ) × (kind ≡ integers low high) × (IsRange range → other ≡ integers range.0 range.1))

abbrev pub AreLimitedFields : (ℕ → Option (ℤ × ℤ)) → List Field → List Field → Type 0
AreLimitedFields ranges [] [] = Unit {0}
AreLimitedFields ranges [] (other ∷ others) = ⊥
AreLimitedFields ranges (field ∷ fields) [] = ⊥
AreLimitedFields ranges (field ∷ fields) (other ∷ others) =
    (other.node ≡ field.node) × IsLimitedKind (ranges field.node) (item_kind field.kind) (item_kind other.kind) × AreLimitedFields ranges fields others

fields-append : (ranges : ℕ → Option (ℤ × ℤ)) (xs ys us vs : List Field) → AreLimitedFields ranges xs ys → AreLimitedFields ranges us vs → AreLimitedFields ranges (xs ++ us) (ys ++ vs)
fields-append ranges [] [] us vs f g = g
fields-append ranges [] (y ∷ ys) us vs f g = absurd f
fields-append ranges (x ∷ xs) [] us vs f g = absurd f
fields-append ranges (x ∷ xs) (y ∷ ys) us vs f g = (f.0, f.1, fields-append ranges xs ys us vs f.2 g)

same-field : (ranges : ℕ → Option (ℤ × ℤ)) (n : ℕ) (path path' : List ℕ) (found : Option FieldKind) → AreLimitedFields ranges (field_at n path found) (field_at n path' found)
same-field ranges n path path' None = tt
same-field ranges n path path' (Some kind) = (refl, inl refl, tt)

integers-read : (range : ℤ × ℤ) (low high : Option ℤ) → low ≡ Some range.0 → high ≡ Some range.1 → integers (unwrap_or low (pos 0)) (unwrap_or high (pos 0)) ≡ integers range.0 range.1
integers-read range low high e f = ap (λ (l : Option ℤ). integers (unwrap_or l (pos 0)) (unwrap_or high (pos 0))) e ∙ ap (λ (h : Option ℤ). integers range.0 (unwrap_or h (pos 0))) f

range-field : (ranges : ℕ → Option (ℤ × ℤ)) (n : ℕ) (path path' : List ℕ) (range : ℤ × ℤ) (low high : Option ℤ) (facts : Facts) (t : Option ElementType) → ranges n ≡ Some range → (IsRange range → low ≡ Some range.0) → (IsRange range → high ≡ Some range.1)
    → AreLimitedFields ranges (field_at n path (kind_of facts t)) (field_at n path' (kind_of (with_range low high facts) t))
range-field ranges n path path' range low high facts None is read_low read_high = tt
range-field ranges n path path' range low high facts (Some element_type.Structure) is read_low read_high = tt
range-field ranges n path path' range low high facts (Some element_type.Vector) is read_low read_high = tt
range-field ranges n path path' range low high facts (Some element_type.CompressedVector) is read_low read_high = tt
range-field ranges n path path' range low high facts (Some element_type.Integer) is read_low read_high =
    (refl, inr (range, is, unwrap_or facts.minimum (pos 0), unwrap_or facts.maximum (pos 0), refl, λ ok. integers-read range low high (read_low ok) (read_high ok)), tt)
range-field ranges n path path' range low high facts (Some element_type.ScaledInteger) is read_low read_high =
    (refl, inr (range, is, unwrap_or facts.minimum (pos 0), unwrap_or facts.maximum (pos 0), refl, λ ok. integers-read range low high (read_low ok) (read_high ok)), tt)
range-field ranges n path path' range low high facts (Some element_type.Float) is read_low read_high = (refl, inl refl, tt)
range-field ranges n path path' range low high facts (Some element_type.String) is read_low read_high = (refl, inl refl, tt)
range-field ranges n path path' range low high facts (Some element_type.Blob) is read_low read_high = tt

limited-field : (ranges : ℕ → Option (ℤ × ℤ)) (n : ℕ) (path path' : List ℕ) (facts other : Facts) → IsLimited (ranges n) facts other
    → AreLimitedFields ranges (field_at n path (kind_of facts facts.element_type)) (field_at n path' (kind_of other other.element_type))
limited-field ranges n path path' facts other (inl same) =
    subst (λ (f : Facts). AreLimitedFields ranges (field_at n path (kind_of facts facts.element_type)) (field_at n path' (kind_of f f.element_type))) (sym same)
    (same-field ranges n path path' (kind_of facts facts.element_type))
limited-field ranges n path path' facts other (inr (range, is, ranged)) =
    subst (λ (f : Facts). AreLimitedFields ranges (field_at n path (kind_of facts facts.element_type)) (field_at n path' (kind_of f f.element_type))) (sym ranged.same)
    (range-field ranges n path path' range ranged.low ranged.high facts facts.element_type is ranged.read_low ranged.read_high)

mutual
  limited-fields : (ranges : ℕ → Option (ℤ × ℤ)) (n : ℕ) (path path' : List ℕ) (s t : Shape) → AreLimited ranges n s t → AreLimitedFields ranges (fields_from path n s) (fields_from path' n t)
  limited-fields ranges n path path' (shape facts below) (shape other beneath) are =
      fields-append ranges (field_at n path (kind_of facts facts.element_type)) (field_at n path' (kind_of other other.element_type))
      (fields_from_all (counts_children facts.element_type) path 0 (n + 1) below) (fields_from_all (counts_children other.element_type) path' 0 (n + 1) beneath)
      (limited-field ranges n path path' facts other are.0)
      (limited-fields_all ranges (n + 1) (counts_children facts.element_type) (counts_children other.element_type) path path' 0 below beneath are.1)

  limited-fields_all : (ranges : ℕ → Option (ℤ × ℤ)) (n : ℕ) (counted counted' : Bool) (path path' : List ℕ) (position : ℕ) (ss ts : Shapes) → AreLimitedAll ranges n ss ts
      → AreLimitedFields ranges (fields_from_all counted path position n ss) (fields_from_all counted' path' position n ts)
  limited-fields_all ranges n counted counted' path path' position no_shapes no_shapes are = tt
  limited-fields_all ranges n counted counted' path path' position no_shapes (shapes t ts) are = absurd are
  limited-fields_all ranges n counted counted' path path' position (shapes s ss) no_shapes are = absurd are
  limited-fields_all ranges n counted counted' path path' position (shapes s ss) (shapes t ts) are =
      fields-append ranges (fields_from (child_path counted path position s) n s) (fields_from (child_path counted' path' position t) n t)
      (fields_from_all counted path (position + 1) (n + node_count s) ss) (fields_from_all counted' path' (position + 1) (n + node_count t) ts)
      (limited-fields ranges n (child_path counted path position s) (child_path counted' path' position t) s t are.0)
      (subst (λ k. AreLimitedFields ranges (fields_from_all counted path (position + 1) (n + node_count s) ss) (fields_from_all counted' path' (position + 1) (n + k) ts)) (sym (limited-count ranges n s t are.0))
      (limited-fields_all ranges (n + node_count s) counted counted' path path' (position + 1) ss ts are.1))

-- ---- the prototype

record IsLimitedNode (ranges : ℕ → Option (ℤ × ℤ)) (x y : Node) : Type 0 where
  number : y.number ≡ x.number
  here : IsLimited (ranges x.number) x.facts y.facts
  below : AreLimitedAll ranges (x.number + 1) x.below y.below

abbrev IsFoundNode : (ℕ → Option (ℤ × ℤ)) → Option Node → Option Node → Type 0
IsFoundNode ranges None None = Unit {0}
IsFoundNode ranges None (Some y) = ⊥
IsFoundNode ranges (Some x) None = ⊥
IsFoundNode ranges (Some x) (Some y) = IsLimitedNode ranges x y

limited-at : (ranges : ℕ → Option (ℤ × ℤ)) (n : ℕ) (s t : Shape) → AreLimited ranges n s t → IsLimitedNode ranges (node_at n s) (node_at n t)
limited-at ranges n (shape facts below) (shape other beneath) are = record { number = refl; here = are.0; below = are.1 }

limited-child_named : (ranges : ℕ → Option (ℤ × ℤ)) (n : ℕ) (name : List ℕ) (ss ts : Shapes) → AreLimitedAll ranges n ss ts → IsFoundNode ranges (child_named name (children_from n ss)) (child_named name (children_from n ts))
unfolding child_named
limited-child_named ranges n name no_shapes no_shapes are = tt
limited-child_named ranges n name no_shapes (shapes t ts) are = absurd are
limited-child_named ranges n name (shapes s ss) no_shapes are = absurd are
limited-child_named ranges n name (shapes s ss) (shapes t ts) are =
    let both = limited-at ranges n s t are.0 in
    let later = limited-child_named ranges (n + node_count s) name ss ts are.1 in
    by_tests both (subst (λ k. IsFoundNode ranges (find (λ (x : Node). bytes_eq x.facts.name name) (children_from (n + node_count s) ss)) (find (λ (x : Node). bytes_eq x.facts.name name) (children_from (n + k) ts))) (sym (limited-count ranges n s t are.0)) later)
    (bytes_eq (node_at n s).facts.name name) (bytes_eq (node_at n t).facts.name name) (ap (λ (x : List ℕ). bytes_eq x name) (same-name (ranges (node_at n s).number) (node_at n s).facts (node_at n t).facts both.here))
  where
    by_tests : IsLimitedNode ranges (node_at n s) (node_at n t)
        → IsFoundNode ranges (find (λ (x : Node). bytes_eq x.facts.name name) (children_from (n + node_count s) ss)) (find (λ (x : Node). bytes_eq x.facts.name name) (children_from (n + node_count t) ts))
        → (a b : Bool) → b ≡ a
        → IsFoundNode ranges (cond a (Some (node_at n s)) (find (λ (x : Node). bytes_eq x.facts.name name) (children_from (n + node_count s) ss))) (cond b (Some (node_at n t)) (find (λ (x : Node). bytes_eq x.facts.name name) (children_from (n + node_count t) ts)))
    by_tests both later true true same = both
    by_tests both later true false same = absurd (cc)
    by_tests both later false true same = absurd (cc)
    by_tests both later false false same = later

limited-below : (ranges : ℕ → Option (ℤ × ℤ)) (found other : Option Node) → IsFoundNode ranges found other → AreLimitedFields ranges (fields_below found) (fields_below other)
limited-below ranges None None are = tt
limited-below ranges None (Some y) are = absurd are
limited-below ranges (Some x) None are = absurd are
limited-below ranges (Some x) (Some y) are =
    subst (λ k. AreLimitedFields ranges (fields_below (Some x)) (fields_from_all (counts_children y.facts.element_type) [] 0 (k + 1) y.below)) (sym are.number)
    (limited-fields_all ranges (x.number + 1) (counts_children x.facts.element_type) (counts_children y.facts.element_type) [] [] 0 x.below y.below are.below)

limited-fields_of : (ranges : ℕ → Option (ℤ × ℤ)) (n : ℕ) (facts other : Facts) (ss ts : Shapes) → AreLimitedAll ranges (n + 1) ss ts
    → AreLimitedFields ranges (fields_of (record { number = n; facts = facts; below = ss })) (fields_of (record { number = n; facts = other; below = ts }))
unfolding fields_of
limited-fields_of ranges n facts other ss ts are =
    limited-below ranges (child_named (codes "prototype") (children_from (n + 1) ss)) (child_named (codes "prototype") (children_from (n + 1) ts)) (limited-child_named ranges (n + 1) (codes "prototype") ss ts are)

-- ---- clouds and blobs

abbrev pub IsLimitedItem : (ℕ → Option (ℤ × ℤ)) → StatedItem → StatedItem → Type 0
IsLimitedItem ranges (stated_cloud n count fields) (stated_cloud m many others) = (m ≡ n) × (many ≡ count) × AreLimitedFields ranges fields others
IsLimitedItem ranges (stated_cloud n count fields) (stated_blob m size) = ⊥
IsLimitedItem ranges (stated_blob n size) (stated_cloud m many others) = ⊥
IsLimitedItem ranges (stated_blob n size) (stated_blob m large) = (m ≡ n) × (large ≡ size)

abbrev pub AreLimitedItems : (ℕ → Option (ℤ × ℤ)) → List StatedItem → List StatedItem → Type 0
AreLimitedItems ranges [] [] = Unit {0}
AreLimitedItems ranges [] (other ∷ others) = ⊥
AreLimitedItems ranges (item ∷ items) [] = ⊥
AreLimitedItems ranges (item ∷ items) (other ∷ others) = IsLimitedItem ranges item other × AreLimitedItems ranges items others

items-append : (ranges : ℕ → Option (ℤ × ℤ)) (xs ys us vs : List StatedItem) → AreLimitedItems ranges xs ys → AreLimitedItems ranges us vs → AreLimitedItems ranges (xs ++ us) (ys ++ vs)
items-append ranges [] [] us vs f g = g
items-append ranges [] (y ∷ ys) us vs f g = absurd f
items-append ranges (x ∷ xs) [] us vs f g = absurd f
items-append ranges (x ∷ xs) (y ∷ ys) us vs f g = (f.0, items-append ranges xs ys us vs f.1 g)

abbrev IsFoundItem : (ℕ → Option (ℤ × ℤ)) → Option StatedItem → Option StatedItem → Type 0
IsFoundItem ranges None None = Unit {0}
IsFoundItem ranges None (Some other) = ⊥
IsFoundItem ranges (Some item) None = ⊥
IsFoundItem ranges (Some item) (Some other) = IsLimitedItem ranges item other

items-cons : (ranges : ℕ → Option (ℤ × ℤ)) (found other : Option StatedItem) (xs ys : List StatedItem) → IsFoundItem ranges found other → AreLimitedItems ranges xs ys → AreLimitedItems ranges (cons_option found xs) (cons_option other ys)
items-cons ranges None None xs ys f g = g
items-cons ranges None (Some other) xs ys f g = absurd f
items-cons ranges (Some item) None xs ys f g = absurd f
items-cons ranges (Some item) (Some other) xs ys f g = (f, g)

limited-stated : (ranges : ℕ → Option (ℤ × ℤ)) (n : ℕ) (t : Option ElementType) (facts other : Facts) (ss ts : Shapes) → IsLimited (ranges n) facts other → AreLimitedAll ranges (n + 1) ss ts
    → IsFoundItem ranges (stated_by (record { number = n; facts = facts; below = ss }) t) (stated_by (record { number = n; facts = other; below = ts }) t)
limited-stated ranges n None facts other ss ts is are = tt
limited-stated ranges n (Some element_type.Structure) facts other ss ts is are = tt
limited-stated ranges n (Some element_type.Vector) facts other ss ts is are = tt
limited-stated ranges n (Some element_type.CompressedVector) facts other ss ts is are =
    (refl, ap (λ (found : Option ℕ). unwrap_or found 0) (same-records (ranges n) facts other is), limited-fields_of ranges n facts other ss ts are)
limited-stated ranges n (Some element_type.Integer) facts other ss ts is are = tt
limited-stated ranges n (Some element_type.ScaledInteger) facts other ss ts is are = tt
limited-stated ranges n (Some element_type.Float) facts other ss ts is are = tt
limited-stated ranges n (Some element_type.String) facts other ss ts is are = tt
limited-stated ranges n (Some element_type.Blob) facts other ss ts is are = (refl, ap (λ (found : Option ℕ). unwrap_or found 0) (same-size (ranges n) facts other is))

mutual
  unfolding stated_item

  limited-items_from : (ranges : ℕ → Option (ℤ × ℤ)) (n : ℕ) (s t : Shape) → AreLimited ranges n s t → AreLimitedItems ranges (filter_map stated_item (nodes_from n s)) (filter_map stated_item (nodes_from n t))
  limited-items_from ranges n (shape facts below) (shape other beneath) are =
      items-cons ranges (stated_item (node_at n (shape facts below))) (stated_item (node_at n (shape other beneath))) (filter_map stated_item (nodes_from_all (n + 1) below)) (filter_map stated_item (nodes_from_all (n + 1) beneath))
      (subst (λ (k : Option ElementType). IsFoundItem ranges (stated_by (node_at n (shape facts below)) facts.element_type) (stated_by (node_at n (shape other beneath)) k)) (sym (same-type (ranges n) facts other are.0))
      (limited-stated ranges n facts.element_type facts other below beneath are.0 are.1))
      (limited-items_from_all ranges (n + 1) below beneath are.1)

  limited-items_from_all : (ranges : ℕ → Option (ℤ × ℤ)) (n : ℕ) (ss ts : Shapes) → AreLimitedAll ranges n ss ts → AreLimitedItems ranges (filter_map stated_item (nodes_from_all n ss)) (filter_map stated_item (nodes_from_all n ts))
  limited-items_from_all ranges n no_shapes no_shapes are = tt
  limited-items_from_all ranges n no_shapes (shapes t ts) are = absurd are
  limited-items_from_all ranges n (shapes s ss) no_shapes are = absurd are
  limited-items_from_all ranges n (shapes s ss) (shapes t ts) are =
      rw (filter_map-append stated_item (nodes_from n s) (nodes_from_all (n + node_count s) ss), filter_map-append stated_item (nodes_from n t) (nodes_from_all (n + node_count t) ts))
      (items-append ranges (filter_map stated_item (nodes_from n s)) (filter_map stated_item (nodes_from n t)) (filter_map stated_item (nodes_from_all (n + node_count s) ss)) (filter_map stated_item (nodes_from_all (n + node_count t) ts))
      (limited-items_from ranges n s t are.0)
      (subst (λ k. AreLimitedItems ranges (filter_map stated_item (nodes_from_all (n + node_count s) ss)) (filter_map stated_item (nodes_from_all (n + k) ts))) (sym (limited-count ranges n s t are.0)) (limited-items_from_all ranges (n + node_count s) ss ts are.1)))

pub limited-items : (ranges : ℕ → Option (ℤ × ℤ)) (s t : Shape) → AreLimited ranges 0 s t → AreLimitedItems ranges (stated_items s) (stated_items t)
limited-items ranges s t are = limited-items_from ranges 0 s t are
