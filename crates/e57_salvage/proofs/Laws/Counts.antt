-- A tree with other counts states the same clouds and blobs with these counts, in order.
use Rattle.std.proofs.Common.{◌≡◌, ℕ, suc, ◌+◌, ◌^◌, ◌<◌, Bool, true, false, cond, List, [], ◌∷◌, ◌++◌, length, drop, get_or, Option, Some, None, is_some, refl, sym, ap, subst, ◌∙◌, arith, not}
use Rattle.std.specs.Prelude.{map, codes, decimal, unwrap_or, option_and_then}
use Rattle.std.specs.Str.{bytes_eq}
use Rattle.std.proofs.lemmas.List.{drop-drop, get_or-drop, length-map}
use Rattle.e57_base.specs.declared.kind.Kind.TheVariants as kind
use Rattle.e57_base.specs.Fault.{fault}
use Rattle.e57_pieces.specs.declared.piece.Attr.{Attr}
use Rattle.e57_elements.specs.Tree.{Element, element, Elements, none, more}
use Rattle.e57_layout.specs.Values.{ItemKind}
use Rattle.e57_cloud.specs.Section.{when}
use Rattle.e57_cloud.proofs.Laws.Sections.{when-none}
use Rattle.e57_nodes.specs.declared.ElementType.{ElementType}
use Rattle.e57_nodes.specs.declared.ElementType.TheVariants as element_type
use Rattle.e57_nodes.specs.Facts.{value_of, unsigned_in, type_in, type_named, Facts, facts_of}
use Rattle.e57_nodes.specs.Shape.{Shapes, shape_of, shapes_of}
use Rattle.e57_nodes.specs.Places.{has_section, is_cloud_or_blob, places_in, with_value}
use Rattle.e57_nodes.specs.Items.{stated_items}
use Rattle.e57_nodes.specs.Fields.{kind_of}
use Rattle.e57_nodes.specs.Typed.{unread, attr_fault}
use Rattle.e57_nodes.proofs.Laws.Values.{value_of-with_value, value_of-with_other}
use Rattle.e57_nodes.proofs.Laws.Sound.{option_or-none}
use Rattle.e57_nodes.proofs.Laws.Stated.{length-stated_items}
use Rattle.e57_plain.proofs.Laws.Typing.{name_in, called, kind_list, kinds_at, kinds_all, vector_kinds, IsTyped, AreTyped}
use Rattle.e57_plain.proofs.Laws.Forms.{Form, cloud_form, blob_form, form_of, form_list, forms_at, forms_all, stated-forms}
use Rattle.e57_plain.proofs.Laws.Pruned.{facts-type, facts-name}
use Rattle.e57_plain.proofs.Laws.WithCloud.{count-read}
use Rattle.e57_plain.proofs.Laws.Changed.{count-there}
use Rattle.e57_edits.specs.Counts.{length_name, count_name_of, with_counts, with_counts_all}
use Rattle.e57_plain.specs.Pruned.{count_name}
use Rattle.e57_salvage.proofs.Laws.Recounted.{count_attrs, counts_after, with_counts-is, AreUnsigned}

-- ---- counts

pub unsigned-drop : (counts : List ℕ) (k : ℕ) → AreUnsigned counts → AreUnsigned (drop k counts)
unsigned-drop counts k fits i = subst (λ n. n < 2 ^ 64) (sym (get_or-drop k counts i 0)) (fits (k + i))

unsigned-next : (counts : List ℕ) (attrs : List Attr) → AreUnsigned counts → AreUnsigned (counts_after counts attrs)
unsigned-next counts attrs fits = by_test (is_cloud_or_blob attrs) where
  by_test : (b : Bool) → AreUnsigned (cond b (drop 1 counts) counts)
  by_test true = unsigned-drop counts 1 fits
  by_test false = fits

-- clouds and blobs with these counts, in order
abbrev pub recounted : List ℕ → List Form → List Form
recounted counts [] = []
recounted counts (cloud_form count kinds ∷ forms) = cloud_form (get_or counts 0 0) kinds ∷ recounted (drop 1 counts) forms
recounted counts (blob_form size ∷ forms) = blob_form (get_or counts 0 0) ∷ recounted (drop 1 counts) forms

drop-more : (k : ℕ) (counts : List ℕ) → drop k (drop 1 counts) ≡ drop (suc k) counts
drop-more k counts = let e : 1 + k ≡ suc k = omega arith in drop-drop k 1 counts ∙ ap (λ j. drop j counts) e

pub recounted-append : (counts : List ℕ) (xs ys : List Form) → recounted counts (xs ++ ys) ≡ recounted counts xs ++ recounted (drop (length xs) counts) ys
recounted-append counts [] ys = refl
recounted-append counts (cloud_form count kinds ∷ xs) ys =
    ap (λ (forms : List Form). cloud_form (get_or counts 0 0) kinds ∷ forms) (recounted-append (drop 1 counts) xs ys)
    ∙ ap (λ (cs : List ℕ). cloud_form (get_or counts 0 0) kinds ∷ (recounted (drop 1 counts) xs ++ recounted cs ys)) (drop-more (length xs) counts)
recounted-append counts (blob_form size ∷ xs) ys =
    ap (λ (forms : List Form). blob_form (get_or counts 0 0) ∷ forms) (recounted-append (drop 1 counts) xs ys)
    ∙ ap (λ (cs : List ℕ). blob_form (get_or counts 0 0) ∷ (recounted (drop 1 counts) xs ++ recounted cs ys)) (drop-more (length xs) counts)

length-forms : (e : Element) → length (forms_at (shape_of e)) ≡ length (places_in e)
length-forms e = ap length (sym (stated-forms (shape_of e))) ∙ length-map (stated_items (shape_of e)) form_of ∙ length-stated_items e

-- ---- what is read of an element with another count

type-with : (word value : List ℕ) (attrs : List Attr) → bytes_eq word (codes "type") ≡ false → type_in (with_value word value attrs) ≡ type_in attrs
unfolding type_in
type-with word value attrs other = ap (option_and_then type_named) (value_of-with_other word value (codes "type") attrs other)

counted-type : (counts : List ℕ) (attrs : List Attr) → type_in (count_attrs counts attrs) ≡ type_in attrs
counted-type counts attrs = by_type (type_in attrs) where
  value : List ℕ
  value = decimal (get_or counts 0 0)

  by_type : (t : Option ElementType) → type_in (cond (has_section t) (with_value (count_name_of t) value attrs) attrs) ≡ type_in attrs
  by_type None = refl
  by_type (Some element_type.Structure) = refl
  by_type (Some element_type.Vector) = refl
  by_type (Some element_type.CompressedVector) = type-with count_name value attrs refl
  by_type (Some element_type.Integer) = refl
  by_type (Some element_type.ScaledInteger) = refl
  by_type (Some element_type.Float) = refl
  by_type (Some element_type.String) = refl
  by_type (Some element_type.Blob) = type-with length_name value attrs refl

not-false : (b : Bool) → not b ≡ false → b ≡ true
not-false true e = refl
not-false false e = absurd (cc)

length-there : (facts : Facts) → attr_fault 0 (Some element_type.Blob) facts ≡ None → is_some facts.blob_length ≡ true
unfolding attr_fault
length-there facts free =
    not-false (is_some facts.blob_length) (when-none (not (is_some facts.blob_length)) (fault kind.NodeAttr 0 6) (option_or-none (when (not facts.has_place) (fault kind.NodeAttr 0 4)) (unread 0 6 facts.blob_length) free).1)

new-count : (n : ℕ) (name : List ℕ) (attrs : List Attr) (text : List ℕ) → n < 2 ^ 64 → is_some (facts_of name attrs text).record_count ≡ true → (facts_of name (with_value count_name (decimal n) attrs) text).record_count ≡ Some n
unfolding facts_of
new-count n name attrs text small is = ap (option_and_then unsigned_in) (value_of-with_value count_name (decimal n) attrs) ∙ count-read (value_of count_name attrs) n small is

new-length : (n : ℕ) (name : List ℕ) (attrs : List Attr) (text : List ℕ) → n < 2 ^ 64 → is_some (facts_of name attrs text).blob_length ≡ true → (facts_of name (with_value length_name (decimal n) attrs) text).blob_length ≡ Some n
unfolding facts_of
new-length n name attrs text small is = ap (option_and_then unsigned_in) (value_of-with_value length_name (decimal n) attrs) ∙ count-read (value_of length_name attrs) n small is

-- ---- the kinds of fields are the same

own-kinds : (counts : List ℕ) (name : List ℕ) (attrs : List Attr) (text : List ℕ)
    → kind_list (kind_of (facts_of name (count_attrs counts attrs) text) (facts_of name (count_attrs counts attrs) text).element_type) ≡ kind_list (kind_of (facts_of name attrs text) (facts_of name attrs text).element_type)
own-kinds counts name attrs text =
    ap (λ (t : Option ElementType). kind_list (kind_of (facts_of name (count_attrs counts attrs) text) t)) (facts-type name (count_attrs counts attrs) text ∙ counted-type counts attrs)
    ∙ by_type (type_in attrs)
    ∙ ap (λ (t : Option ElementType). kind_list (kind_of (facts_of name attrs text) t)) (sym (facts-type name attrs text))
  where
    value : List ℕ
    value = decimal (get_or counts 0 0)

    by_type : (t : Option ElementType) → kind_list (kind_of (facts_of name (cond (has_section t) (with_value (count_name_of t) value attrs) attrs) text) t) ≡ kind_list (kind_of (facts_of name attrs text) t)
    by_type None = refl
    by_type (Some element_type.Structure) = refl
    by_type (Some element_type.Vector) = refl
    by_type (Some element_type.CompressedVector) = refl
    by_type (Some element_type.Integer) = refl
    by_type (Some element_type.ScaledInteger) = refl
    by_type (Some element_type.Float) = refl
    by_type (Some element_type.String) = refl
    by_type (Some element_type.Blob) = refl

mutual
  counts-kinds : (counts : List ℕ) (e : Element) → kinds_at (shape_of (with_counts counts e)) ≡ kinds_at (shape_of e)
  counts-kinds counts (element name attrs text children) =
      ap (λ (x : Element). kinds_at (shape_of x)) (with_counts-is counts name attrs text children)
      ∙ ap (λ (ks : List ItemKind). ks ++ kinds_all (shapes_of (with_counts_all (counts_after counts attrs) children))) (own-kinds counts name attrs text)
      ∙ ap (λ (ks : List ItemKind). kind_list (kind_of (facts_of name attrs text) (facts_of name attrs text).element_type) ++ ks) (counts-kinds_all (counts_after counts attrs) children)

  counts-kinds_all : (counts : List ℕ) (es : Elements) → kinds_all (shapes_of (with_counts_all counts es)) ≡ kinds_all (shapes_of es)
  counts-kinds_all counts none = refl
  counts-kinds_all counts (more e es) =
      ap (λ (ks : List ItemKind). ks ++ kinds_all (shapes_of (with_counts_all (drop (length (places_in e)) counts) es))) (counts-kinds counts e)
      ∙ ap (λ (ks : List ItemKind). kinds_at (shape_of e) ++ ks) (counts-kinds_all (drop (length (places_in e)) counts) es)

counts-name : (counts : List ℕ) (e : Element) → name_in (shape_of (with_counts counts e)) ≡ name_in (shape_of e)
counts-name counts (element name attrs text children) =
    ap (λ (x : Element). name_in (shape_of x)) (with_counts-is counts name attrs text children) ∙ facts-name name (count_attrs counts attrs) text ∙ sym (facts-name name attrs text)

below-kinds : (counts : List ℕ) (e : Element) → vector_kinds (Some (shape_of (with_counts counts e))) ≡ vector_kinds (Some (shape_of e))
below-kinds counts (element name attrs text children) =
    ap (λ (x : Element). vector_kinds (Some (shape_of x))) (with_counts-is counts name attrs text children) ∙ counts-kinds_all (counts_after counts attrs) children

called-kinds : (word counts : List ℕ) (es : Elements) → vector_kinds (called word (shapes_of (with_counts_all counts es))) ≡ vector_kinds (called word (shapes_of es))
called-kinds word counts none = refl
called-kinds word counts (more e es) =
    ap (λ (name : List ℕ). vector_kinds (cond (bytes_eq name word) (Some (shape_of (with_counts counts e))) (called word (shapes_of xs)))) (counts-name counts e)
    ∙ by_test (called-kinds word (drop (length (places_in e)) counts) es) (bytes_eq (name_in (shape_of e)) word)
  where
    xs : Elements
    xs = with_counts_all (drop (length (places_in e)) counts) es

    by_test : vector_kinds (called word (shapes_of xs)) ≡ vector_kinds (called word (shapes_of es)) → (b : Bool) → vector_kinds (cond b (Some (shape_of (with_counts counts e))) (called word (shapes_of xs))) ≡ vector_kinds (cond b (Some (shape_of e)) (called word (shapes_of es)))
    by_test later true = below-kinds counts e
    by_test later false = later

-- ---- clouds and blobs

other-form : (facts : Facts) (below : Shapes) (t : Option ElementType) → has_section t ≡ false → form_list facts below t ≡ []
other-form facts below None no_section = refl
other-form facts below (Some element_type.Structure) no_section = refl
other-form facts below (Some element_type.Vector) no_section = refl
other-form facts below (Some element_type.CompressedVector) no_section = absurd (cc)
other-form facts below (Some element_type.Integer) no_section = refl
other-form facts below (Some element_type.ScaledInteger) no_section = refl
other-form facts below (Some element_type.Float) no_section = refl
other-form facts below (Some element_type.String) no_section = refl
other-form facts below (Some element_type.Blob) no_section = absurd (cc)

-- an element's own form, by its type
own-form : (counts : List ℕ) (name : List ℕ) (attrs : List Attr) (text : List ℕ) (children : Elements) (next : List ℕ) → AreUnsigned counts → attr_fault 0 (type_in attrs) (facts_of name attrs text) ≡ None
    → form_list (facts_of name (count_attrs counts attrs) text) (shapes_of (with_counts_all next children)) (type_in attrs) ≡ recounted counts (form_list (facts_of name attrs text) (shapes_of children) (type_in attrs))
own-form counts name attrs text children next fits = by_type (type_in attrs) where
  n : ℕ
  n = get_or counts 0 0

  xs : Elements
  xs = with_counts_all next children

  by_type : (t : Option ElementType) → attr_fault 0 t (facts_of name attrs text) ≡ None
      → form_list (facts_of name (cond (has_section t) (with_value (count_name_of t) (decimal n) attrs) attrs) text) (shapes_of xs) t ≡ recounted counts (form_list (facts_of name attrs text) (shapes_of children) t)
  by_type None free = refl
  by_type (Some element_type.Structure) free = refl
  by_type (Some element_type.Vector) free = refl
  by_type (Some element_type.CompressedVector) free =
      ap (λ (o : Option ℕ). cloud_form (unwrap_or o 0) (vector_kinds (called (codes "prototype") (shapes_of xs))) ∷ []) (new-count n name attrs text (fits 0) (count-there (facts_of name attrs text) free))
      ∙ ap (λ (kinds : List ItemKind). cloud_form n kinds ∷ []) (called-kinds (codes "prototype") next children)
  by_type (Some element_type.Integer) free = refl
  by_type (Some element_type.ScaledInteger) free = refl
  by_type (Some element_type.Float) free = refl
  by_type (Some element_type.String) free = refl
  by_type (Some element_type.Blob) free = ap (λ (o : Option ℕ). blob_form (unwrap_or o 0) ∷ []) (new-length n name attrs text (fits 0) (length-there (facts_of name attrs text) free))

-- what is left of the counts after it
own-after : (counts : List ℕ) (facts : Facts) (below : Shapes) (attrs : List Attr) → counts_after counts attrs ≡ drop (length (form_list facts below (type_in attrs))) counts
own-after counts facts below attrs = by_type (type_in attrs) where
  by_type : (t : Option ElementType) → cond (has_section t) (drop 1 counts) counts ≡ drop (length (form_list facts below t)) counts
  by_type None = refl
  by_type (Some element_type.Structure) = refl
  by_type (Some element_type.Vector) = refl
  by_type (Some element_type.CompressedVector) = refl
  by_type (Some element_type.Integer) = refl
  by_type (Some element_type.ScaledInteger) = refl
  by_type (Some element_type.Float) = refl
  by_type (Some element_type.String) = refl
  by_type (Some element_type.Blob) = refl

mutual
  counts-forms : (root : Bool) (counts : List ℕ) (e : Element) → AreUnsigned counts → IsTyped root (shape_of e) → forms_at (shape_of (with_counts counts e)) ≡ recounted counts (forms_at (shape_of e))
  counts-forms root counts (element name attrs text children) fits typed =
      let facts = facts_of name attrs text in
      let new = facts_of name (count_attrs counts attrs) text in
      let next = counts_after counts attrs in
      let xs = with_counts_all next children in
      let t = type_in attrs in
      let is : facts.element_type ≡ t = facts-type name attrs text in
      let is_still : new.element_type ≡ t = facts-type name (count_attrs counts attrs) text ∙ counted-type counts attrs in
      let free : attr_fault 0 t facts ≡ None = ap (λ (k : Option ElementType). attr_fault 0 k facts) (sym is) ∙ typed.0.attrs in
      let own = form_list facts (shapes_of children) t in
      ap (λ (x : Element). forms_at (shape_of x)) (with_counts-is counts name attrs text children)
      ∙ ap (λ (k : Option ElementType). form_list new (shapes_of xs) k ++ forms_all (shapes_of xs)) is_still
      ∙ ap (λ (forms : List Form). forms ++ forms_all (shapes_of xs)) (own-form counts name attrs text children next fits free)
      ∙ ap (λ (forms : List Form). recounted counts own ++ forms) (counts-forms_all next children (unsigned-next counts attrs fits) typed.1)
      ∙ ap (λ (cs : List ℕ). recounted counts own ++ recounted cs (forms_all (shapes_of children))) (own-after counts facts (shapes_of children) attrs)
      ∙ sym (recounted-append counts own (forms_all (shapes_of children)))
      ∙ ap (λ (k : Option ElementType). recounted counts (form_list facts (shapes_of children) k ++ forms_all (shapes_of children))) (sym is)

  counts-forms_all : (counts : List ℕ) (es : Elements) → AreUnsigned counts → AreTyped (shapes_of es) → forms_all (shapes_of (with_counts_all counts es)) ≡ recounted counts (forms_all (shapes_of es))
  counts-forms_all counts none fits typed = refl
  counts-forms_all counts (more e es) fits typed =
      let next = drop (length (places_in e)) counts in
      ap (λ (forms : List Form). forms ++ forms_all (shapes_of (with_counts_all next es))) (counts-forms false counts e fits typed.0)
      ∙ ap (λ (forms : List Form). recounted counts (forms_at (shape_of e)) ++ forms) (counts-forms_all next es (unsigned-drop counts (length (places_in e)) fits) typed.1)
      ∙ ap (λ (k : ℕ). recounted counts (forms_at (shape_of e)) ++ recounted (drop k counts) (forms_all (shapes_of es))) (sym (length-forms e))
      ∙ sym (recounted-append counts (forms_at (shape_of e)) (forms_all (shapes_of es)))

-- A tree without a fault of its nodes, with other counts, states its clouds and blobs with these counts.
pub recounted-forms : (counts : List ℕ) (e : Element) → AreUnsigned counts → IsTyped true (shape_of e) → map form_of (stated_items (shape_of (with_counts counts e))) ≡ recounted counts (map form_of (stated_items (shape_of e)))
recounted-forms counts e fits typed = stated-forms (shape_of (with_counts counts e)) ∙ counts-forms true counts e fits typed ∙ ap (recounted counts) (sym (stated-forms (shape_of e)))
