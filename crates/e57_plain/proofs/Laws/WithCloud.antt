-- The tree with one cloud changed: it has no fault, is lawful, and states the same clouds and blobs but for this one.
use Rattle.std.specs.Prelude.{◌≡◌, ℕ, suc, ◌+◌, ◌^◌, ◌<◌, ◌≤◌, Bool, true, false, cond, ◌&&◌, ◌||◌, List, [], ◌∷◌, ◌++◌, length, drop, codes, decimal, Option, Some, None, is_some, option_map, option_and_then, unwrap_or}
use Rattle.std.specs.List.{list_all, AllByRecursion}
use Rattle.std.specs.Str.{bytes_eq}
use Rattle.std.proofs.Common.{refl, sym, ap, subst, ◌∙◌, arith, zero-add}
use Rattle.std.proofs.lemmas.Slice.Eq.{bytes_eq-Decides}
use Rattle.std.proofs.lemmas.List.Elements.{filter_map-append}
use Rattle.e57_pieces.specs.declared.piece.Attr.{Attr}
use Rattle.e57_elements.specs.Tree.{Element, element, Elements, none, more, preorder, preorder_all, depth, depth_all}
use Rattle.e57_elements.specs.Lawful.{IsLawfulAttr, IsLawfulNode}
use Rattle.e57_layout.specs.Values.{ItemKind}
use Rattle.e57_nodes.specs.declared.ElementType.{ElementType}
use Rattle.e57_nodes.specs.declared.ElementType.TheVariants as element_type
use Rattle.e57_nodes.specs.Facts.{value_of, unsigned_in, type_named, type_in, Facts, facts_of}
use Rattle.e57_nodes.specs.Shape.{Shape, shape, Shapes, no_shapes, shapes, shape_of, shapes_of}
use Rattle.e57_nodes.specs.Places.{has_section, is_cloud_or_blob, place_name, stated_place, places_in, with_value, with_places, with_places_all}
use Rattle.e57_nodes.specs.Typed.{is_structure, names_differ}
use Rattle.e57_nodes.proofs.Laws.Decimals.{unsigned_in-decimal, decimal_writes, AreCharacters-digits}
use Rattle.e57_nodes.proofs.Laws.Places.{places_in_all}
use Rattle.e57_nodes.proofs.Laws.Values.{value_of-with_value, value_of-with_other, length-with_value, all-with_value, differ-with_value}
use Rattle.e57_plain.specs.Kept.{chosen}
use Rattle.e57_plain.specs.Pruned.{is_field_type, pruned, pruned_all, with_prototype, count_name}
use Rattle.e57_plain.proofs.Laws.Typing.{name_in, names_in, is_among, called, AreDistinct, kinds_all, NoSection, is_expected, ChildRule, CodecsRule, IsPrototype, PrototypeRule, IsVector, VectorRule, IsTypedNode, IsTyped, AreTyped, vector_kinds}
use Rattle.e57_plain.proofs.Laws.LimitedTrees.{has-value, nodes-parts}
use Rattle.e57_plain.proofs.Laws.Forms.{Form, cloud_form, blob_form, form_list, forms_at, forms_all}
use Rattle.e57_plain.proofs.Laws.Pruned.{facts-type, no-places, stays, no-forms, pruned-kinds_all, pruned-typed, pruned-less, IsLess, less-more}

-- ---- the prototype of a cloud

prototype-is : (keep : List Bool) (name : List ℕ) (attrs : List Attr) (text : List ℕ) (children : Elements) → is_structure (facts_of name attrs text).element_type ≡ true
    → element name attrs text (pruned_all keep children) ≡ pruned keep (element name attrs text children)
prototype-is keep name attrs text children structure =
    ap (λ (b : Bool). element name attrs text (pruned_all (drop (cond b 1 0) keep) children)) (sym (no-field (type_in attrs) (sym (ap is_structure (facts-type name attrs text)) ∙ structure)))
  where
    no-field : (t : Option ElementType) → is_structure t ≡ true → is_field_type t ≡ false
    no-field None is = refl
    no-field (Some element_type.Structure) is = refl
    no-field (Some element_type.Vector) is = refl
    no-field (Some element_type.CompressedVector) is = refl
    no-field (Some element_type.Integer) is = absurd (cc)
    no-field (Some element_type.ScaledInteger) is = absurd (cc)
    no-field (Some element_type.Float) is = absurd (cc)
    no-field (Some element_type.String) is = absurd (cc)
    no-field (Some element_type.Blob) is = refl

structure-section : (t : Option ElementType) → is_structure t ≡ true → has_section t ≡ false
structure-section None is = refl
structure-section (Some element_type.Structure) is = refl
structure-section (Some element_type.Vector) is = refl
structure-section (Some element_type.CompressedVector) is = absurd (cc)
structure-section (Some element_type.Integer) is = refl
structure-section (Some element_type.ScaledInteger) is = refl
structure-section (Some element_type.Float) is = refl
structure-section (Some element_type.String) is = refl
structure-section (Some element_type.Blob) is = absurd (cc)

chosen-few : {X : Type 0} (keep : List Bool) (xs : List X) → length (chosen keep xs) ≤ length xs
chosen-few [] xs = omega arith
chosen-few (b ∷ keep) [] = omega arith
chosen-few (b ∷ keep) (x ∷ xs) = by_flag b (chosen-few keep xs) where
  by_flag : (c : Bool) → length (chosen keep xs) ≤ length xs → length (cond c (x ∷ chosen keep xs) (chosen keep xs)) ≤ suc (length xs)
  by_flag true few = omega arith
  by_flag false few = omega arith

-- What stays of elements, among which one is changed.
pub record IsReduced (keep : List Bool) (es xs : Elements) : Type 0 where
  pub typed : AreTyped (shapes_of xs)
  pub names : names_in (shapes_of xs) ≡ names_in (shapes_of es)
  pub codecs : called (codes "codecs") (shapes_of xs) ≡ called (codes "codecs") (shapes_of es)
  pub prototype : PrototypeRule (called (codes "prototype") (shapes_of xs))
  pub kinds : vector_kinds (called (codes "prototype") (shapes_of xs)) ≡ chosen keep (vector_kinds (called (codes "prototype") (shapes_of es)))
  pub forms : forms_all (shapes_of xs) ≡ forms_all (shapes_of es)
  pub places : places_in_all xs ≡ places_in_all es
  pub still : (texts : List (List ℕ)) → with_places_all texts es ≡ es → with_places_all texts xs ≡ xs
  pub less : IsLess (preorder_all es) (preorder_all xs) (depth_all es) (depth_all xs)

-- the prototype itself
record IsReducedOne (keep : List Bool) (p x : Element) : Type 0 where
  typed : IsTyped false (shape_of x)
  free : NoSection (shape_of x)
  was_free : NoSection (shape_of p)
  less : IsLess (preorder p) (preorder x) (depth p) (depth x)

reduce-one : (keep : List Bool) (name : List ℕ) (attrs : List Attr) (text : List ℕ) (children : Elements) → IsTyped false (shape_of (element name attrs text children)) → IsPrototype (facts_of name attrs text) (shapes_of children)
    → AllByRecursion IsLawfulNode (preorder (element name attrs text children)) → IsReducedOne keep (element name attrs text children) (element name attrs text (pruned_all keep children))
reduce-one keep name attrs text children is proto h =
    let p = element name attrs text children in
    let same = prototype-is keep name attrs text children proto.is_structure in
    let free : NoSection (shape_of p) = (structure-section (facts_of name attrs text).element_type proto.is_structure, proto.no_section) in
    let typed = pruned-typed keep p is free in
    record {
      typed = subst (λ (x : Element). IsTyped false (shape_of x)) (sym same) typed.0;
      free = subst (λ (x : Element). NoSection (shape_of x)) (sym same) typed.1;
      was_free = free;
      less = subst (λ (x : Element). IsLess (preorder p) (preorder x) (depth p) (depth x)) (sym same) (pruned-less keep p h);
    }

pub nodes-same : (es : Elements) → AllByRecursion IsLawfulNode (preorder_all es) → IsLess (preorder_all es) (preorder_all es) (depth_all es) (depth_all es)
nodes-same es h = record { size = omega arith; depth = omega arith; each = h }

pub node-same : (e : Element) → AllByRecursion IsLawfulNode (preorder e) → IsLess (preorder e) (preorder e) (depth e) (depth e)
node-same e h = record { size = omega arith; depth = omega arith; each = h }

pub more-same : (e : Element) (es xs : Elements) (texts : List (List ℕ)) → ((ts : List (List ℕ)) → with_places_all ts es ≡ es → with_places_all ts xs ≡ xs) → with_places_all texts (more e es) ≡ more e es → with_places_all texts (more e xs) ≡ more e xs
more-same e es xs texts still same =
    let here : with_places texts e ≡ e = cc in
    let later : with_places_all (drop (length (places_in e)) texts) es ≡ es = cc in
    ap (λ (x : Element). more x (with_places_all (drop (length (places_in e)) texts) xs)) here ∙ ap (λ (ys : Elements). more e ys) (still (drop (length (places_in e)) texts) later)

pub more-other : (e x : Element) (es : Elements) (texts : List (List ℕ)) → places_in x ≡ places_in e → (with_places texts e ≡ e → with_places texts x ≡ x) → with_places_all texts (more e es) ≡ more e es → with_places_all texts (more x es) ≡ more x es
more-other e x es texts places still same =
    let here : with_places texts e ≡ e = cc in
    let later : with_places_all (drop (length (places_in e)) texts) es ≡ es = cc in
    ap (λ (qs : List ℕ). more (with_places texts x) (with_places_all (drop (length qs) texts) es)) places
    ∙ ap (λ (ys : Elements). more (with_places texts x) ys) later ∙ ap (λ (y : Element). more y es) (still here)

pub places-more : (e : Element) (es : Elements) → places_in_all (more e es) ≡ places_in e ++ places_in_all es
places-more e es = filter_map-append stated_place (preorder e) (preorder_all es)

codecs-apart : (name : List ℕ) → bytes_eq name (codes "prototype") ≡ true → bytes_eq name (codes "codecs") ≡ false
codecs-apart name is = ap (λ (x : List ℕ). bytes_eq x (codes "codecs")) ((bytes_eq-Decides name (codes "prototype")).0 is)

pub reduce : (keep : List Bool) (es : Elements) → AreTyped (shapes_of es) → PrototypeRule (called (codes "prototype") (shapes_of es)) → 0 < length (chosen keep (vector_kinds (called (codes "prototype") (shapes_of es))))
    → AllByRecursion IsLawfulNode (preorder_all es) → IsReduced keep es (with_prototype keep es)
unfolding facts_of
reduce keep none are rule some h = absurd rule
reduce keep (more (element name attrs text children) es) are rule some h =
    by_test (λ r s. reduce keep es are.1 r s parts.1) (bytes_eq name (codes "prototype")) refl rule some
  where
    p : Element
    p = element name attrs text children

    x : Element
    x = element name attrs text (pruned_all keep children)

    parts : AllByRecursion IsLawfulNode (preorder p) × AllByRecursion IsLawfulNode (preorder_all es)
    parts = nodes-parts (preorder p) (preorder_all es) h

    by_test : (PrototypeRule (called (codes "prototype") (shapes_of es)) → 0 < length (chosen keep (vector_kinds (called (codes "prototype") (shapes_of es)))) → IsReduced keep es (with_prototype keep es))
        → (b : Bool) → bytes_eq name (codes "prototype") ≡ b
        → PrototypeRule (cond b (Some (shape_of p)) (called (codes "prototype") (shapes_of es)))
        → 0 < length (chosen keep (vector_kinds (cond b (Some (shape_of p)) (called (codes "prototype") (shapes_of es)))))
        → IsReduced keep (more p es) (cond b (more x es) (more p (with_prototype keep es)))
    by_test later true e rule some =
        let one = reduce-one keep name attrs text children are.0 rule parts.0 in
        let kinds = pruned-kinds_all keep children are.0.1 in
        let few = chosen-few keep (kinds_all (shapes_of children)) in
        let places : places_in x ≡ places_in p = no-places x one.free ∙ sym (no-places p one.was_free) in
        let other = codecs-apart name e in
        let found : called (codes "prototype") (shapes_of (more x es)) ≡ Some (shape_of x) = ap (λ (b : Bool). cond b (Some (shape_of x)) (called (codes "prototype") (shapes_of es))) e in
        let was : called (codes "prototype") (shapes_of (more p es)) ≡ Some (shape_of p) = ap (λ (b : Bool). cond b (Some (shape_of p)) (called (codes "prototype") (shapes_of es))) e in
        record {
          typed = (one.typed, are.1);
          names = refl;
          codecs = ap (λ (b : Bool). cond b (Some (shape_of x)) (called (codes "codecs") (shapes_of es))) other ∙ sym (ap (λ (b : Bool). cond b (Some (shape_of p)) (called (codes "codecs") (shapes_of es))) other);
          prototype =
              subst (λ (s : Option Shape). PrototypeRule s) (sym found)
              (record {
                is_structure = rule.is_structure;
                no_section = one.free.1;
                some = subst (λ (ks : List ItemKind). 0 < length ks) (sym kinds) some;
                few = subst (λ (ks : List ItemKind). length ks ≤ 512) (sym kinds) (omega (arith, rule.few));
              });
          kinds = ap vector_kinds found ∙ kinds ∙ sym (ap (λ s. chosen keep (vector_kinds s)) was);
          forms =
              ap (λ (forms : List Form). forms ++ forms_all (shapes_of es)) (no-forms (shape_of x) one.free)
              ∙ sym (ap (λ (forms : List Form). forms ++ forms_all (shapes_of es)) (no-forms (shape_of p) one.was_free));
          places = places-more x es ∙ ap (λ (qs : List ℕ). qs ++ places_in_all es) places ∙ sym (places-more p es);
          still = λ texts. more-other p x es texts places (λ same. stays texts x one.free);
          less = less-more p x es es one.less (nodes-same es parts.1);
        }
    by_test later false e rule some =
        let r = later rule some in
        let xs = with_prototype keep es in
        record {
          typed = (are.0, r.typed);
          names = ap (λ (names : List (List ℕ)). name ∷ names) r.names;
          codecs = ap (λ found. cond (bytes_eq name (codes "codecs")) (Some (shape_of p)) found) r.codecs;
          prototype = subst (λ (b : Bool). PrototypeRule (cond b (Some (shape_of p)) (called (codes "prototype") (shapes_of xs)))) (sym e) r.prototype;
          kinds =
              ap (λ (b : Bool). vector_kinds (cond b (Some (shape_of p)) (called (codes "prototype") (shapes_of xs)))) e ∙ r.kinds
              ∙ sym (ap (λ (b : Bool). chosen keep (vector_kinds (cond b (Some (shape_of p)) (called (codes "prototype") (shapes_of es))))) e);
          forms = ap (λ (forms : List Form). forms_at (shape_of p) ++ forms) r.forms;
          places = places-more p xs ∙ ap (λ (qs : List ℕ). places_in p ++ qs) r.places ∙ sym (places-more p es);
          still = λ texts. more-same p es xs texts r.still;
          less = less-more p p es xs (node-same p parts.0) r.less;
        }

-- ---- no cloud in a cloud

distinct-none : (earlier : List (List ℕ)) (name : List ℕ) (ss : Shapes) → is_among earlier name ≡ true → AreDistinct earlier ss → called name ss ≡ None
distinct-none earlier name no_shapes there are = refl
distinct-none earlier name (shapes s ss) there are = by_test (distinct-none (earlier ++ name_in s ∷ []) name ss (still earlier there) are.1) (bytes_eq (name_in s) name) refl where
  still : (xs : List (List ℕ)) → is_among xs name ≡ true → is_among (xs ++ name_in s ∷ []) name ≡ true
  still [] there = absurd (cc)
  still (x ∷ xs) there = by_first (still xs) (bytes_eq x name) there where
    by_first : (is_among xs name ≡ true → is_among (xs ++ name_in s ∷ []) name ≡ true) → (b : Bool) → (b || is_among xs name) ≡ true → (b || is_among (xs ++ name_in s ∷ []) name) ≡ true
    by_first later true there = refl
    by_first later false there = later there

  by_test : called name ss ≡ None → (b : Bool) → bytes_eq (name_in s) name ≡ b → cond b (Some s) (called name ss) ≡ None
  by_test later true e = absurd (let same : name_in s ≡ name = (bytes_eq-Decides (name_in s) name).0 e in let h : is_among earlier name ≡ false = subst (λ (x : List ℕ). is_among earlier x ≡ false) same are.0 in cc)
  by_test later false e = later

-- how many clouds there are
abbrev pub form_clouds : List Form → ℕ
form_clouds [] = 0
form_clouds (cloud_form count kinds ∷ forms) = suc (form_clouds forms)
form_clouds (blob_form size ∷ forms) = form_clouds forms

pub form_clouds-append : (xs ys : List Form) → form_clouds (xs ++ ys) ≡ form_clouds xs + form_clouds ys
form_clouds-append [] ys = sym (zero-add (form_clouds ys))
form_clouds-append (cloud_form count kinds ∷ xs) ys = let later = form_clouds-append xs ys in omega arith
form_clouds-append (blob_form size ∷ xs) ys = form_clouds-append xs ys

-- a prototype, perhaps
abbrev MaybePrototype : Option Shape → Type 0
MaybePrototype None = Unit {0}
MaybePrototype (Some (shape facts below)) = IsPrototype facts below

bare-cloud : (facts : Facts) (t : Option ElementType) → VectorRule t facts no_shapes → form_clouds (form_list facts no_shapes t ++ []) ≡ 0
bare-cloud facts None rule = refl
bare-cloud facts (Some element_type.Structure) rule = refl
bare-cloud facts (Some element_type.Vector) rule = refl
bare-cloud facts (Some element_type.CompressedVector) rule = absurd rule.prototype
bare-cloud facts (Some element_type.Integer) rule = refl
bare-cloud facts (Some element_type.ScaledInteger) rule = refl
bare-cloud facts (Some element_type.Float) rule = refl
bare-cloud facts (Some element_type.String) rule = refl
bare-cloud facts (Some element_type.Blob) rule = refl

bare-clouds : (facts : Facts) (below : Shapes) → IsTypedNode false facts below → below ≡ no_shapes → form_clouds (forms_at (shape facts below)) ≡ 0
bare-clouds facts below node bare =
    ap (λ (ss : Shapes). form_clouds (forms_at (shape facts ss))) bare ∙ bare-cloud facts facts.element_type (subst (λ (ss : Shapes). VectorRule facts.element_type facts ss) bare node.vector)

same-among : (earlier : List (List ℕ)) (x name : List ℕ) → bytes_eq x name ≡ true → is_among (earlier ++ x ∷ []) name ≡ true
same-among [] x name is = ap (λ (b : Bool). b || false) is
same-among (y ∷ earlier) x name is = by_first (bytes_eq y name) (same-among earlier x name is) where
  by_first : (b : Bool) → is_among (earlier ++ x ∷ []) name ≡ true → (b || is_among (earlier ++ x ∷ []) name) ≡ true
  by_first true later = refl
  by_first false later = later

no-clouds : (ss : Shapes) (earlier : List (List ℕ)) → AreTyped ss → list_all is_expected (names_in ss) ≡ true → AreDistinct earlier ss → MaybePrototype (called (codes "prototype") ss) → CodecsRule (called (codes "codecs") ss)
    → form_clouds (forms_all ss) ≡ 0
no-clouds no_shapes earlier are expected distinct proto codecs = refl
no-clouds (shapes (shape facts below) ss) earlier are expected distinct proto codecs =
    by_test (λ p c. no-clouds ss (earlier ++ facts.name ∷ []) are.1 (all-parts (is_expected facts.name) (list_all is_expected (names_in ss)) expected).1 distinct.1 p c)
    (bytes_eq facts.name (codes "prototype")) refl (bytes_eq facts.name (codes "codecs")) refl proto codecs
    (all-parts (is_expected facts.name) (list_all is_expected (names_in ss)) expected).0
  where
    all-parts : (a b : Bool) → (a && b) ≡ true → (a ≡ true) × (b ≡ true)
    all-parts true true e = (refl, refl)
    all-parts true false e = absurd (cc)
    all-parts false b e = absurd (cc)

    split : form_clouds (forms_at (shape facts below) ++ forms_all ss) ≡ form_clouds (forms_at (shape facts below)) + form_clouds (forms_all ss)
    split = form_clouds-append (forms_at (shape facts below)) (forms_all ss)

    by_test : (MaybePrototype (called (codes "prototype") ss) → CodecsRule (called (codes "codecs") ss) → form_clouds (forms_all ss) ≡ 0)
        → (a : Bool) → bytes_eq facts.name (codes "prototype") ≡ a → (b : Bool) → bytes_eq facts.name (codes "codecs") ≡ b
        → MaybePrototype (cond a (Some (shape facts below)) (called (codes "prototype") ss)) → CodecsRule (cond b (Some (shape facts below)) (called (codes "codecs") ss))
        → (bytes_eq facts.name (codes "prototype") || bytes_eq facts.name (codes "codecs")) ≡ true
        → form_clouds (forms_at (shape facts below) ++ forms_all ss) ≡ 0
    by_test later true e true f proto codecs known = absurd (let h = codecs-apart facts.name e in cc)
    by_test later true e false f proto codecs known =
        let gone = distinct-none (earlier ++ facts.name ∷ []) (codes "prototype") ss (same-among earlier facts.name (codes "prototype") e) distinct.1 in
        let here = ap form_clouds (no-forms (shape facts below) (structure-section facts.element_type proto.is_structure, proto.no_section)) in
        let rest = later (subst (λ (s : Option Shape). MaybePrototype s) (sym gone) tt) codecs in
        split ∙ rw (here, rest) refl
    by_test later false e true f proto codecs known =
        let gone = distinct-none (earlier ++ facts.name ∷ []) (codes "codecs") ss (same-among earlier facts.name (codes "codecs") f) distinct.1 in
        let here = bare-clouds facts below are.0.0 codecs in
        let rest = later proto (subst (λ (s : Option Shape). CodecsRule s) (sym gone) tt) in
        split ∙ rw (here, rest) refl
    by_test later false e false f proto codecs known = absurd (let h : (false || false) ≡ true = sym (ap (λ (b : Bool). b || bytes_eq facts.name (codes "codecs")) e ∙ ap (λ (b : Bool). false || b) f) ∙ known in cc)

maybe : (found : Option Shape) → PrototypeRule found → MaybePrototype found
maybe None rule = tt
maybe (Some (shape facts below)) rule = rule

-- the children of a cloud that has no fault have no cloud
pub vector-clouds : (root : Bool) (facts : Facts) (below : Shapes) → facts.element_type ≡ Some element_type.CompressedVector → IsTyped root (shape facts below) → form_clouds (forms_all below) ≡ 0
vector-clouds root facts below is typed =
    let vector : IsVector facts below = subst (λ (t : Option ElementType). VectorRule t facts below) is typed.0.vector in
    no-clouds below [] typed.1 (subst (λ (t : Option ElementType). ChildRule t below) is typed.0.children) (typed.2 (ap names_differ is)) (maybe (called (codes "prototype") below) vector.prototype) vector.codecs

-- ---- the number of records

abbrev pub with_count : ℕ → Facts → Facts
with_count count facts = record {
  name = facts.name;
  element_type = facts.element_type;
  minimum = facts.minimum;
  maximum = facts.maximum;
  scale = facts.scale;
  offset = facts.offset;
  precision = facts.precision;
  has_place = facts.has_place;
  record_count = Some count;
  blob_length = facts.blob_length;
  is_integer = facts.is_integer;
}

pub count-read : (found : Option (List ℕ)) (count : ℕ) → count < 2 ^ 64 → is_some (option_and_then unsigned_in found) ≡ true → option_and_then unsigned_in (option_map (λ _. decimal count) found) ≡ Some count
count-read None count small is = absurd (cc)
count-read (Some value) count small is = unsigned_in-decimal count small

-- the attributes with this number of records
abbrev pub counted_attrs : ℕ → List Attr → List Attr
counted_attrs count attrs = with_value count_name (decimal count) attrs

pub counted-facts : (count : ℕ) (name : List ℕ) (attrs : List Attr) (text : List ℕ) → count < 2 ^ 64 → is_some (facts_of name attrs text).record_count ≡ true
    → facts_of name (counted_attrs count attrs) text ≡ with_count count (facts_of name attrs text)
unfolding facts_of type_in
counted-facts count name attrs text small is =
    let here = ap (option_and_then unsigned_in) (value_of-with_value count_name (decimal count) attrs) ∙ count-read (value_of count_name attrs) count small is in
    let a = value_of-with_other count_name (decimal count) (codes "type") attrs refl in
    let b = value_of-with_other count_name (decimal count) (codes "scale") attrs refl in
    let c = value_of-with_other count_name (decimal count) (codes "offset") attrs refl in
    let d = value_of-with_other count_name (decimal count) (codes "precision") attrs refl in
    let e = value_of-with_other count_name (decimal count) (codes "fileOffset") attrs refl in
    let f = value_of-with_other count_name (decimal count) (codes "minimum") attrs refl in
    let g = value_of-with_other count_name (decimal count) (codes "maximum") attrs refl in
    let h = value_of-with_other count_name (decimal count) (codes "length") attrs refl in
    rw (here, a, b, c, d, e, f, g, h) refl

pub counted-section : (count : ℕ) (attrs : List Attr) → is_cloud_or_blob (counted_attrs count attrs) ≡ is_cloud_or_blob attrs
unfolding type_in
counted-section count attrs = ap (λ (v : Option (List ℕ)). has_section (option_and_then type_named v)) (value_of-with_other count_name (decimal count) (codes "type") attrs refl)

counted-place : (count : ℕ) (attrs : List Attr) → value_of place_name (counted_attrs count attrs) ≡ value_of place_name attrs
counted-place count attrs = value_of-with_other count_name (decimal count) place_name attrs refl

pub counted-keeps : (count : ℕ) (value : List ℕ) (attrs : List Attr) → with_value place_name value attrs ≡ attrs → with_value place_name value (counted_attrs count attrs) ≡ counted_attrs count attrs
counted-keeps count value attrs same =
    let has : value_of place_name attrs ≡ option_map (λ _. value) (value_of place_name attrs) = sym (ap (value_of place_name) same) ∙ value_of-with_value place_name value attrs in
    has-value place_name value (counted_attrs count attrs) (counted-place count attrs ∙ has ∙ ap (option_map (λ _. value)) (sym (counted-place count attrs)))

pub counted-stated : (count : ℕ) (name : List ℕ) (attrs : List Attr) (text : List ℕ) (size other : ℕ)
    → stated_place (record { name = name; attrs = counted_attrs count attrs; text = text; size = other }) ≡ stated_place (record { name = name; attrs = attrs; text = text; size = size })
unfolding stated_place
counted-stated count name attrs text size other =
    ap (λ (v : Option (List ℕ)). cond (is_cloud_or_blob (counted_attrs count attrs)) (Some (unwrap_or (option_and_then unsigned_in v) 0)) None) (counted-place count attrs)
    ∙ ap (λ (b : Bool). cond b (Some (unwrap_or (option_and_then unsigned_in (value_of place_name attrs)) 0)) None) (counted-section count attrs)

pub counted-node : (count : ℕ) (name : List ℕ) (attrs : List Attr) (text : List ℕ) (size : ℕ) → count < 2 ^ 64 → IsLawfulNode (record { name = name; attrs = attrs; text = text; size = size })
    → IsLawfulNode (record { name = name; attrs = counted_attrs count attrs; text = text; size = size })
counted-node count name attrs text size small h = record {
  is_name = h.is_name;
  name = h.name;
  each = all-with_value IsLawfulAttr count_name (decimal count) attrs (λ attr k. record { is_name = k.is_name; name = k.name; value = AreCharacters-digits (decimal count) (decimal_writes count small).digits }) h.each;
  names_differ = differ-with_value count_name (decimal count) attrs ∙ h.names_differ;
  few_attrs = let same = length-with_value count_name (decimal count) attrs in omega (arith, h.few_attrs);
  text = h.text;
  no_space = h.no_space;
}
