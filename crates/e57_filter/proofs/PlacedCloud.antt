-- A tree with one cloud changed and then with other places is the tree with other places, in which the cloud is changed.
use Rattle.std.specs.Prelude.{◌≡◌, ℕ, ◌+◌, ◌-◌, ◌==◌, nat_lt, Bool, true, false, cond, ◌&&◌, List, [], ◌∷◌, ◌++◌, length, drop, codes, replicate, slice_index_or, Option, Some, None}
use Rattle.std.specs.List.{cons_option}
use Rattle.std.specs.Str.{bytes_eq}
use Rattle.std.proofs.Common.{refl, sym, ap, ◌∙◌}
use Rattle.std.proofs.lemmas.Slice.Eq.{bytes_eq-Decides}
use Rattle.e57_pieces.specs.declared.piece.Attr.{Attr}
use Rattle.e57_elements.specs.Tree.{Element, element, Elements, none, more, preorder_all}
use Rattle.e57_nodes.specs.declared.ElementType.{ElementType}
use Rattle.e57_nodes.specs.declared.ElementType.TheVariants as element_type
use Rattle.e57_nodes.specs.Facts.{type_in, Facts, facts_of}
use Rattle.e57_nodes.specs.Shape.{Shapes, shape_of, shapes_of}
use Rattle.e57_nodes.specs.Places.{has_section, is_cloud_or_blob, place_name, stated_place, places_in, with_value, with_places, with_places_all, without_places}
use Rattle.e57_nodes.specs.Typed.{is_structure}
use Rattle.e57_nodes.proofs.Laws.Places.{places_in_all, type_in-with_place}
use Rattle.e57_plain.specs.Pruned.{pruned_all, with_prototype, is_cloud_type, own_cloud, clouds_in, clouds_in_all, count_name, with_cloud, with_cloud_all}
use Rattle.e57_plain.proofs.Laws.Typing.{called, NoSection, PrototypeRule, VectorRule, IsTyped, AreTyped}
use Rattle.e57_plain.proofs.Laws.Pruned.{facts-type, no-places, stays, pruned-typed_all}
use Rattle.e57_plain.proofs.Laws.WithCloud.{counted_attrs, counted-section, counted-stated, places-more}

-- ---- two attributes

with_value-none : (name value : List ℕ) → with_value name value [] ≡ []
unfolding with_value
with_value-none name value = refl

with_value-one : (name value : List ℕ) (attr : Attr) (attrs : List Attr) (b : Bool) → bytes_eq attr.name name ≡ b
    → with_value name value (attr ∷ attrs) ≡ cond b (record { name = attr.name; value = value } ∷ attrs) (attr ∷ with_value name value attrs)
unfolding with_value
with_value-one name value attr attrs b e = ap (λ (c : Bool). cond c (record { name = attr.name; value = value } ∷ attrs) (attr ∷ with_value name value attrs)) e

-- values of different names are put in either order
values-apart : (name value other new : List ℕ) (attrs : List Attr) → bytes_eq name other ≡ false → with_value name value (with_value other new attrs) ≡ with_value other new (with_value name value attrs)
values-apart name value other new [] apart = rw (with_value-none other new, with_value-none name value, with_value-none other new) refl
values-apart name value other new (attr ∷ attrs) apart = by_tests (values-apart name value other new attrs apart) (bytes_eq attr.name name) refl (bytes_eq attr.name other) refl where
  by_tests : with_value name value (with_value other new attrs) ≡ with_value other new (with_value name value attrs) → (b : Bool) → bytes_eq attr.name name ≡ b → (c : Bool) → bytes_eq attr.name other ≡ c
      → with_value name value (with_value other new (attr ∷ attrs)) ≡ with_value other new (with_value name value (attr ∷ attrs))
  by_tests later true e true f =
      let same : attr.name ≡ name = (bytes_eq-Decides attr.name name).0 e in
      let both : bytes_eq name other ≡ true = ap (λ (x : List ℕ). bytes_eq x other) (sym same) ∙ f in
      absurd cc
  by_tests later true e false f =
      ap (with_value name value) (with_value-one other new attr attrs false f) ∙ with_value-one name value attr (with_value other new attrs) true e
      ∙ sym (ap (with_value other new) (with_value-one name value attr attrs true e) ∙ with_value-one other new (record { name = attr.name; value = value }) attrs false f)
  by_tests later false e true f =
      ap (with_value name value) (with_value-one other new attr attrs true f) ∙ with_value-one name value (record { name = attr.name; value = new }) attrs false e
      ∙ sym (ap (with_value other new) (with_value-one name value attr attrs false e) ∙ with_value-one other new attr (with_value name value attrs) true f)
  by_tests later false e false f =
      ap (with_value name value) (with_value-one other new attr attrs false f) ∙ with_value-one name value attr (with_value other new attrs) false e
      ∙ ap (λ (xs : List Attr). attr ∷ xs) later
      ∙ sym (ap (with_value other new) (with_value-one name value attr attrs false e) ∙ with_value-one other new attr (with_value name value attrs) false f)

-- ---- as many clouds

mutual
  clouds-placed : (texts : List (List ℕ)) (e : Element) → clouds_in (with_places texts e) ≡ clouds_in e
  clouds-placed texts (element name attrs text children) = by_test (clouds-placed_all (drop 1 texts) children) (clouds-placed_all texts children) (is_cloud_or_blob attrs) where
    by_test : clouds_in_all (with_places_all (drop 1 texts) children) ≡ clouds_in_all children → clouds_in_all (with_places_all texts children) ≡ clouds_in_all children → (b : Bool)
        → clouds_in (cond b (element name (with_value place_name (slice_index_or texts 0 []) attrs) text (with_places_all (drop 1 texts) children)) (element name attrs text (with_places_all texts children))) ≡ own_cloud attrs + clouds_in_all children
    by_test behind below true =
        ap (λ (t : Option ElementType). cond (is_cloud_type t) 1 0 + clouds_in_all (with_places_all (drop 1 texts) children)) (type_in-with_place (slice_index_or texts 0 []) attrs) ∙ ap (λ k. own_cloud attrs + k) behind
    by_test behind below false = ap (λ k. own_cloud attrs + k) below

  clouds-placed_all : (texts : List (List ℕ)) (es : Elements) → clouds_in_all (with_places_all texts es) ≡ clouds_in_all es
  clouds-placed_all texts none = refl
  clouds-placed_all texts (more e es) =
      ap (λ k. k + clouds_in_all (with_places_all (drop (length (places_in e)) texts) es)) (clouds-placed texts e) ∙ ap (λ k. clouds_in e + k) (clouds-placed_all (drop (length (places_in e)) texts) es)

-- ---- elements that are changed in some way

-- They state the same places, and other places are put before or after the change.
record KeepPlaces (change : Elements → Elements) (es : Elements) : Type 0 where
  places : places_in_all (change es) ≡ places_in_all es
  either : (texts : List (List ℕ)) → with_places_all texts (change es) ≡ change (with_places_all texts es)

record KeepsPlaces (change : Element → Element) (e : Element) : Type 0 where
  places : places_in (change e) ≡ places_in e
  either : (texts : List (List ℕ)) → with_places texts (change e) ≡ change (with_places texts e)

-- ---- the prototype

structure-section : (t : Option ElementType) → is_structure t ≡ true → has_section t ≡ false
structure-section None is = refl
structure-section (Some element_type.Structure) is = refl
structure-section (Some element_type.Vector) is = refl
structure-section (Some element_type.CompressedVector) is = absurd cc
structure-section (Some element_type.Integer) is = refl
structure-section (Some element_type.ScaledInteger) is = refl
structure-section (Some element_type.Float) is = refl
structure-section (Some element_type.String) is = refl
structure-section (Some element_type.Blob) is = absurd cc

-- an element that is no prototype stays one with other places
still-other : (keep : List Bool) (texts : List (List ℕ)) (name : List ℕ) (attrs : List Attr) (text : List ℕ) (children rest : Elements) → bytes_eq name (codes "prototype") ≡ false
    → with_prototype keep (more (with_places texts (element name attrs text children)) rest) ≡ more (with_places texts (element name attrs text children)) (with_prototype keep rest)
still-other keep texts name attrs text children rest e = by_test (is_cloud_or_blob attrs) where
  other : (ys : List Attr) (cs : Elements) → with_prototype keep (more (element name ys text cs) rest) ≡ more (element name ys text cs) (with_prototype keep rest)
  other ys cs = ap (λ (b : Bool). cond b (more (element name ys text (pruned_all keep cs)) rest) (more (element name ys text cs) (with_prototype keep rest))) e

  by_test : (b : Bool)
      → with_prototype keep (more (cond b (element name (with_value place_name (slice_index_or texts 0 []) attrs) text (with_places_all (drop 1 texts) children)) (element name attrs text (with_places_all texts children))) rest)
      ≡ more (cond b (element name (with_value place_name (slice_index_or texts 0 []) attrs) text (with_places_all (drop 1 texts) children)) (element name attrs text (with_places_all texts children))) (with_prototype keep rest)
  by_test true = other (with_value place_name (slice_index_or texts 0 []) attrs) (with_places_all (drop 1 texts) children)
  by_test false = other attrs (with_places_all texts children)

prototype-placed : (keep : List Bool) (es : Elements) → AreTyped (shapes_of es) → PrototypeRule (called (codes "prototype") (shapes_of es)) → KeepPlaces (with_prototype keep) es
unfolding facts_of
prototype-placed keep none are rule = absurd rule
prototype-placed keep (more (element name attrs text children) es) are rule = by_test (λ r. prototype-placed keep es are.1 r) (bytes_eq name (codes "prototype")) refl rule where
  p : Element
  p = element name attrs text children

  x : Element
  x = element name attrs text (pruned_all keep children)

  by_test : (PrototypeRule (called (codes "prototype") (shapes_of es)) → KeepPlaces (with_prototype keep) es) → (b : Bool) → bytes_eq name (codes "prototype") ≡ b
      → PrototypeRule (cond b (Some (shape_of p)) (called (codes "prototype") (shapes_of es))) → KeepPlaces (with_prototype keep) (more p es)
  by_test later true e rule =
      let bare = structure-section (facts_of name attrs text).element_type rule.is_structure in
      let was : NoSection (shape_of p) = (bare, rule.no_section) in
      let is : NoSection (shape_of x) = (bare, (pruned-typed_all keep children are.0.1 rule.no_section).1) in
      let old = no-places p was in
      let new = no-places x is in
      let changed : with_prototype keep (more p es) ≡ more x es = ap (λ (b : Bool). cond b (more x es) (more p (with_prototype keep es))) e in
      record {
        places = ap places_in_all changed ∙ places-more x es ∙ ap (λ (qs : List ℕ). qs ++ places_in_all es) (new ∙ sym old) ∙ sym (places-more p es);
        either = λ texts.
            let behind = with_places_all texts es in
            ap (with_places_all texts) changed
            ∙ ap (λ (y : Element). more y (with_places_all (drop (length (places_in x)) texts) es)) (stays texts x is)
            ∙ ap (λ (qs : List ℕ). more x (with_places_all (drop (length qs) texts) es)) new
            ∙ sym (ap (λ (y : Element). with_prototype keep (more y (with_places_all (drop (length (places_in p)) texts) es))) (stays texts p was)
            ∙ ap (λ (qs : List ℕ). with_prototype keep (more p (with_places_all (drop (length qs) texts) es))) old
            ∙ ap (λ (b : Bool). cond b (more x behind) (more p (with_prototype keep behind))) e);
      }
  by_test later false e rule =
      let rest = later rule in
      let changed : with_prototype keep (more p es) ≡ more p (with_prototype keep es) = ap (λ (b : Bool). cond b (more x es) (more p (with_prototype keep es))) e in
      record {
        places = ap places_in_all changed ∙ places-more p (with_prototype keep es) ∙ ap (λ (qs : List ℕ). places_in p ++ qs) rest.places ∙ sym (places-more p es);
        either = λ texts.
            let left = drop (length (places_in p)) texts in
            ap (with_places_all texts) changed
            ∙ ap (λ (ys : Elements). more (with_places texts p) ys) (rest.either left)
            ∙ sym (still-other keep texts name attrs text children (with_places_all left es) e);
      }

-- ---- one node

-- the node with its cloud changed, where it is a cloud (a) and the first one is meant (b)
abbrev node_by : ℕ → List Bool → ℕ → List ℕ → List Attr → List ℕ → Elements → Bool → Bool → Element
node_by k keep count name attrs text children a b =
    cond (a && b) (element name (counted_attrs count attrs) text (with_prototype keep children)) (element name attrs text (with_cloud_all (k - cond a 1 0) keep count children))

stated-size : (name : List ℕ) (attrs : List Attr) (text : List ℕ) (size other : ℕ) → stated_place (record { name = name; attrs = attrs; text = text; size = other }) ≡ stated_place (record { name = name; attrs = attrs; text = text; size = size })
unfolding stated_place
stated-size name attrs text size other = refl

section-of : (t : Option ElementType) → is_cloud_type t ≡ true → has_section t ≡ true
section-of None is = absurd cc
section-of (Some element_type.Structure) is = absurd cc
section-of (Some element_type.Vector) is = absurd cc
section-of (Some element_type.CompressedVector) is = refl
section-of (Some element_type.Integer) is = absurd cc
section-of (Some element_type.ScaledInteger) is = absurd cc
section-of (Some element_type.Float) is = absurd cc
section-of (Some element_type.String) is = absurd cc
section-of (Some element_type.Blob) is = absurd cc

vector-rule : (t : Option ElementType) (facts : Facts) (below : Shapes) → is_cloud_type t ≡ true → VectorRule t facts below → PrototypeRule (called (codes "prototype") below)
vector-rule None facts below is rule = absurd cc
vector-rule (Some element_type.Structure) facts below is rule = absurd cc
vector-rule (Some element_type.Vector) facts below is rule = absurd cc
vector-rule (Some element_type.CompressedVector) facts below is rule = rule.prototype
vector-rule (Some element_type.Integer) facts below is rule = absurd cc
vector-rule (Some element_type.ScaledInteger) facts below is rule = absurd cc
vector-rule (Some element_type.Float) facts below is rule = absurd cc
vector-rule (Some element_type.String) facts below is rule = absurd cc
vector-rule (Some element_type.Blob) facts below is rule = absurd cc

module _ (k : ℕ) (keep : List Bool) (count : ℕ) (name : List ℕ) (attrs : List Attr) (text : List ℕ) (children : Elements) where
  abbrev first_value : List (List ℕ) → List Attr
  first_value texts = with_value place_name (slice_index_or texts 0 []) attrs

  -- the changed node, with places put first
  after-places : (texts : List (List ℕ)) (c a b : Bool) → is_cloud_or_blob attrs ≡ c → is_cloud_type (type_in attrs) ≡ a → (k == 0) ≡ b
      → with_cloud k keep count (with_places texts (element name attrs text children))
      ≡ cond c (node_by k keep count name (first_value texts) text (with_places_all (drop 1 texts) children) a b) (node_by k keep count name attrs text (with_places_all texts children) a b)
  after-places texts true a b item cloud first =
      let inner = with_places_all (drop 1 texts) children in
      ap (λ (c : Bool). with_cloud k keep count (cond c (element name (first_value texts) text inner) (element name attrs text (with_places_all texts children)))) item
      ∙ ap (λ (t : Option ElementType). node_by k keep count name (first_value texts) text inner (is_cloud_type t) (k == 0)) (type_in-with_place (slice_index_or texts 0 []) attrs)
      ∙ ap (λ (x : Bool). node_by k keep count name (first_value texts) text inner x (k == 0)) cloud
      ∙ ap (λ (x : Bool). node_by k keep count name (first_value texts) text inner a x) first
  after-places texts false a b item cloud first =
      let inner = with_places_all texts children in
      ap (λ (c : Bool). with_cloud k keep count (cond c (element name (first_value texts) text (with_places_all (drop 1 texts) children)) (element name attrs text inner))) item
      ∙ ap (λ (x : Bool). node_by k keep count name attrs text inner x (k == 0)) cloud
      ∙ ap (λ (x : Bool). node_by k keep count name attrs text inner a x) first

  -- another node, whose children are changed
  other-places : (j : ℕ) → KeepPlaces (with_cloud_all j keep count) children → places_in (element name attrs text (with_cloud_all j keep count children)) ≡ places_in (element name attrs text children)
  other-places j below =
      ap (λ (found : Option ℕ). cons_option found (places_in_all (with_cloud_all j keep count children))) (stated-size name attrs text (length (preorder_all children) + 1) (length (preorder_all (with_cloud_all j keep count children)) + 1))
      ∙ ap (λ (qs : List ℕ). cons_option (stated_place (record { name = name; attrs = attrs; text = text; size = length (preorder_all children) + 1 })) qs) below.places

  other-either : (j : ℕ) (texts : List (List ℕ)) (c : Bool) → is_cloud_or_blob attrs ≡ c → KeepPlaces (with_cloud_all j keep count) children
      → with_places texts (element name attrs text (with_cloud_all j keep count children))
      ≡ cond c (element name (first_value texts) text (with_cloud_all j keep count (with_places_all (drop 1 texts) children))) (element name attrs text (with_cloud_all j keep count (with_places_all texts children)))
  other-either j texts true item below =
      ap (λ (c : Bool). cond c (element name (first_value texts) text (with_places_all (drop 1 texts) (with_cloud_all j keep count children))) (element name attrs text (with_places_all texts (with_cloud_all j keep count children)))) item
      ∙ ap (λ (xs : Elements). element name (first_value texts) text xs) (below.either (drop 1 texts))
  other-either j texts false item below =
      ap (λ (c : Bool). cond c (element name (first_value texts) text (with_places_all (drop 1 texts) (with_cloud_all j keep count children))) (element name attrs text (with_places_all texts (with_cloud_all j keep count children)))) item
      ∙ ap (λ (xs : Elements). element name attrs text xs) (below.either texts)

  -- the cloud that is changed
  cloud-places : KeepPlaces (with_prototype keep) children → places_in (element name (counted_attrs count attrs) text (with_prototype keep children)) ≡ places_in (element name attrs text children)
  cloud-places below =
      ap (λ (found : Option ℕ). cons_option found (places_in_all (with_prototype keep children)))
      (counted-stated count name attrs text (length (preorder_all children) + 1) (length (preorder_all (with_prototype keep children)) + 1))
      ∙ ap (λ (qs : List ℕ). cons_option (stated_place (record { name = name; attrs = attrs; text = text; size = length (preorder_all children) + 1 })) qs) below.places

  cloud-either : (texts : List (List ℕ)) → is_cloud_or_blob attrs ≡ true → KeepPlaces (with_prototype keep) children
      → with_places texts (element name (counted_attrs count attrs) text (with_prototype keep children)) ≡ element name (counted_attrs count (first_value texts)) text (with_prototype keep (with_places_all (drop 1 texts) children))
  cloud-either texts item below =
      let value = slice_index_or texts 0 [] in
      ap (λ (c : Bool). cond c (element name (with_value place_name value (counted_attrs count attrs)) text (with_places_all (drop 1 texts) (with_prototype keep children))) (element name (counted_attrs count attrs) text (with_places_all texts (with_prototype keep children)))) (counted-section count attrs ∙ item)
      ∙ ap (λ (xs : Elements). element name (with_value place_name value (counted_attrs count attrs)) text xs) (below.either (drop 1 texts))
      ∙ ap (λ (ys : List Attr). element name ys text (with_prototype keep (with_places_all (drop 1 texts) children))) (values-apart place_name value count_name _ attrs refl)

  node-placed : (a b : Bool) → is_cloud_type (type_in attrs) ≡ a → (k == 0) ≡ b → (a ≡ true → KeepPlaces (with_prototype keep) children) → KeepPlaces (with_cloud_all (k - cond a 1 0) keep count) children
      → KeepsPlaces (with_cloud k keep count) (element name attrs text children)
  node-placed true true cloud first prototype below =
      let item : is_cloud_or_blob attrs ≡ true = section-of (type_in attrs) cloud in
      let changed : with_cloud k keep count (element name attrs text children) ≡ node_by k keep count name attrs text children true true =
      ap (λ (x : Bool). node_by k keep count name attrs text children x (k == 0)) cloud ∙ ap (λ (x : Bool). node_by k keep count name attrs text children true x) first in
      record {
        places = ap places_in changed ∙ cloud-places (prototype refl);
        either = λ texts. ap (with_places texts) changed ∙ cloud-either texts item (prototype refl) ∙ sym (after-places texts true true true item cloud first);
      }
  node-placed true false cloud first prototype below =
      let item : is_cloud_or_blob attrs ≡ true = section-of (type_in attrs) cloud in
      let changed : with_cloud k keep count (element name attrs text children) ≡ node_by k keep count name attrs text children true false =
      ap (λ (x : Bool). node_by k keep count name attrs text children x (k == 0)) cloud ∙ ap (λ (x : Bool). node_by k keep count name attrs text children true x) first in
      record {
        places = ap places_in changed ∙ other-places (k - 1) below;
        either = λ texts. ap (with_places texts) changed ∙ other-either (k - 1) texts true item below ∙ sym (after-places texts true true false item cloud first);
      }
  node-placed false b cloud first prototype below =
      let changed : with_cloud k keep count (element name attrs text children) ≡ node_by k keep count name attrs text children false b =
      ap (λ (x : Bool). node_by k keep count name attrs text children x (k == 0)) cloud ∙ ap (λ (x : Bool). node_by k keep count name attrs text children false x) first in
      record {
        places = ap places_in changed ∙ other-places (k - 0) below;
        either = λ texts. ap (with_places texts) changed ∙ by_item texts (is_cloud_or_blob attrs) refl ∙ sym (after-places texts (is_cloud_or_blob attrs) false b refl cloud first);
      }
    where
      by_item : (texts : List (List ℕ)) (c : Bool) → is_cloud_or_blob attrs ≡ c
          → with_places texts (element name attrs text (with_cloud_all (k - 0) keep count children))
          ≡ cond c (node_by k keep count name (first_value texts) text (with_places_all (drop 1 texts) children) false b) (node_by k keep count name attrs text (with_places_all texts children) false b)
      by_item texts c item = other-either (k - 0) texts c item below

-- ---- the tree

mutual
  cloud-placed : (k : ℕ) (keep : List Bool) (count : ℕ) (root : Bool) (e : Element) → IsTyped root (shape_of e) → KeepsPlaces (with_cloud k keep count) e
  cloud-placed k keep count root (element name attrs text children) is =
      node-placed k keep count name attrs text children (is_cloud_type (type_in attrs)) (k == 0) refl refl
      (λ cloud. prototype-placed keep children is.1 (vector-rule (facts_of name attrs text).element_type (facts_of name attrs text) (shapes_of children) (ap is_cloud_type (facts-type name attrs text) ∙ cloud) is.0.vector))
      (cloud-placed_all (k - own_cloud attrs) keep count children is.1)

  cloud-placed_all : (k : ℕ) (keep : List Bool) (count : ℕ) (es : Elements) → AreTyped (shapes_of es) → KeepPlaces (with_cloud_all k keep count) es
  cloud-placed_all k keep count none are = record { places = refl; either = λ texts. refl }
  cloud-placed_all k keep count (more e es) are = by_test (cloud-placed k keep count false e are.0) (cloud-placed_all (k - clouds_in e) keep count es are.1) (nat_lt k (clouds_in e)) refl where
    by_test : KeepsPlaces (with_cloud k keep count) e → KeepPlaces (with_cloud_all (k - clouds_in e) keep count) es → (b : Bool) → nat_lt k (clouds_in e) ≡ b → KeepPlaces (with_cloud_all k keep count) (more e es)
    by_test here later true below =
        let x = with_cloud k keep count e in
        let changed : with_cloud_all k keep count (more e es) ≡ more x es = ap (λ (b : Bool). cond b (more x es) (more e (with_cloud_all (k - clouds_in e) keep count es))) below in
        record {
          places = ap places_in_all changed ∙ places-more x es ∙ ap (λ (qs : List ℕ). qs ++ places_in_all es) here.places ∙ sym (places-more e es);
          either = λ texts.
              let left = with_places_all (drop (length (places_in e)) texts) es in
              let y = with_places texts e in
              ap (with_places_all texts) changed
              ∙ ap (λ (qs : List ℕ). more (with_places texts x) (with_places_all (drop (length qs) texts) es)) here.places
              ∙ ap (λ (z : Element). more z left) (here.either texts)
              ∙ sym (ap (λ n. cond (nat_lt k n) (more (with_cloud k keep count y) left) (more y (with_cloud_all (k - n) keep count left))) (clouds-placed texts e)
              ∙ ap (λ (b : Bool). cond b (more (with_cloud k keep count y) left) (more y (with_cloud_all (k - clouds_in e) keep count left))) below);
        }
    by_test here later false below =
        let xs = with_cloud_all (k - clouds_in e) keep count es in
        let changed : with_cloud_all k keep count (more e es) ≡ more e xs = ap (λ (b : Bool). cond b (more (with_cloud k keep count e) es) (more e xs)) below in
        record {
          places = ap places_in_all changed ∙ places-more e xs ∙ ap (λ (qs : List ℕ). places_in e ++ qs) later.places ∙ sym (places-more e es);
          either = λ texts.
              let left = with_places_all (drop (length (places_in e)) texts) es in
              let y = with_places texts e in
              ap (with_places_all texts) changed
              ∙ ap (λ (ys : Elements). more y ys) (later.either (drop (length (places_in e)) texts))
              ∙ sym (ap (λ n. cond (nat_lt k n) (more (with_cloud k keep count y) left) (more y (with_cloud_all (k - n) keep count left))) (clouds-placed texts e)
              ∙ ap (λ (b : Bool). cond b (more (with_cloud k keep count y) left) (more y (with_cloud_all (k - clouds_in e) keep count left))) below);
        }

-- Without its places the changed tree is the tree without its places, changed.
pub without-cloud : (k : ℕ) (keep : List Bool) (count : ℕ) (e : Element) → IsTyped true (shape_of e) → without_places (with_cloud k keep count e) ≡ with_cloud k keep count (without_places e)
without-cloud k keep count e is =
    let kept = cloud-placed k keep count true e is in
    ap (λ (qs : List ℕ). with_places (replicate (length qs) (codes "0")) (with_cloud k keep count e)) kept.places ∙ kept.either (replicate (length (places_in e)) (codes "0"))
