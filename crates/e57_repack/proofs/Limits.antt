-- A tree with other limits, and the same tree without its places.
use Rattle.std.specs.Prelude.{codes, slice_index_or, is_some, option_and_then, length, drop, replicate}
use Rattle.std.proofs.Common.{◌≡◌, ℕ, ◌+◌, ℤ, Bool, true, false, cond, List, [], ◌∷◌, ◌++◌, Option, Some, None, inl, inr, refl, sym, ap, subst, ◌∙◌}
use Rattle.std.specs.Fmt.{signed_decimal}
use Rattle.std.specs.Str.{bytes_eq}
use Rattle.std.proofs.lemmas.Slice.Eq.{bytes_eq-Decides}
use Rattle.e57_pieces.specs.declared.piece.Attr.{Attr}
use Rattle.e57_elements.specs.declared.tree.RawNode.{RawNode}
use Rattle.e57_elements.specs.Tree.{Element, element, Elements, none, more, preorder}
use Rattle.e57_layout.specs.Values.{ItemKind, integers}
use Rattle.e57_layout.specs.declared.field.Field.{Field}
use Rattle.e57_nodes.specs.Facts.{value_of, type_in, type_named}
use Rattle.e57_nodes.specs.Items.{StatedItem, stated_cloud, stated_blob, stated_items}
use Rattle.e57_nodes.specs.Limits.{limited, has_room, with_value_or_new, with_limits, with_limits_all}
use Rattle.e57_nodes.specs.Places.{has_section, is_cloud_or_blob, place_name, places_in, with_value, with_places, with_places_all, without_places}
use Rattle.e57_nodes.specs.Shape.{shape_of, node_count}
use Rattle.e57_nodes.proofs.Laws.Places.{preorder-with_places, length-placed_nodes}
use Rattle.e57_nodes.proofs.Laws.Values.{value_of-with_other, length-with_value}
use Rattle.e57_plain.specs.Valid.{kinds_in}
use Rattle.e57_plain.proofs.Laws.Limits.{attr_of, minimum_name, maximum_name, both_set, both-other, AreRanges, with_limits-shape}
use Rattle.e57_plain.proofs.Laws.LimitedTrees.{limits-places}
use Rattle.e57_plain.proofs.Laws.Narrowed.{IsLimitedKind, AreLimitedFields, AreLimitedItems, limited-items}
use Rattle.e57_tree.proofs.Laws.Flat.{node_count-shape_of}
use Rattle.e57_copy.specs.Items.{IsAlike, AreAlike}
use Rattle.e57_repack.specs.Copying.{AreAlikeItems}
use Rattle.e57_repack.proofs.Rewriting.{alike-kind}

-- ---- two attributes that are replaced

set-none : (name value : List ℕ) → with_value name value [] ≡ []
unfolding with_value
set-none name value = refl

set-here : (name value : List ℕ) (attr : Attr) (attrs : List Attr) → bytes_eq attr.name name ≡ true → with_value name value (attr ∷ attrs) ≡ attr_of attr.name value ∷ attrs
unfolding with_value
set-here name value attr attrs e = ap (λ (b : Bool). cond b (attr_of attr.name value ∷ attrs) (attr ∷ with_value name value attrs)) e

set-later : (name value : List ℕ) (attr : Attr) (attrs : List Attr) → bytes_eq attr.name name ≡ false → with_value name value (attr ∷ attrs) ≡ attr ∷ with_value name value attrs
unfolding with_value
set-later name value attr attrs e = ap (λ (b : Bool). cond b (attr_of attr.name value ∷ attrs) (attr ∷ with_value name value attrs)) e

pub set-both : (a x b y : List ℕ) (attrs : List Attr) → bytes_eq a b ≡ false → with_value a x (with_value b y attrs) ≡ with_value b y (with_value a x attrs)
set-both a x b y [] apart = ap (with_value a x) (set-none b y) ∙ set-none a x ∙ sym (ap (with_value b y) (set-none a x) ∙ set-none b y)
set-both a x b y (attr ∷ attrs) apart = by_tests (set-both a x b y attrs apart) (bytes_eq attr.name a) refl (bytes_eq attr.name b) refl where
  by_tests : with_value a x (with_value b y attrs) ≡ with_value b y (with_value a x attrs) → (p : Bool) → bytes_eq attr.name a ≡ p → (q : Bool) → bytes_eq attr.name b ≡ q
      → with_value a x (with_value b y (attr ∷ attrs)) ≡ with_value b y (with_value a x (attr ∷ attrs))
  by_tests ih true e true f =
      let same : attr.name ≡ a = (bytes_eq-Decides attr.name a).0 e in
      let g : bytes_eq a b ≡ true = ap (λ n. bytes_eq n b) (sym same) ∙ f in
      absurd (cc)
  by_tests ih true e false f = rw (set-later b y attr attrs f, set-here a x attr (with_value b y attrs) e, set-here a x attr attrs e, set-later b y (attr_of attr.name x) attrs f) refl
  by_tests ih false e true f = rw (set-here b y attr attrs f, set-later a x (attr_of attr.name y) attrs e, set-later a x attr attrs e, set-here b y attr (with_value a x attrs) f) refl
  by_tests ih false e false f =
      rw (set-later b y attr attrs f, set-later a x attr (with_value b y attrs) e, set-later a x attr attrs e, set-later b y attr (with_value a x attrs) f)
      (ap (λ (rest : List Attr). attr ∷ rest) ih)

set-last : (a x : List ℕ) (attrs : List Attr) (last : Attr) → bytes_eq last.name a ≡ false → with_value a x (attrs ++ last ∷ []) ≡ with_value a x attrs ++ last ∷ []
set-last a x [] last apart = set-later a x last [] apart ∙ ap (λ (rest : List Attr). last ∷ rest) (set-none a x) ∙ sym (ap (λ (xs : List Attr). xs ++ last ∷ []) (set-none a x))
set-last a x (attr ∷ attrs) last apart = by_test (set-last a x attrs last apart) (bytes_eq attr.name a) refl where
  by_test : with_value a x (attrs ++ last ∷ []) ≡ with_value a x attrs ++ last ∷ [] → (p : Bool) → bytes_eq attr.name a ≡ p → with_value a x (attr ∷ (attrs ++ last ∷ [])) ≡ with_value a x (attr ∷ attrs) ++ last ∷ []
  by_test ih true e = set-here a x attr (attrs ++ last ∷ []) e ∙ sym (ap (λ (xs : List Attr). xs ++ last ∷ []) (set-here a x attr attrs e))
  by_test ih false e = set-later a x attr (attrs ++ last ∷ []) e ∙ ap (λ (rest : List Attr). attr ∷ rest) ih ∙ sym (ap (λ (xs : List Attr). xs ++ last ∷ []) (set-later a x attr attrs e))

-- the place, and a limit
new-apart : (x b y : List ℕ) (attrs : List Attr) → bytes_eq place_name b ≡ false → bytes_eq b place_name ≡ false → with_value place_name x (with_value_or_new b y attrs) ≡ with_value_or_new b y (with_value place_name x attrs)
unfolding with_value_or_new
new-apart x b y attrs apart other =
    by_test (is_some (value_of b attrs)) ∙ sym (ap (λ (o : Option (List ℕ)). cond (is_some o) (with_value b y (with_value place_name x attrs)) (with_value place_name x attrs ++ attr_of b y ∷ [])) (value_of-with_other place_name x b attrs apart))
  where
    by_test : (p : Bool) → with_value place_name x (cond p (with_value b y attrs) (attrs ++ attr_of b y ∷ [])) ≡ cond p (with_value b y (with_value place_name x attrs)) (with_value place_name x attrs ++ attr_of b y ∷ [])
    by_test true = set-both place_name x b y attrs apart
    by_test false = set-last place_name x attrs (attr_of b y) other

room-same : (x : List ℕ) (attrs : List Attr) → has_room (with_value place_name x attrs) ≡ has_room attrs
unfolding has_room
room-same x attrs = rw (length-with_value place_name x attrs, value_of-with_other place_name x (codes "minimum") attrs refl, value_of-with_other place_name x (codes "maximum") attrs refl) refl

limited-placed : (x : List ℕ) (found : Option (ℤ × ℤ)) (attrs : List Attr) → with_value place_name x (limited found attrs) ≡ limited found (with_value place_name x attrs)
limited-placed x None attrs = refl
limited-placed x (Some range) attrs =
    by_room (has_room attrs) ∙ sym (ap (λ (b : Bool). cond b (both_set range (with_value place_name x attrs)) (with_value place_name x attrs)) (room-same x attrs))
  where
    by_room : (b : Bool) → with_value place_name x (cond b (both_set range attrs) attrs) ≡ cond b (both_set range (with_value place_name x attrs)) (with_value place_name x attrs)
    by_room true =
        new-apart x maximum_name (signed_decimal range.1) (with_value_or_new minimum_name (signed_decimal range.0) attrs) refl refl
        ∙ ap (with_value_or_new maximum_name (signed_decimal range.1)) (new-apart x minimum_name (signed_decimal range.0) attrs refl refl)
    by_room false = refl

limited-other : (found : Option (ℤ × ℤ)) (other : List ℕ) (attrs : List Attr) → bytes_eq minimum_name other ≡ false → bytes_eq maximum_name other ≡ false → value_of other (limited found attrs) ≡ value_of other attrs
limited-other None other attrs apart apart_too = refl
limited-other (Some range) other attrs apart apart_too = by_room (has_room attrs) where
  by_room : (b : Bool) → value_of other (cond b (both_set range attrs) attrs) ≡ value_of other attrs
  by_room true = both-other range other attrs apart apart_too
  by_room false = refl

limited-section : (found : Option (ℤ × ℤ)) (attrs : List Attr) → is_cloud_or_blob (limited found attrs) ≡ is_cloud_or_blob attrs
unfolding type_in
limited-section found attrs = ap (λ (v : Option (List ℕ)). has_section (option_and_then type_named v)) (limited-other found (codes "type") attrs refl refl)

-- ---- trees

placed-count : (texts : List (List ℕ)) (e : Element) → node_count (shape_of (with_places texts e)) ≡ node_count (shape_of e)
placed-count texts e =
    node_count-shape_of (with_places texts e)
    ∙ ap (λ (nodes : List RawNode). length nodes) (preorder-with_places texts e)
    ∙ length-placed_nodes texts (preorder e)
    ∙ sym (node_count-shape_of e)

mutual
  placed-limits : (texts : List (List ℕ)) (ranges : ℕ → Option (ℤ × ℤ)) (n : ℕ) (e : Element) → with_places texts (with_limits ranges n e) ≡ with_limits ranges n (with_places texts e)
  placed-limits texts ranges n (element name attrs text children) =
      by_test (placed-limits_all (drop 1 texts) ranges (n + 1) children) (placed-limits_all texts ranges (n + 1) children) (is_cloud_or_blob attrs) (is_cloud_or_blob (limited (ranges n) attrs)) (limited-section (ranges n) attrs)
    where
      value : List ℕ
      value = slice_index_or texts 0 []

      by_test : with_places_all (drop 1 texts) (with_limits_all ranges (n + 1) children) ≡ with_limits_all ranges (n + 1) (with_places_all (drop 1 texts) children)
          → with_places_all texts (with_limits_all ranges (n + 1) children) ≡ with_limits_all ranges (n + 1) (with_places_all texts children)
          → (a b : Bool) → b ≡ a
          → cond b (element name (with_value place_name value (limited (ranges n) attrs)) text (with_places_all (drop 1 texts) (with_limits_all ranges (n + 1) children)))
          (element name (limited (ranges n) attrs) text (with_places_all texts (with_limits_all ranges (n + 1) children)))
          ≡ with_limits ranges n (cond a (element name (with_value place_name value attrs) text (with_places_all (drop 1 texts) children)) (element name attrs text (with_places_all texts children)))
      by_test item other true true e =
          ap (λ (xs : List Attr). element name xs text (with_places_all (drop 1 texts) (with_limits_all ranges (n + 1) children))) (limited-placed value (ranges n) attrs)
          ∙ ap (λ (xs : Elements). element name (limited (ranges n) (with_value place_name value attrs)) text xs) item
      by_test item other true false e = absurd (cc)
      by_test item other false true e = absurd (cc)
      by_test item other false false e = ap (λ (xs : Elements). element name (limited (ranges n) attrs) text xs) other

  placed-limits_all : (texts : List (List ℕ)) (ranges : ℕ → Option (ℤ × ℤ)) (n : ℕ) (es : Elements) → with_places_all texts (with_limits_all ranges n es) ≡ with_limits_all ranges n (with_places_all texts es)
  placed-limits_all texts ranges n none = refl
  placed-limits_all texts ranges n (more e es) =
      ap (λ (x : Element). more x (with_places_all (drop (length (places_in (with_limits ranges n e))) texts) (with_limits_all ranges (n + node_count (shape_of e)) es))) (placed-limits texts ranges n e)
      ∙ ap (λ (qs : List ℕ). more (with_limits ranges n (with_places texts e)) (with_places_all (drop (length qs) texts) (with_limits_all ranges (n + node_count (shape_of e)) es))) (limits-places ranges n e)
      ∙ ap (λ (xs : Elements). more (with_limits ranges n (with_places texts e)) xs) (placed-limits_all (drop (length (places_in e)) texts) ranges (n + node_count (shape_of e)) es)
      ∙ ap (λ k. more (with_limits ranges n (with_places texts e)) (with_limits_all ranges (n + k) (with_places_all (drop (length (places_in e)) texts) es))) (sym (placed-count texts e))

-- limits and places are changed in any order
pub without-limits : (ranges : ℕ → Option (ℤ × ℤ)) (e : Element) → without_places (with_limits ranges 0 e) ≡ with_limits ranges 0 (without_places e)
without-limits ranges e =
    ap (λ (qs : List ℕ). with_places (replicate (length qs) (codes "0")) (with_limits ranges 0 e)) (limits-places ranges 0 e)
    ∙ placed-limits (replicate (length (places_in e)) (codes "0")) ranges 0 e

-- ---- the same limits

mutual
  pub limits-same : (ranges others : ℕ → Option (ℤ × ℤ)) (n : ℕ) (e : Element) → ((k : ℕ) → ranges k ≡ others k) → with_limits ranges n e ≡ with_limits others n e
  limits-same ranges others n (element name attrs text children) same =
      ap (λ (found : Option (ℤ × ℤ)). element name (limited found attrs) text (with_limits_all ranges (n + 1) children)) (same n)
      ∙ ap (λ (xs : Elements). element name (limited (others n) attrs) text xs) (limits-same_all ranges others (n + 1) children same)

  limits-same_all : (ranges others : ℕ → Option (ℤ × ℤ)) (n : ℕ) (es : Elements) → ((k : ℕ) → ranges k ≡ others k) → with_limits_all ranges n es ≡ with_limits_all others n es
  limits-same_all ranges others n none same = refl
  limits-same_all ranges others n (more e es) same =
      ap (λ (x : Element). more x (with_limits_all ranges (n + node_count (shape_of e)) es)) (limits-same ranges others n e same)
      ∙ ap (λ (xs : Elements). more (with_limits others n e) xs) (limits-same_all ranges others (n + node_count (shape_of e)) es same)

-- ---- its items are alike

alike-limited : (ranges : ℕ → Option (ℤ × ℤ)) (node : ℕ) (kind other : ItemKind) → AreRanges ranges → IsLimitedKind (ranges node) kind other → IsAlike kind other
alike-limited ranges node kind other ok (inl same) = subst (λ (k : ItemKind). IsAlike kind k) (sym same) (alike-kind kind)
alike-limited ranges node kind other ok (inr (range, is, low, high, was, now)) =
    subst (λ (k : ItemKind). IsAlike k other) (sym was) (subst (λ (k : ItemKind). IsAlike (integers low high) k) (sym (now (ok node range is))) tt)

alike-fields : (ranges : ℕ → Option (ℤ × ℤ)) (fields others : List Field) → AreRanges ranges → AreLimitedFields ranges fields others → AreAlike (kinds_in fields) (kinds_in others)
unfolding AreAlike
alike-fields ranges [] [] ok are = tt
alike-fields ranges [] (other ∷ others) ok are = absurd are
alike-fields ranges (field ∷ fields) [] ok are = absurd are
alike-fields ranges (field ∷ fields) (other ∷ others) ok are = (alike-limited ranges field.node _ _ ok are.1, alike-fields ranges fields others ok are.2)

alike-items : (ranges : ℕ → Option (ℤ × ℤ)) (items others : List StatedItem) → AreRanges ranges → AreLimitedItems ranges items others → AreAlikeItems items others
alike-items ranges [] [] ok are = tt
alike-items ranges [] (other ∷ others) ok are = absurd are
alike-items ranges (item ∷ items) [] ok are = absurd are
alike-items ranges (stated_cloud n count fields ∷ items) (stated_cloud m many rows ∷ others) ok are = ((sym are.0.1, alike-fields ranges fields rows ok are.0.2), alike-items ranges items others ok are.1)
alike-items ranges (stated_cloud n count fields ∷ items) (stated_blob m size ∷ others) ok are = absurd are.0
alike-items ranges (stated_blob n size ∷ items) (stated_cloud m many rows ∷ others) ok are = absurd are.0
alike-items ranges (stated_blob n size ∷ items) (stated_blob m large ∷ others) ok are = (sym are.0.1, alike-items ranges items others ok are.1)

pub alike-tree : (ranges : ℕ → Option (ℤ × ℤ)) (e : Element) → AreRanges ranges → AreAlikeItems (stated_items (shape_of e)) (stated_items (shape_of (with_limits ranges 0 e)))
alike-tree ranges e ok =
    alike-items ranges (stated_items (shape_of e)) (stated_items (shape_of (with_limits ranges 0 e))) ok
    (limited-items ranges (shape_of e) (shape_of (with_limits ranges 0 e)) (with_limits-shape ranges 0 e))
