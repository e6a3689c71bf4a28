-- A lawful tree is lawful with other limits, has the same places, and the limits that were set twice are those that were set once.
use Rattle.std.specs.Prelude.{◌≡◌, ℕ, suc, ◌+◌, ◌^◌, ◌<◌, ◌≤◌, ℤ, pos, negsuc, Bool, true, false, cond, not, ◌&&◌, ◌||◌, List, [], ◌∷◌, ◌++◌, length, drop, max, replicate, codes, slice_index_or, decimal, Option, Some, None, is_some, option_map, option_and_then, unwrap_or}
use Rattle.std.specs.Fmt.{signed_decimal}
use Rattle.std.specs.Int.Signed.{mag}
use Rattle.std.specs.List.{list_any, AllByRecursion, cons_option}
use Rattle.std.specs.Str.{bytes_eq, encode_utf8_all}
use Rattle.std.proofs.lemmas.Str.{encode_ascii}
use Rattle.std.proofs.Common.{refl, sym, ap, subst, ◌∙◌, arith, lit<, length-append}
use Rattle.std.proofs.lemmas.List.Elements.{filter_map-append}
use Rattle.e57_pieces.specs.declared.piece.Attr.{Attr}
use Rattle.e57_pieces.specs.Grammar.{differ}
use Rattle.e57_pieces.specs.Characters.{is_character, AreCharacters}
use Rattle.e57_pieces.specs.Words.{begins_name, goes_on_name}
use Rattle.e57_pieces.proofs.Laws.Characters.{AreCharacters-append}
use Rattle.e57_elements.specs.declared.tree.RawNode.{RawNode}
use Rattle.e57_elements.specs.Tree.{Element, element, Elements, none, more, preorder, preorder_all, depth, depth_all}
use Rattle.e57_elements.specs.Nested.{only_space}
use Rattle.e57_elements.specs.Lawful.{IsLawfulAttr, IsLawfulNode, IsLawful}
use Rattle.e57_nodes.specs.Facts.{value_of, unsigned_in, type_named, type_in}
use Rattle.e57_nodes.specs.Limits.{with_value_or_new, has_room, limited, with_limits, with_limits_all}
use Rattle.e57_nodes.specs.Places.{has_section, is_cloud_or_blob, place_name, stated_place, places_in, with_value, with_places, with_places_all, without_places}
use Rattle.e57_nodes.specs.Shape.{shape_of, shapes_of, node_count, node_count_all}
use Rattle.e57_nodes.proofs.Laws.Decimals.{decimal_writes, AreCharacters-digits}
use Rattle.e57_nodes.proofs.Laws.Places.{places_in_all}
use Rattle.e57_nodes.proofs.Laws.Values.{value_of-with_value, all-with_value, differ-with_value}
use Rattle.e57_plain.proofs.Laws.Limits.{attr_of, put-first, set-there, set-new, minimum_name, maximum_name, both_set, both-minimum, both-maximum, both-other, room-keeps, room-few, IsRange, AreRanges}
use Rattle.e57_base.proofs.Options.{absent_is_none}

-- ---- attributes that are lawful

-- bytes below 128 that are characters
abbrev IsAscii : ℕ → Type 0
IsAscii b = (b < 128) × (is_character b ≡ true)

ascii : (bytes : List ℕ) → AllByRecursion IsAscii bytes → AreCharacters bytes
ascii bytes are = record { numbers = bytes; each = each bytes are; spelled = spelled bytes are }
  where
    each : (bs : List ℕ) → AllByRecursion IsAscii bs → AllByRecursion (λ c. is_character c ≡ true) bs
    each [] h = tt
    each (b ∷ bs) h = (h.0.1, each bs h.1)

    spelled : (bs : List ℕ) → AllByRecursion IsAscii bs → encode_utf8_all bs ≡ bs
    spelled [] h = refl
    spelled (b ∷ bs) h = let small : b < 128 = h.0.0 in ap (λ front. front ++ encode_utf8_all bs) (encode_ascii b small) ∙ ap (λ rest. b ∷ rest) (spelled bs h.1)

signed_characters : (z : ℤ) → mag z < 2 ^ 63 → AreCharacters (signed_decimal z)
unfolding is_character
signed_characters (pos n) small = AreCharacters-digits (decimal n) (decimal_writes n (omega arith)).digits
signed_characters (negsuc n) small =
    AreCharacters-append (45 ∷ []) (decimal (suc n)) (ascii (45 ∷ []) ((lit< tt, refl), tt)) (AreCharacters-digits (decimal (suc n)) (decimal_writes (suc n) (omega arith)).digits)

minimum_lawful : (value : List ℕ) → AreCharacters value → IsLawfulAttr (attr_of minimum_name value)
unfolding is_character begins_name goes_on_name
minimum_lawful value are = record {
  is_name = (refl, (refl, (refl, (refl, (refl, (refl, (refl, tt)))))));
  name = ascii minimum_name ((lit< tt, refl), ((lit< tt, refl), ((lit< tt, refl), ((lit< tt, refl), ((lit< tt, refl), ((lit< tt, refl), ((lit< tt, refl), tt)))))));
  value = are;
}

maximum_lawful : (value : List ℕ) → AreCharacters value → IsLawfulAttr (attr_of maximum_name value)
unfolding is_character begins_name goes_on_name
maximum_lawful value are = record {
  is_name = (refl, (refl, (refl, (refl, (refl, (refl, (refl, tt)))))));
  name = ascii maximum_name ((lit< tt, refl), ((lit< tt, refl), ((lit< tt, refl), ((lit< tt, refl), ((lit< tt, refl), ((lit< tt, refl), ((lit< tt, refl), tt)))))));
  value = are;
}

all-last : {A : Type 0} (P : A → Type 0) (xs : List A) (x : A) → AllByRecursion P xs → P x → AllByRecursion P (xs ++ x ∷ [])
all-last P [] x f g = (g, tt)
all-last P (y ∷ ys) x f g = (f.0, all-last P ys x f.1 g)

set-lawful : (name value : List ℕ) (attrs : List Attr) → IsLawfulAttr (attr_of name value) → AllByRecursion IsLawfulAttr attrs → AllByRecursion IsLawfulAttr (with_value_or_new name value attrs)
set-lawful name value attrs is are = by_test (is_some (value_of name attrs)) refl where
  by_test : (b : Bool) → is_some (value_of name attrs) ≡ b → AllByRecursion IsLawfulAttr (with_value_or_new name value attrs)
  by_test true e =
      subst (λ (xs : List Attr). AllByRecursion IsLawfulAttr xs) (sym (set-there name value attrs e))
      (all-with_value IsLawfulAttr name value attrs (λ attr k. record { is_name = k.is_name; name = k.name; value = is.value }) are)
  by_test false e = subst (λ (xs : List Attr). AllByRecursion IsLawfulAttr xs) (sym (set-new name value attrs e)) (all-last IsLawfulAttr attrs (attr_of name value) are is)

any-last : (word name value : List ℕ) (attrs : List Attr) → bytes_eq word name ≡ false
    → list_any (λ (other : Attr). bytes_eq word other.name) (attrs ++ attr_of name value ∷ []) ≡ list_any (λ (other : Attr). bytes_eq word other.name) attrs
any-last word name value [] apart = ap (λ (b : Bool). b || false) apart
any-last word name value (attr ∷ attrs) apart = ap (λ (b : Bool). bytes_eq word attr.name || b) (any-last word name value attrs apart)

differ-last : (name value : List ℕ) (attrs : List Attr) → value_of name attrs ≡ None → differ (attrs ++ attr_of name value ∷ []) ≡ differ attrs
differ-last name value [] absent = refl
differ-last name value (attr ∷ attrs) absent = by_test (λ rest. differ-last name value attrs rest) (bytes_eq attr.name name) refl where
  by_test : (value_of name attrs ≡ None → differ (attrs ++ attr_of name value ∷ []) ≡ differ attrs) → (b : Bool) → bytes_eq attr.name name ≡ b → differ (attr ∷ attrs ++ attr_of name value ∷ []) ≡ differ (attr ∷ attrs)
  by_test later true e =
      let here = sym (put-first name attr attrs ∙ ap (λ (b : Bool). cond b (Some attr.value) (value_of name attrs)) e) ∙ absent in absurd (cc)
  by_test later false e =
      let rest : value_of name attrs ≡ None = sym (put-first name attr attrs ∙ ap (λ (b : Bool). cond b (Some attr.value) (value_of name attrs)) e) ∙ absent in
      ap (λ (b : Bool). not b && differ (attrs ++ attr_of name value ∷ [])) (any-last attr.name name value attrs e)
      ∙ ap (λ (b : Bool). not (list_any (λ (other : Attr). bytes_eq attr.name other.name) attrs) && b) (later rest)

set-differ : (name value : List ℕ) (attrs : List Attr) → differ (with_value_or_new name value attrs) ≡ differ attrs
set-differ name value attrs = by_test (is_some (value_of name attrs)) refl where
  by_test : (b : Bool) → is_some (value_of name attrs) ≡ b → differ (with_value_or_new name value attrs) ≡ differ attrs
  by_test true e = ap differ (set-there name value attrs e) ∙ differ-with_value name value attrs
  by_test false e = ap differ (set-new name value attrs e) ∙ differ-last name value attrs (absent_is_none (value_of name attrs) e)

-- the attributes of a lawful node
record AreLawful (attrs : List Attr) : Type 0 where
  each : AllByRecursion IsLawfulAttr attrs
  names_differ : differ attrs ≡ true
  few : length attrs ≤ 64

limited-lawful : (found : Option (ℤ × ℤ)) (attrs : List Attr) → ((range : ℤ × ℤ) → found ≡ Some range → IsRange range) → AreLawful attrs → AreLawful (limited found attrs)
limited-lawful None attrs ok are = are
limited-lawful (Some range) attrs ok are = by_room (has_room attrs) refl where
  first : List Attr
  first = with_value_or_new minimum_name (signed_decimal range.0) attrs

  by_room : (b : Bool) → has_room attrs ≡ b → AreLawful (cond b (both_set range attrs) attrs)
  by_room true room =
      let is = ok range refl in
      record {
        each =
            set-lawful maximum_name (signed_decimal range.1) first (maximum_lawful (signed_decimal range.1) (signed_characters range.1 is.high))
            (set-lawful minimum_name (signed_decimal range.0) attrs (minimum_lawful (signed_decimal range.0) (signed_characters range.0 is.low)) are.each);
        names_differ = set-differ maximum_name (signed_decimal range.1) first ∙ set-differ minimum_name (signed_decimal range.0) attrs ∙ are.names_differ;
        few = room-few range attrs room;
      }
  by_room false room = are

-- ---- a lawful tree

mutual
  limits-size : (ranges : ℕ → Option (ℤ × ℤ)) (n : ℕ) (e : Element) → length (preorder (with_limits ranges n e)) ≡ length (preorder e)
  limits-size ranges n (element name attrs text children) = ap suc (limits-size_all ranges (n + 1) children)

  limits-size_all : (ranges : ℕ → Option (ℤ × ℤ)) (n : ℕ) (es : Elements) → length (preorder_all (with_limits_all ranges n es)) ≡ length (preorder_all es)
  limits-size_all ranges n none = refl
  limits-size_all ranges n (more e es) =
      length-append (preorder (with_limits ranges n e)) (preorder_all (with_limits_all ranges (n + node_count (shape_of e)) es))
      ∙ ap (λ k. k + length (preorder_all (with_limits_all ranges (n + node_count (shape_of e)) es))) (limits-size ranges n e)
      ∙ ap (λ k. length (preorder e) + k) (limits-size_all ranges (n + node_count (shape_of e)) es)
      ∙ sym (length-append (preorder e) (preorder_all es))

mutual
  limits-depth : (ranges : ℕ → Option (ℤ × ℤ)) (n : ℕ) (e : Element) → depth (with_limits ranges n e) ≡ depth e
  limits-depth ranges n (element name attrs text children) = ap (λ k. k + 1) (limits-depth_all ranges (n + 1) children)

  limits-depth_all : (ranges : ℕ → Option (ℤ × ℤ)) (n : ℕ) (es : Elements) → depth_all (with_limits_all ranges n es) ≡ depth_all es
  limits-depth_all ranges n none = refl
  limits-depth_all ranges n (more e es) =
      ap (λ k. max k (depth_all (with_limits_all ranges (n + node_count (shape_of e)) es))) (limits-depth ranges n e)
      ∙ ap (λ k. max (depth e) k) (limits-depth_all ranges (n + node_count (shape_of e)) es)

pub nodes-parts : (xs ys : List RawNode) → AllByRecursion IsLawfulNode (xs ++ ys) → AllByRecursion IsLawfulNode xs × AllByRecursion IsLawfulNode ys
nodes-parts [] ys h = (tt, h)
nodes-parts (x ∷ xs) ys h = let later = nodes-parts xs ys h.1 in ((h.0, later.0), later.1)

pub nodes-append : (xs ys : List RawNode) → AllByRecursion IsLawfulNode xs → AllByRecursion IsLawfulNode ys → AllByRecursion IsLawfulNode (xs ++ ys)
nodes-append [] ys f g = g
nodes-append (x ∷ xs) ys f g = (f.0, nodes-append xs ys f.1 g)

node-lawful : (found : Option (ℤ × ℤ)) (name : List ℕ) (attrs : List Attr) (text : List ℕ) (size other : ℕ) → ((range : ℤ × ℤ) → found ≡ Some range → IsRange range) → other ≡ size
    → IsLawfulNode (record { name = name; attrs = attrs; text = text; size = size }) → IsLawfulNode (record { name = name; attrs = limited found attrs; text = text; size = other })
node-lawful found name attrs text size other ok same h =
    let are = limited-lawful found attrs ok (record { each = h.each; names_differ = h.names_differ; few = h.few_attrs }) in
    record {
      is_name = h.is_name;
      name = h.name;
      each = are.each;
      names_differ = are.names_differ;
      few_attrs = are.few;
      text = h.text;
      no_space = subst (λ (k : ℕ). 1 < k → only_space text ≡ true → text ≡ []) (sym same) h.no_space;
    }

mutual
  limits-nodes : (ranges : ℕ → Option (ℤ × ℤ)) (n : ℕ) (e : Element) → AreRanges ranges → AllByRecursion IsLawfulNode (preorder e) → AllByRecursion IsLawfulNode (preorder (with_limits ranges n e))
  limits-nodes ranges n (element name attrs text children) ok h = (
    node-lawful (ranges n) name attrs text (length (preorder_all children) + 1) (length (preorder_all (with_limits_all ranges (n + 1) children)) + 1) (ok n) (ap (λ k. k + 1) (limits-size_all ranges (n + 1) children)) h.0,
    limits-nodes_all ranges (n + 1) children ok h.1,
  )

  limits-nodes_all : (ranges : ℕ → Option (ℤ × ℤ)) (n : ℕ) (es : Elements) → AreRanges ranges → AllByRecursion IsLawfulNode (preorder_all es) → AllByRecursion IsLawfulNode (preorder_all (with_limits_all ranges n es))
  limits-nodes_all ranges n none ok h = tt
  limits-nodes_all ranges n (more e es) ok h =
      let parts = nodes-parts (preorder e) (preorder_all es) h in
      nodes-append (preorder (with_limits ranges n e)) (preorder_all (with_limits_all ranges (n + node_count (shape_of e)) es)) (limits-nodes ranges n e ok parts.0) (limits-nodes_all ranges (n + node_count (shape_of e)) es ok parts.1)

pub IsLawful-with_limits : (ranges : ℕ → Option (ℤ × ℤ)) (e : Element) → AreRanges ranges → IsLawful e → IsLawful (with_limits ranges 0 e)
IsLawful-with_limits ranges e ok h = record {
  each = limits-nodes ranges 0 e ok h.each;
  not_deep = let same = limits-depth ranges 0 e in omega (arith, h.not_deep);
  not_large = let same = limits-size ranges 0 e in omega (arith, h.not_large);
}

-- ---- places stay

limited-other : (found : Option (ℤ × ℤ)) (other : List ℕ) (attrs : List Attr) → bytes_eq minimum_name other ≡ false → bytes_eq maximum_name other ≡ false → value_of other (limited found attrs) ≡ value_of other attrs
limited-other None other attrs apart apart_too = refl
limited-other (Some range) other attrs apart apart_too = by_room (has_room attrs) where
  by_room : (b : Bool) → value_of other (cond b (both_set range attrs) attrs) ≡ value_of other attrs
  by_room true = both-other range other attrs apart apart_too
  by_room false = refl

limited-section : (found : Option (ℤ × ℤ)) (attrs : List Attr) → is_cloud_or_blob (limited found attrs) ≡ is_cloud_or_blob attrs
unfolding type_in
limited-section found attrs = ap (λ (v : Option (List ℕ)). has_section (option_and_then type_named v)) (limited-other found (codes "type") attrs refl refl)

limited-place : (found : Option (ℤ × ℤ)) (attrs : List Attr) → value_of place_name (limited found attrs) ≡ value_of place_name attrs
limited-place found attrs = limited-other found place_name attrs refl refl

stated-limits : (found : Option (ℤ × ℤ)) (name : List ℕ) (attrs : List Attr) (text : List ℕ) (size other : ℕ)
    → stated_place (record { name = name; attrs = limited found attrs; text = text; size = other }) ≡ stated_place (record { name = name; attrs = attrs; text = text; size = size })
unfolding stated_place
stated-limits found name attrs text size other =
    ap (λ (v : Option (List ℕ)). cond (is_cloud_or_blob (limited found attrs)) (Some (unwrap_or (option_and_then unsigned_in v) 0)) None) (limited-place found attrs)
    ∙ ap (λ (b : Bool). cond b (Some (unwrap_or (option_and_then unsigned_in (value_of place_name attrs)) 0)) None) (limited-section found attrs)

mutual
  pub limits-places : (ranges : ℕ → Option (ℤ × ℤ)) (n : ℕ) (e : Element) → places_in (with_limits ranges n e) ≡ places_in e
  limits-places ranges n (element name attrs text children) =
      ap (λ (found : Option ℕ). cons_option found (places_in_all (with_limits_all ranges (n + 1) children))) (stated-limits (ranges n) name attrs text (length (preorder_all children) + 1) (length (preorder_all (with_limits_all ranges (n + 1) children)) + 1))
      ∙ ap (λ (qs : List ℕ). cons_option (stated_place (record { name = name; attrs = attrs; text = text; size = length (preorder_all children) + 1 })) qs) (limits-places_all ranges (n + 1) children)

  pub limits-places_all : (ranges : ℕ → Option (ℤ × ℤ)) (n : ℕ) (es : Elements) → places_in_all (with_limits_all ranges n es) ≡ places_in_all es
  limits-places_all ranges n none = refl
  limits-places_all ranges n (more e es) =
      filter_map-append stated_place (preorder (with_limits ranges n e)) (preorder_all (with_limits_all ranges (n + node_count (shape_of e)) es))
      ∙ ap (λ (qs : List ℕ). qs ++ places_in_all (with_limits_all ranges (n + node_count (shape_of e)) es)) (limits-places ranges n e)
      ∙ ap (λ (qs : List ℕ). places_in e ++ qs) (limits-places_all ranges (n + node_count (shape_of e)) es)
      ∙ sym (filter_map-append stated_place (preorder e) (preorder_all es))

-- an attribute that has the value already
pub has-value : (name value : List ℕ) (attrs : List Attr) → value_of name attrs ≡ option_map (λ _. value) (value_of name attrs) → with_value name value attrs ≡ attrs
unfolding with_value value_of
has-value name value [] has = refl
has-value name value (attr ∷ attrs) has = by_test (has-value name value attrs) (bytes_eq attr.name name) has where
  by_test : (value_of name attrs ≡ option_map (λ _. value) (value_of name attrs) → with_value name value attrs ≡ attrs) → (b : Bool)
      → cond b (Some attr.value) (value_of name attrs) ≡ option_map (λ _. value) (cond b (Some attr.value) (value_of name attrs))
      → cond b (attr_of attr.name value ∷ attrs) (attr ∷ with_value name value attrs) ≡ attr ∷ attrs
  by_test later true has =
      let same : attr.value ≡ value = cc in
      ap (λ (v : List ℕ). attr_of attr.name v ∷ attrs) (sym same)
  by_test later false has = ap (λ (rest : List Attr). attr ∷ rest) (later has)

limited-keeps : (found : Option (ℤ × ℤ)) (value : List ℕ) (attrs : List Attr) → with_value place_name value attrs ≡ attrs → with_value place_name value (limited found attrs) ≡ limited found attrs
limited-keeps found value attrs same =
    let has : value_of place_name attrs ≡ option_map (λ _. value) (value_of place_name attrs) = sym (ap (value_of place_name) same) ∙ value_of-with_value place_name value attrs in
    has-value place_name value (limited found attrs) (limited-place found attrs ∙ has ∙ ap (option_map (λ _. value)) (sym (limited-place found attrs)))

mutual
  placed-limits : (texts : List (List ℕ)) (ranges : ℕ → Option (ℤ × ℤ)) (n : ℕ) (e : Element) → with_places texts e ≡ e → with_places texts (with_limits ranges n e) ≡ with_limits ranges n e
  placed-limits texts ranges n (element name attrs text children) same =
      by_test (placed-limits_all (drop 1 texts) ranges (n + 1) children) (placed-limits_all texts ranges (n + 1) children) (is_cloud_or_blob attrs) (is_cloud_or_blob (limited (ranges n) attrs)) (limited-section (ranges n) attrs) same
    where
      value : List ℕ
      value = slice_index_or texts 0 []

      by_test : (with_places_all (drop 1 texts) children ≡ children → with_places_all (drop 1 texts) (with_limits_all ranges (n + 1) children) ≡ with_limits_all ranges (n + 1) children)
          → (with_places_all texts children ≡ children → with_places_all texts (with_limits_all ranges (n + 1) children) ≡ with_limits_all ranges (n + 1) children)
          → (a b : Bool) → b ≡ a
          → cond a (element name (with_value place_name value attrs) text (with_places_all (drop 1 texts) children)) (element name attrs text (with_places_all texts children)) ≡ element name attrs text children
          → cond b (element name (with_value place_name value (limited (ranges n) attrs)) text (with_places_all (drop 1 texts) (with_limits_all ranges (n + 1) children)))
          (element name (limited (ranges n) attrs) text (with_places_all texts (with_limits_all ranges (n + 1) children)))
          ≡ element name (limited (ranges n) attrs) text (with_limits_all ranges (n + 1) children)
      by_test item other true true e same =
          let here : with_value place_name value attrs ≡ attrs = cc in
          let below : with_places_all (drop 1 texts) children ≡ children = cc in
          ap (λ (xs : List Attr). element name xs text (with_places_all (drop 1 texts) (with_limits_all ranges (n + 1) children))) (limited-keeps (ranges n) value attrs here)
          ∙ ap (λ (xs : Elements). element name (limited (ranges n) attrs) text xs) (item below)
      by_test item other true false e same = absurd (cc)
      by_test item other false true e same = absurd (cc)
      by_test item other false false e same =
          let below : with_places_all texts children ≡ children = cc in
          ap (λ (xs : Elements). element name (limited (ranges n) attrs) text xs) (other below)

  placed-limits_all : (texts : List (List ℕ)) (ranges : ℕ → Option (ℤ × ℤ)) (n : ℕ) (es : Elements) → with_places_all texts es ≡ es → with_places_all texts (with_limits_all ranges n es) ≡ with_limits_all ranges n es
  placed-limits_all texts ranges n none same = refl
  placed-limits_all texts ranges n (more e es) same =
      let here : with_places texts e ≡ e = cc in
      let later : with_places_all (drop (length (places_in e)) texts) es ≡ es = cc in
      ap (λ (x : Element). more x (with_places_all (drop (length (places_in (with_limits ranges n e))) texts) (with_limits_all ranges (n + node_count (shape_of e)) es))) (placed-limits texts ranges n e here)
      ∙ ap (λ (qs : List ℕ). more (with_limits ranges n e) (with_places_all (drop (length qs) texts) (with_limits_all ranges (n + node_count (shape_of e)) es))) (limits-places ranges n e)
      ∙ ap (λ (xs : Elements). more (with_limits ranges n e) xs) (placed-limits_all (drop (length (places_in e)) texts) ranges (n + node_count (shape_of e)) es later)

-- A tree without places has none with other limits either.
pub without_places-with_limits : (ranges : ℕ → Option (ℤ × ℤ)) (e : Element) → without_places e ≡ e → without_places (with_limits ranges 0 e) ≡ with_limits ranges 0 e
without_places-with_limits ranges e same =
    ap (λ (qs : List ℕ). with_places (replicate (length qs) (codes "0")) (with_limits ranges 0 e)) (limits-places ranges 0 e)
    ∙ placed-limits (replicate (length (places_in e)) (codes "0")) ranges 0 e same

-- ---- limits twice

set-again : (name value : List ℕ) (attrs : List Attr) → value_of name attrs ≡ Some value → with_value_or_new name value attrs ≡ attrs
set-again name value attrs has =
    set-there name value attrs (ap (λ (v : Option (List ℕ)). is_some v) has)
    ∙ has-value name value attrs (has ∙ sym (ap (option_map (λ _. value)) has))

both-again : (range : ℤ × ℤ) (attrs : List Attr) → both_set range (both_set range attrs) ≡ both_set range attrs
both-again range attrs =
    ap (with_value_or_new maximum_name (signed_decimal range.1)) (set-again minimum_name (signed_decimal range.0) (both_set range attrs) (both-minimum range attrs))
    ∙ set-again maximum_name (signed_decimal range.1) (both_set range attrs) (both-maximum range attrs)

limited-twice : (found : Option (ℤ × ℤ)) (attrs : List Attr) → limited found (limited found attrs) ≡ limited found attrs
limited-twice None attrs = refl
limited-twice (Some range) attrs = by_room (has_room attrs) refl where
  by_room : (b : Bool) → has_room attrs ≡ b → limited (Some range) (cond b (both_set range attrs) attrs) ≡ cond b (both_set range attrs) attrs
  by_room true room =
      ap (λ (b : Bool). cond b (both_set range (both_set range attrs)) (both_set range attrs)) (room-keeps range attrs room)
      ∙ both-again range attrs
  by_room false room = ap (λ (b : Bool). cond b (both_set range attrs) attrs) room

mutual
  limits-count : (ranges : ℕ → Option (ℤ × ℤ)) (n : ℕ) (e : Element) → node_count (shape_of (with_limits ranges n e)) ≡ node_count (shape_of e)
  limits-count ranges n (element name attrs text children) = ap (λ k. k + 1) (limits-count_all ranges (n + 1) children)

  limits-count_all : (ranges : ℕ → Option (ℤ × ℤ)) (n : ℕ) (es : Elements) → node_count_all (shapes_of (with_limits_all ranges n es)) ≡ node_count_all (shapes_of es)
  limits-count_all ranges n none = refl
  limits-count_all ranges n (more e es) =
      ap (λ k. k + node_count_all (shapes_of (with_limits_all ranges (n + node_count (shape_of e)) es))) (limits-count ranges n e)
      ∙ ap (λ k. node_count (shape_of e) + k) (limits-count_all ranges (n + node_count (shape_of e)) es)

mutual
  pub with_limits-twice : (ranges again : ℕ → Option (ℤ × ℤ)) (n : ℕ) (e : Element) → ((k : ℕ) → again k ≡ ranges k) → with_limits again n (with_limits ranges n e) ≡ with_limits ranges n e
  with_limits-twice ranges again n (element name attrs text children) same =
      ap (λ (found : Option (ℤ × ℤ)). element name (limited found (limited (ranges n) attrs)) text (with_limits_all again (n + 1) (with_limits_all ranges (n + 1) children))) (same n)
      ∙ ap (λ (xs : List Attr). element name xs text (with_limits_all again (n + 1) (with_limits_all ranges (n + 1) children))) (limited-twice (ranges n) attrs)
      ∙ ap (λ (xs : Elements). element name (limited (ranges n) attrs) text xs) (with_limits_all-twice ranges again (n + 1) children same)

  pub with_limits_all-twice : (ranges again : ℕ → Option (ℤ × ℤ)) (n : ℕ) (es : Elements) → ((k : ℕ) → again k ≡ ranges k) → with_limits_all again n (with_limits_all ranges n es) ≡ with_limits_all ranges n es
  with_limits_all-twice ranges again n none same = refl
  with_limits_all-twice ranges again n (more e es) same =
      ap (λ (x : Element). more x (with_limits_all again (n + node_count (shape_of (with_limits ranges n e))) (with_limits_all ranges (n + node_count (shape_of e)) es))) (with_limits-twice ranges again n e same)
      ∙ ap (λ k. more (with_limits ranges n e) (with_limits_all again (n + k) (with_limits_all ranges (n + node_count (shape_of e)) es))) (limits-count ranges n e)
      ∙ ap (λ (xs : Elements). more (with_limits ranges n e) xs) (with_limits_all-twice ranges again (n + node_count (shape_of e)) es same)
