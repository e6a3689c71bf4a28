-- Elements with other limits: what is read of their attributes, and the tree of it.
use Rattle.std.specs.Prelude.{◌≡◌, ℕ, ◌+◌, ◌^◌, ◌<◌, ◌≤◌, ℤ, ◌≤ℤ◌, ◌⊎◌, Bool, true, false, cond, List, [], ◌∷◌, ◌++◌, length, codes, Option, Some, None, is_some, option_map, if◌then◌else◌}
use Rattle.std.specs.Fmt.{signed_decimal}
use Rattle.std.specs.Int.Signed.{mag}
use Rattle.std.specs.Str.{bytes_eq}
use Rattle.std.proofs.Common.{refl, sym, ap, ◌∙◌, arith, inl, inr, le-leb, length-append}
use Rattle.std.proofs.lemmas.Bool.Decides.{nat_tests}
use Rattle.std.proofs.lemmas.Slice.Eq.{bytes_eq-Decides}
use Rattle.e57_pieces.specs.declared.piece.Attr.{Attr}
use Rattle.e57_elements.specs.Tree.{Element, element, Elements, none, more}
use Rattle.e57_nodes.specs.Facts.{value_of, signed_in, type_in, read_or, least_integer, greatest_integer, Facts, facts_of}
use Rattle.e57_nodes.specs.Limits.{with_value_or_new, absent_count, has_room, limited, with_limits, with_limits_all}
use Rattle.e57_nodes.specs.Places.{with_value}
use Rattle.e57_nodes.specs.Shape.{Shape, shape, Shapes, no_shapes, shapes, shape_of, shapes_of, node_count, node_count_all}
use Rattle.e57_nodes.proofs.Laws.Decimals.{signed_in-decimal}
use Rattle.e57_nodes.proofs.Laws.Values.{value_of-with_value, value_of-with_other, length-with_value}
use Rattle.e57_base.proofs.Options.{absent_is_none}

-- ---- an attribute that is put last

abbrev pub attr_of : List ℕ → List ℕ → Attr
attr_of name value = record { name = name; value = value }

pub put-first : (name : List ℕ) (attr : Attr) (attrs : List Attr) → value_of name (attr ∷ attrs) ≡ (if bytes_eq attr.name name then Some attr.value else value_of name attrs)
unfolding value_of
put-first name attr attrs = refl

pub put-none : (name : List ℕ) → value_of name [] ≡ None
unfolding value_of
put-none name = refl

-- of the same name
put-last : (name value : List ℕ) (attrs : List Attr) → value_of name attrs ≡ None → value_of name (attrs ++ attr_of name value ∷ []) ≡ Some value
put-last name value [] absent = put-first name (attr_of name value) [] ∙ ap (λ (b : Bool). cond b (Some value) (value_of name [])) ((bytes_eq-Decides name name).1 refl)
put-last name value (attr ∷ attrs) absent = by_test (λ rest. put-last name value attrs rest) (bytes_eq attr.name name) refl where
  by_test : (value_of name attrs ≡ None → value_of name (attrs ++ attr_of name value ∷ []) ≡ Some value) → (b : Bool) → bytes_eq attr.name name ≡ b → value_of name (attr ∷ attrs ++ attr_of name value ∷ []) ≡ Some value
  by_test later true e =
      let here = sym (put-first name attr attrs ∙ ap (λ (b : Bool). cond b (Some attr.value) (value_of name attrs)) e) ∙ absent in absurd (cc)
  by_test later false e =
      let rest : value_of name attrs ≡ None = sym (put-first name attr attrs ∙ ap (λ (b : Bool). cond b (Some attr.value) (value_of name attrs)) e) ∙ absent in
      put-first name attr (attrs ++ attr_of name value ∷ []) ∙ ap (λ (b : Bool). cond b (Some attr.value) (value_of name (attrs ++ attr_of name value ∷ []))) e ∙ later rest

-- of another name
put-other : (name value other : List ℕ) (attrs : List Attr) → bytes_eq name other ≡ false → value_of other (attrs ++ attr_of name value ∷ []) ≡ value_of other attrs
put-other name value other [] apart = put-first other (attr_of name value) [] ∙ ap (λ (b : Bool). cond b (Some value) (value_of other [])) apart
put-other name value other (attr ∷ attrs) apart =
    put-first other attr (attrs ++ attr_of name value ∷ [])
    ∙ ap (λ rest. cond (bytes_eq attr.name other) (Some attr.value) rest) (put-other name value other attrs apart)
    ∙ sym (put-first other attr attrs)

-- ---- an attribute that is set or put last

module _ (name value : List ℕ) (attrs : List Attr) where
  pub set-there : is_some (value_of name attrs) ≡ true → with_value_or_new name value attrs ≡ with_value name value attrs
  unfolding with_value_or_new
  set-there e = ap (λ (b : Bool). cond b (with_value name value attrs) (attrs ++ attr_of name value ∷ [])) e

  pub set-new : is_some (value_of name attrs) ≡ false → with_value_or_new name value attrs ≡ attrs ++ attr_of name value ∷ []
  unfolding with_value_or_new
  set-new e = ap (λ (b : Bool). cond b (with_value name value attrs) (attrs ++ attr_of name value ∷ [])) e

const-some : {A : Type 0} (value : A) (found : Option A) → is_some found ≡ true → option_map (λ _. value) found ≡ Some value
const-some value None e = absurd (cc)
const-some value (Some x) e = refl

pub set-value : (name value : List ℕ) (attrs : List Attr) → value_of name (with_value_or_new name value attrs) ≡ Some value
set-value name value attrs = by_test (is_some (value_of name attrs)) refl where
  by_test : (b : Bool) → is_some (value_of name attrs) ≡ b → value_of name (with_value_or_new name value attrs) ≡ Some value
  by_test true e = ap (value_of name) (set-there name value attrs e) ∙ value_of-with_value name value attrs ∙ const-some value (value_of name attrs) e
  by_test false e = ap (value_of name) (set-new name value attrs e) ∙ put-last name value attrs (absent_is_none (value_of name attrs) e)

pub set-other : (name value other : List ℕ) (attrs : List Attr) → bytes_eq name other ≡ false → value_of other (with_value_or_new name value attrs) ≡ value_of other attrs
set-other name value other attrs apart = by_test (is_some (value_of name attrs)) refl where
  by_test : (b : Bool) → is_some (value_of name attrs) ≡ b → value_of other (with_value_or_new name value attrs) ≡ value_of other attrs
  by_test true e = ap (value_of other) (set-there name value attrs e) ∙ value_of-with_other name value other attrs apart
  by_test false e = ap (value_of other) (set-new name value attrs e) ∙ put-other name value other attrs apart

-- how many there are
pub set-length : (name value : List ℕ) (attrs : List Attr) → length (with_value_or_new name value attrs) ≡ length attrs + absent_count name attrs
set-length name value attrs = by_test (is_some (value_of name attrs)) refl where
  by_test : (b : Bool) → is_some (value_of name attrs) ≡ b → length (with_value_or_new name value attrs) ≡ length attrs + absent_count name attrs
  by_test true e = ap length (set-there name value attrs e) ∙ length-with_value name value attrs ∙ rw e (omega arith)
  by_test false e = ap length (set-new name value attrs e) ∙ length-append attrs (attr_of name value ∷ []) ∙ rw e refl

-- ---- both limits

abbrev pub minimum_name : List ℕ
minimum_name = codes "minimum"

abbrev pub maximum_name : List ℕ
maximum_name = codes "maximum"

-- the attributes with these limits
abbrev pub both_set : ℤ × ℤ → List Attr → List Attr
both_set range attrs = with_value_or_new maximum_name (signed_decimal range.1) (with_value_or_new minimum_name (signed_decimal range.0) attrs)

pub both-minimum : (range : ℤ × ℤ) (attrs : List Attr) → value_of minimum_name (both_set range attrs) ≡ Some (signed_decimal range.0)
both-minimum range attrs =
    set-other maximum_name (signed_decimal range.1) minimum_name (with_value_or_new minimum_name (signed_decimal range.0) attrs) refl
    ∙ set-value minimum_name (signed_decimal range.0) attrs

pub both-maximum : (range : ℤ × ℤ) (attrs : List Attr) → value_of maximum_name (both_set range attrs) ≡ Some (signed_decimal range.1)
both-maximum range attrs = set-value maximum_name (signed_decimal range.1) (with_value_or_new minimum_name (signed_decimal range.0) attrs)

pub both-other : (range : ℤ × ℤ) (other : List ℕ) (attrs : List Attr) → bytes_eq minimum_name other ≡ false → bytes_eq maximum_name other ≡ false → value_of other (both_set range attrs) ≡ value_of other attrs
both-other range other attrs apart apart_too =
    set-other maximum_name (signed_decimal range.1) other (with_value_or_new minimum_name (signed_decimal range.0) attrs) apart_too
    ∙ set-other minimum_name (signed_decimal range.0) other attrs apart

-- ---- what is read

-- the least isn't above the greatest, and both are signed numbers of 64 bits
pub record IsRange (range : ℤ × ℤ) : Type 0 where
  pub order : range.0 ≤ℤ range.1
  pub low : mag range.0 < 2 ^ 63
  pub high : mag range.1 < 2 ^ 63

abbrev pub AreRanges : (ℕ → Option (ℤ × ℤ)) → Type 0
AreRanges ranges = (n : ℕ) (range : ℤ × ℤ) → ranges n ≡ Some range → IsRange range

abbrev pub with_range : Option ℤ → Option ℤ → Facts → Facts
with_range low high facts = record {
  name = facts.name;
  element_type = facts.element_type;
  minimum = low;
  maximum = high;
  scale = facts.scale;
  offset = facts.offset;
  precision = facts.precision;
  has_place = facts.has_place;
  record_count = facts.record_count;
  blob_length = facts.blob_length;
  is_integer = facts.is_integer;
}

-- The facts stay, or the limits are others: these, if they can be read.
pub record IsRanged (range : ℤ × ℤ) (facts other : Facts) : Type 0 where
  pub low : Option ℤ
  pub high : Option ℤ
  pub read_low : IsRange range → low ≡ Some range.0
  pub read_high : IsRange range → high ≡ Some range.1
  pub same : other ≡ with_range low high facts

abbrev pub IsLimited : Option (ℤ × ℤ) → Facts → Facts → Type 0
IsLimited found facts other = (other ≡ facts) ⊎ ((range : ℤ × ℤ) × (found ≡ Some range) × IsRanged range facts other)

both-facts : (range : ℤ × ℤ) (name : List ℕ) (attrs : List Attr) (text : List ℕ)
    → facts_of name (both_set range attrs) text ≡ with_range (signed_in (signed_decimal range.0)) (signed_in (signed_decimal range.1)) (facts_of name attrs text)
unfolding facts_of type_in
both-facts range name attrs text =
    let low = ap (read_or least_integer signed_in) (both-minimum range attrs) in
    let high = ap (read_or greatest_integer signed_in) (both-maximum range attrs) in
    let a = both-other range (codes "type") attrs refl refl in
    let b = both-other range (codes "scale") attrs refl refl in
    let c = both-other range (codes "offset") attrs refl refl in
    let d = both-other range (codes "precision") attrs refl refl in
    let e = both-other range (codes "fileOffset") attrs refl refl in
    let f = both-other range (codes "recordCount") attrs refl refl in
    let g = both-other range (codes "length") attrs refl refl in
    rw (low, high, a, b, c, d, e, f, g) refl

limited-facts : (found : Option (ℤ × ℤ)) (name : List ℕ) (attrs : List Attr) (text : List ℕ) → IsLimited found (facts_of name attrs text) (facts_of name (limited found attrs) text)
limited-facts None name attrs text = inl refl
limited-facts (Some range) name attrs text = by_room (has_room attrs) where
  by_room : (b : Bool) → IsLimited (Some range) (facts_of name attrs text) (facts_of name (cond b (both_set range attrs) attrs) text)
  by_room true =
      inr (
        range,
        refl,
        record {
          low = signed_in (signed_decimal range.0);
          high = signed_in (signed_decimal range.1);
          read_low = λ is. signed_in-decimal range.0 is.low;
          read_high = λ is. signed_in-decimal range.1 is.high;
          same = both-facts range name attrs text;
        },
      )
  by_room false = inl refl

-- ---- the tree of it

abbrev mutual
  pub AreLimited : (ℕ → Option (ℤ × ℤ)) → ℕ → Shape → Shape → Type 0
  AreLimited ranges n (shape facts below) (shape other beneath) = IsLimited (ranges n) facts other × AreLimitedAll ranges (n + 1) below beneath

  pub AreLimitedAll : (ℕ → Option (ℤ × ℤ)) → ℕ → Shapes → Shapes → Type 0
  AreLimitedAll ranges n no_shapes no_shapes = Unit {0}
  AreLimitedAll ranges n no_shapes (shapes t ts) = ⊥
  AreLimitedAll ranges n (shapes s ss) no_shapes = ⊥
  AreLimitedAll ranges n (shapes s ss) (shapes t ts) = AreLimited ranges n s t × AreLimitedAll ranges (n + node_count s) ss ts

mutual
  pub with_limits-shape : (ranges : ℕ → Option (ℤ × ℤ)) (n : ℕ) (e : Element) → AreLimited ranges n (shape_of e) (shape_of (with_limits ranges n e))
  with_limits-shape ranges n (element name attrs text children) =
      (limited-facts (ranges n) name attrs text, with_limits-shapes ranges (n + 1) children)

  pub with_limits-shapes : (ranges : ℕ → Option (ℤ × ℤ)) (n : ℕ) (es : Elements) → AreLimitedAll ranges n (shapes_of es) (shapes_of (with_limits_all ranges n es))
  with_limits-shapes ranges n none = tt
  with_limits-shapes ranges n (more e es) = (with_limits-shape ranges n e, with_limits-shapes ranges (n + node_count (shape_of e)) es)

mutual
  pub limited-count : (ranges : ℕ → Option (ℤ × ℤ)) (n : ℕ) (s t : Shape) → AreLimited ranges n s t → node_count t ≡ node_count s
  limited-count ranges n (shape facts below) (shape other beneath) are = ap (λ k. k + 1) (limited-count_all ranges (n + 1) below beneath are.1)

  pub limited-count_all : (ranges : ℕ → Option (ℤ × ℤ)) (n : ℕ) (ss ts : Shapes) → AreLimitedAll ranges n ss ts → node_count_all ts ≡ node_count_all ss
  limited-count_all ranges n no_shapes no_shapes are = refl
  limited-count_all ranges n no_shapes (shapes t ts) are = absurd are
  limited-count_all ranges n (shapes s ss) no_shapes are = absurd are
  limited-count_all ranges n (shapes s ss) (shapes t ts) are =
      ap (λ k. k + node_count_all ts) (limited-count ranges n s t are.0) ∙ ap (λ k. node_count s + k) (limited-count_all ranges (n + node_count s) ss ts are.1)

-- ---- limits twice

pub room-keeps : (range : ℤ × ℤ) (attrs : List Attr) → has_room attrs ≡ true → has_room (both_set range attrs) ≡ true
unfolding has_room
room-keeps range attrs room =
    let first = set-length minimum_name (signed_decimal range.0) attrs in
    let all = set-length maximum_name (signed_decimal range.1) (with_value_or_new minimum_name (signed_decimal range.0) attrs) in
    let same : absent_count maximum_name (with_value_or_new minimum_name (signed_decimal range.0) attrs) ≡ absent_count maximum_name attrs =
    ap (λ (found : Option (List ℕ)). cond (is_some found) 0 1) (set-other minimum_name (signed_decimal range.0) maximum_name attrs refl) in
    let low : absent_count minimum_name (both_set range attrs) ≡ 0 = ap (λ (found : Option (List ℕ)). cond (is_some found) 0 1) (both-minimum range attrs) in
    let high : absent_count maximum_name (both_set range attrs) ≡ 0 = ap (λ (found : Option (List ℕ)). cond (is_some found) 0 1) (both-maximum range attrs) in
    rw (low, high) (le-leb (length (both_set range attrs) + (0 + 0)) 64 (grind (arith, nat_tests)))

pub room-few : (range : ℤ × ℤ) (attrs : List Attr) → has_room attrs ≡ true → length (both_set range attrs) ≤ 64
unfolding has_room
room-few range attrs room =
    let first = set-length minimum_name (signed_decimal range.0) attrs in
    let all = set-length maximum_name (signed_decimal range.1) (with_value_or_new minimum_name (signed_decimal range.0) attrs) in
    let same : absent_count maximum_name (with_value_or_new minimum_name (signed_decimal range.0) attrs) ≡ absent_count maximum_name attrs =
    ap (λ (found : Option (List ℕ)). cond (is_some found) 0 1) (set-other minimum_name (signed_decimal range.0) maximum_name attrs refl) in
    grind (arith, nat_tests)
