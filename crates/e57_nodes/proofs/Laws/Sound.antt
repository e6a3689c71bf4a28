-- A tree without a fault has sound clouds and blobs.
use Rattle.std.proofs.Common.{◌≡◌, ℕ, zero, suc, ◌+◌, ◌^◌, ◌<◌, ◌≤◌, ◌⊎◌, inl, inr, Bool, true, false, cond, not, ◌&&◌, ◌||◌, T, ltb, leb, eqb, List, [], ◌∷◌, ◌++◌, length, Option, Some, None, ℤ, pos, neg_ℤ, ◌≤ℤ◌, refl, sym, subst, arith, lit<}
use Rattle.std.specs.Prelude.{codes, find, unwrap_or, option_map, option_and_then, int_lt}
use Rattle.std.specs.Option.{option_or}
use Rattle.std.specs.Int.Signed.{mag, lt_z_no}
use Rattle.std.specs.List.{AllByRecursion, filter_map, cons_option, list_all}
use Rattle.std.specs.Str.{bytes_eq}
use Rattle.std.proofs.lemmas.List.Elements.{filter_map-append}
use Rattle.std.proofs.lemmas.Bool.{ltb-true, ltb-false, eqb-false, or_parts}
use Rattle.e57_base.specs.declared.kind.Kind.TheVariants as kind
use Rattle.e57_base.specs.Fault.{fault}
use Rattle.e57_pieces.specs.declared.piece.Attr.{Attr}
use Rattle.e57_pieces.specs.Words.{is_decimal, numeral}
use Rattle.e57_elements.specs.Tree.{Element, element, Elements, none, more}
use Rattle.e57_layout.specs.declared.field.Field.{Field}
use Rattle.e57_layout.specs.declared.field.FieldKind.TheVariants.{Bits32, Bits64}
use Rattle.e57_layout.specs.Values.{ItemKind, integers, words, strings, item_kind, IsValidField}
use Rattle.e57_layout.proofs.Laws.Widths.{width-le}
use Rattle.e57_cloud.specs.Section.{when}
use Rattle.e57_nodes.specs.declared.ElementType.{ElementType}
use Rattle.e57_nodes.specs.declared.ElementType.TheVariants as element_type
use Rattle.e57_nodes.specs.Facts.{when_below, digits_below, signed_from, unsigned_from, signed_in, unsigned_in, trimmed, value_of, read_or, precision_named, least_integer, greatest_integer, Facts, facts_of}
use Rattle.e57_nodes.specs.Shape.{Shape, shape, Shapes, no_shapes, shapes, shape_of, shapes_of, node_count, node_count_all, Node, node_at, children_from, children_of, nodes_from, nodes_from_all, nodes_below}
use Rattle.e57_nodes.specs.Paths.{counts_children, child_path}
use Rattle.e57_nodes.specs.Fields.{child_named, float_kind, kind_of, field_at, fields_from, fields_from_all, fields_below, fields_of}
use Rattle.e57_nodes.specs.Typed.{max_records, max_fields, type_fault, name_fault, child_fault, attr_fault, order_fault, limits_fault, codecs_fault, prototype_fault, field_count_fault, compressed_vector_fault, node_fault, names_differ, namesake_of, tree_fault, trees_fault, typed_fault}
use Rattle.e57_nodes.specs.Items.{StatedItem, stated_cloud, stated_blob, stated_by, stated_item, stated_items}
use Rattle.e57_cloud.proofs.Laws.Sections.{when-none}

-- ---- what is promised

-- limits within the signed numbers of 64 bits, or words of 32 or 64 bits
abbrev pub AreInRange : ItemKind → Type 0
AreInRange (integers low high) = (mag low < 2 ^ 63) × (mag high < 2 ^ 63)
AreInRange (words w) = (w ≡ 32) ⊎ (w ≡ 64)
AreInRange strings = Unit {0}

-- A field of a tree with so many nodes: its limits are in order and in range, and its width is at most 64.
pub record IsSoundField (nodes : ℕ) (field : Field) : Type 0 where
  pub number : field.node < nodes
  pub valid : IsValidField field
  pub in_range : AreInRange (item_kind field.kind)
  pub narrow : field.width ≤ 64

pub record IsSoundCloud (nodes n count : ℕ) (fields : List Field) : Type 0 where
  pub number : n < nodes
  pub few_records : count ≤ max_records
  pub some_field : 0 < length fields
  pub few_fields : length fields ≤ max_fields
  pub each : AllByRecursion (IsSoundField nodes) fields

pub record IsSoundBlob (nodes n size : ℕ) : Type 0 where
  pub number : n < nodes
  pub in_range : size < 2 ^ 64

abbrev pub IsSoundItem : ℕ → StatedItem → Type 0
IsSoundItem nodes (stated_cloud n count fields) = IsSoundCloud nodes n count fields
IsSoundItem nodes (stated_blob n size) = IsSoundBlob nodes n size

-- ---- what is read is in range

-- of what is read of an element
pub record AreRead (facts : Facts) : Type 0 where
  pub minimum : (z : ℤ) → facts.minimum ≡ Some z → mag z < 2 ^ 63
  pub maximum : (z : ℤ) → facts.maximum ≡ Some z → mag z < 2 ^ 63
  pub precision : (w : ℕ) → facts.precision ≡ Some w → (w ≡ 32) ⊎ (w ≡ 64)
  pub blob_length : (n : ℕ) → facts.blob_length ≡ Some n → n < 2 ^ 64

when_below-lt : (bound m n : ℕ) → when_below bound m ≡ Some n → n < bound
unfolding when_below
when_below-lt bound m n e = by_test (ltb m bound) refl e where
  by_test : (b : Bool) → ltb m bound ≡ b → cond {A = Option ℕ} b (Some m) None ≡ Some n → n < bound
  by_test true f e = let l = ltb-true m bound f in let s : m ≡ n = cc in omega arith
  by_test false f e = absurd (cc)

digits_below-lt : (bound n : ℕ) (digits : List ℕ) → digits_below bound digits ≡ Some n → n < bound
unfolding digits_below
digits_below-lt bound n digits e = by_test (ltb 0 (length digits) && (leb (length digits) 64 && list_all is_decimal digits)) e where
  by_test : (b : Bool) → cond {A = Option ℕ} b (when_below bound (numeral 10 digits)) None ≡ Some n → n < bound
  by_test true e = when_below-lt bound (numeral 10 digits) n e
  by_test false e = absurd (cc)

unsigned_from-lt : (bytes : List ℕ) (n : ℕ) → unsigned_from bytes ≡ Some n → n < 2 ^ 64
unfolding unsigned_from
unsigned_from-lt [] n e = absurd (cc)
unsigned_from-lt (b ∷ bs) n e = by_test (eqb b 43) e where
  by_test : (t : Bool) → cond {A = Option ℕ} t (digits_below (2 ^ 64) bs) (digits_below (2 ^ 64) (b ∷ bs)) ≡ Some n → n < 2 ^ 64
  by_test true e = digits_below-lt (2 ^ 64) n bs e
  by_test false e = digits_below-lt (2 ^ 64) n (b ∷ bs) e

pub unsigned_in-lt : (text : List ℕ) (n : ℕ) → unsigned_in text ≡ Some n → n < 2 ^ 64
unfolding unsigned_in
unsigned_in-lt text n e = unsigned_from-lt (trimmed text) n e

mag-neg : (n : ℕ) → n < 2 ^ 63 + 1 → mag (neg_ℤ (pos n)) < 2 ^ 63
mag-neg zero h = lit< tt
mag-neg (suc n) h = omega arith

positive-lt : (found : Option ℕ) (z : ℤ) → ((n : ℕ) → found ≡ Some n → n < 2 ^ 63) → option_map pos found ≡ Some z → mag z < 2 ^ 63
positive-lt None z h e = absurd (cc)
positive-lt (Some n) z h e = subst (λ (y : ℤ). mag y < 2 ^ 63) (some_same (pos n) z e) (h n refl) where
  some_same : (a b : ℤ) → Some a ≡ Some b → a ≡ b
  some_same a b e = cc

negative-lt : (found : Option ℕ) (z : ℤ) → ((n : ℕ) → found ≡ Some n → n < 2 ^ 63 + 1) → option_map (λ n. neg_ℤ (pos n)) found ≡ Some z → mag z < 2 ^ 63
negative-lt None z h e = absurd (cc)
negative-lt (Some n) z h e = subst (λ (y : ℤ). mag y < 2 ^ 63) (some_same (neg_ℤ (pos n)) z e) (mag-neg n (h n refl)) where
  some_same : (a b : ℤ) → Some a ≡ Some b → a ≡ b
  some_same a b e = cc

signed_from-lt : (bytes : List ℕ) (z : ℤ) → signed_from bytes ≡ Some z → mag z < 2 ^ 63
unfolding signed_from
signed_from-lt [] z e = absurd (cc)
signed_from-lt (b ∷ bs) z e = by_tests (eqb b 45) (eqb b 43) e where
  by_tests : (s t : Bool)
      → cond {A = Option ℤ} s (option_map (λ n. neg_ℤ (pos n)) (digits_below (2 ^ 63 + 1) bs)) (cond t (option_map pos (digits_below (2 ^ 63) bs)) (option_map pos (digits_below (2 ^ 63) (b ∷ bs)))) ≡ Some z
      → mag z < 2 ^ 63
  by_tests true t e = negative-lt (digits_below (2 ^ 63 + 1) bs) z (λ n f. digits_below-lt (2 ^ 63 + 1) n bs f) e
  by_tests false true e = positive-lt (digits_below (2 ^ 63) bs) z (λ n f. digits_below-lt (2 ^ 63) n bs f) e
  by_tests false false e = positive-lt (digits_below (2 ^ 63) (b ∷ bs)) z (λ n f. digits_below-lt (2 ^ 63) n (b ∷ bs) f) e

pub signed_in-lt : (text : List ℕ) (z : ℤ) → signed_in text ≡ Some z → mag z < 2 ^ 63
unfolding signed_in
signed_in-lt text z e = signed_from-lt (trimmed text) z e

limit-lt : (default : ℤ) (found : Option (List ℕ)) (z : ℤ) → mag default < 2 ^ 63 → read_or default signed_in found ≡ Some z → mag z < 2 ^ 63
limit-lt default None z h e = subst (λ (y : ℤ). mag y < 2 ^ 63) (some_same default z e) h where
  some_same : (a b : ℤ) → Some a ≡ Some b → a ≡ b
  some_same a b e = cc
limit-lt default (Some value) z h e = signed_in-lt value z e

unsigned-lt : (found : Option (List ℕ)) (n : ℕ) → option_and_then unsigned_in found ≡ Some n → n < 2 ^ 64
unsigned-lt None n e = absurd (cc)
unsigned-lt (Some value) n e = unsigned_in-lt value n e

precision_named-is : (word : List ℕ) (w : ℕ) → precision_named word ≡ Some w → (w ≡ 32) ⊎ (w ≡ 64)
unfolding precision_named
precision_named-is word w e = by_tests (bytes_eq word (codes "single")) (bytes_eq word (codes "double")) e where
  by_tests : (s t : Bool) → cond {A = Option ℕ} s (Some 32) (cond t (Some 64) None) ≡ Some w → (w ≡ 32) ⊎ (w ≡ 64)
  by_tests true t e = inl (cc)
  by_tests false true e = inr (cc)
  by_tests false false e = absurd (cc)

precision-is : (found : Option (List ℕ)) (w : ℕ) → read_or 64 precision_named found ≡ Some w → (w ≡ 32) ⊎ (w ≡ 64)
precision-is None w e = inr (cc)
precision-is (Some value) w e = precision_named-is value w e

pub facts_are_read : (name : List ℕ) (attrs : List Attr) (text : List ℕ) → AreRead (facts_of name attrs text)
unfolding facts_of
facts_are_read name attrs text = record {
  minimum = λ z e. limit-lt least_integer (value_of (codes "minimum") attrs) z (lit< tt) e;
  maximum = λ z e. limit-lt greatest_integer (value_of (codes "maximum") attrs) z (lit< tt) e;
  precision = λ w e. precision-is (value_of (codes "precision") attrs) w e;
  blob_length = λ n e. unsigned-lt (value_of (codes "length") attrs) n e;
}

-- ---- each node of a tree without a fault has none

-- A node has no fault but perhaps that of its name.
pub record IsSound (x : Node) : Type 0 where
  pub are_read : AreRead x.facts
  pub type_none : type_fault x.number x.facts.element_type ≡ None
  pub child_none : child_fault x.number x.facts.element_type (children_of x) ≡ None
  pub attr_none : attr_fault x.number x.facts.element_type x.facts ≡ None
  pub limits_none : limits_fault x.number x.facts.element_type x.facts ≡ None
  pub cloud_none : compressed_vector_fault x x.facts.element_type ≡ None

abbrev pub AreSound : List Node → Type 0
AreSound nodes = AllByRecursion IsSound nodes

pub option_or-none : {A : Type 0} (a b : Option A) → option_or a b ≡ None → (a ≡ None) × (b ≡ None)
option_or-none None b e = (refl, e)
option_or-none (Some x) b e = absurd (cc)

sound_node : (namesake : Option ℕ) (x : Node) → AreRead x.facts → node_fault namesake x ≡ None → IsSound x
unfolding node_fault
sound_node namesake x are_read e =
    let t = x.facts.element_type in
    let last = option_or (limits_fault x.number t x.facts) (compressed_vector_fault x t) in
    let after_type = option_or-none (type_fault x.number t) (option_or (name_fault x.number namesake x.facts.name) (option_or (child_fault x.number t (children_of x)) (option_or (attr_fault x.number t x.facts) last))) e in
    let after_name = option_or-none (name_fault x.number namesake x.facts.name) (option_or (child_fault x.number t (children_of x)) (option_or (attr_fault x.number t x.facts) last)) after_type.1 in
    let after_child = option_or-none (child_fault x.number t (children_of x)) (option_or (attr_fault x.number t x.facts) last) after_name.1 in
    let after_attr = option_or-none (attr_fault x.number t x.facts) last after_child.1 in
    let after_limits = option_or-none (limits_fault x.number t x.facts) (compressed_vector_fault x t) after_attr.1 in
    record { are_read = are_read; type_none = after_type.0; child_none = after_child.0; attr_none = after_attr.0; limits_none = after_limits.0; cloud_none = after_limits.1 }

sound-append : (xs ys : List Node) → AreSound xs → AreSound ys → AreSound (xs ++ ys)
sound-append [] ys f g = g
sound-append (x ∷ xs) ys f g = (f.0, sound-append xs ys f.1 g)

pub sound-parts : (xs ys : List Node) → AreSound (xs ++ ys) → AreSound xs × AreSound ys
sound-parts [] ys h = (tt, h)
sound-parts (x ∷ xs) ys h = let parts = sound-parts xs ys h.1 in ((h.0, parts.0), parts.1)

mutual
  pub sound_nodes : (e : Element) (namesake : Option ℕ) (n : ℕ) → tree_fault namesake n (shape_of e) ≡ None → AreSound (nodes_from n (shape_of e))
  sound_nodes (element name attrs text children) namesake n free =
      let facts = facts_of name attrs text in
      let parts = option_or-none (node_fault namesake (node_at n (shape facts (shapes_of children)))) (trees_fault (names_differ facts.element_type) [] (n + 1) (shapes_of children)) free in
      (sound_node namesake (node_at n (shape facts (shapes_of children))) (facts_are_read name attrs text) parts.0, sound_nodes_all children (names_differ facts.element_type) [] (n + 1) parts.1)

  pub sound_nodes_all : (es : Elements) (differ : Bool) (earlier : List Node) (n : ℕ) → trees_fault differ earlier n (shapes_of es) ≡ None → AreSound (nodes_from_all n (shapes_of es))
  sound_nodes_all none differ earlier n e = tt
  sound_nodes_all (more e es) differ earlier n free =
      let parts = option_or-none (tree_fault (namesake_of differ earlier (node_at n (shape_of e)).facts.name) n (shape_of e)) (trees_fault differ (earlier ++ node_at n (shape_of e) ∷ []) (n + node_count (shape_of e)) (shapes_of es)) free in
      sound-append (nodes_from n (shape_of e)) (nodes_from_all (n + node_count (shape_of e)) (shapes_of es))
      (sound_nodes e (namesake_of differ earlier (node_at n (shape_of e)).facts.name) n parts.0)
      (sound_nodes_all es differ (earlier ++ node_at n (shape_of e) ∷ []) (n + node_count (shape_of e)) parts.1)

limit_small : (found : Option ℤ) → ((z : ℤ) → found ≡ Some z → mag z < 2 ^ 63) → mag (unwrap_or found (pos 0)) < 2 ^ 63
limit_small None h = lit< tt
limit_small (Some z) h = h z refl

in_order : (low high : ℤ) → int_lt high low ≡ false → low ≤ℤ high
in_order low high e = lt_z_no (subst (λ (b : Bool). T (not b)) (sym e) tt)

-- the limits of an integer node
record AreGood (facts : Facts) : Type 0 where
  order : unwrap_or facts.minimum (pos 0) ≤ℤ unwrap_or facts.maximum (pos 0)
  low : mag (unwrap_or facts.minimum (pos 0)) < 2 ^ 63
  high : mag (unwrap_or facts.maximum (pos 0)) < 2 ^ 63

good_limits : (n : ℕ) (facts : Facts) → AreRead facts → order_fault n facts ≡ None → AreGood facts
good_limits n facts are_read e = record {
  order = in_order (unwrap_or facts.minimum (pos 0)) (unwrap_or facts.maximum (pos 0)) (when-none (int_lt (unwrap_or facts.maximum (pos 0)) (unwrap_or facts.minimum (pos 0))) (fault kind.Limits n 0) e);
  low = limit_small facts.minimum are_read.minimum;
  high = limit_small facts.maximum are_read.maximum;
}

float_sound : (nodes n bits : ℕ) (path : List ℕ) → n < nodes → AllByRecursion (IsSoundField nodes) (field_at n path (Some (float_kind bits)))
float_sound nodes n bits path h = by_test (eqb bits 32) where
  by_test : (b : Bool) → AllByRecursion (IsSoundField nodes) (field_at n path (Some (cond b Bits32 Bits64)))
  by_test true = (record { number = h; valid = record { limits = tt; width = refl }; in_range = inl refl; narrow = omega arith }, tt)
  by_test false = (record { number = h; valid = record { limits = tt; width = refl }; in_range = inr refl; narrow = omega arith }, tt)

sound_field : (nodes n : ℕ) (path : List ℕ) (facts : Facts) (t : Option ElementType) → n < nodes → AreRead facts → limits_fault n t facts ≡ None
    → AllByRecursion (IsSoundField nodes) (field_at n path (kind_of facts t))
unfolding limits_fault
sound_field nodes n path facts None h are_read e = tt
sound_field nodes n path facts (Some element_type.Structure) h are_read e = tt
sound_field nodes n path facts (Some element_type.Vector) h are_read e = tt
sound_field nodes n path facts (Some element_type.CompressedVector) h are_read e = tt
sound_field nodes n path facts (Some element_type.Integer) h are_read e =
    let good = good_limits n facts are_read e in
    (record { number = h; valid = record { limits = good.order; width = refl }; in_range = (good.low, good.high); narrow = width-le (unwrap_or facts.minimum (pos 0)) (unwrap_or facts.maximum (pos 0)) }, tt)
sound_field nodes n path facts (Some element_type.ScaledInteger) h are_read e =
    let good = good_limits n facts are_read e in
    (record { number = h; valid = record { limits = good.order; width = refl }; in_range = (good.low, good.high); narrow = width-le (unwrap_or facts.minimum (pos 0)) (unwrap_or facts.maximum (pos 0)) }, tt)
sound_field nodes n path facts (Some element_type.Float) h are_read e = float_sound nodes n (unwrap_or facts.precision 64) path h
sound_field nodes n path facts (Some element_type.String) h are_read e = (record { number = h; valid = record { limits = tt; width = refl }; in_range = tt; narrow = omega arith }, tt)
sound_field nodes n path facts (Some element_type.Blob) h are_read e = tt

fields-append : (nodes : ℕ) (xs ys : List Field) → AllByRecursion (IsSoundField nodes) xs → AllByRecursion (IsSoundField nodes) ys → AllByRecursion (IsSoundField nodes) (xs ++ ys)
fields-append nodes [] ys f g = g
fields-append nodes (x ∷ xs) ys f g = (f.0, fields-append nodes xs ys f.1 g)

mutual
  pub sound_fields : (nodes : ℕ) (path : List ℕ) (n : ℕ) (s : Shape) → n + node_count s ≤ nodes → AreSound (nodes_from n s) → AllByRecursion (IsSoundField nodes) (fields_from path n s)
  sound_fields nodes path n (shape facts below) few sound =
      fields-append nodes (field_at n path (kind_of facts facts.element_type)) (fields_from_all (counts_children facts.element_type) path 0 (n + 1) below)
      (sound_field nodes n path facts facts.element_type (omega arith) sound.0.are_read sound.0.limits_none)
      (sound_fields_all nodes (counts_children facts.element_type) path 0 (n + 1) below (omega arith) sound.1)

  pub sound_fields_all : (nodes : ℕ) (counted : Bool) (path : List ℕ) (position n : ℕ) (ss : Shapes) → n + node_count_all ss ≤ nodes → AreSound (nodes_from_all n ss)
      → AllByRecursion (IsSoundField nodes) (fields_from_all counted path position n ss)
  sound_fields_all nodes counted path position n no_shapes few sound = tt
  sound_fields_all nodes counted path position n (shapes s ss) few sound =
      let parts = sound-parts (nodes_from n s) (nodes_from_all (n + node_count s) ss) sound in
      fields-append nodes (fields_from (child_path counted path position s) n s) (fields_from_all counted path (position + 1) (n + node_count s) ss)
      (sound_fields nodes (child_path counted path position s) n s (omega arith) parts.0)
      (sound_fields_all nodes counted path (position + 1) (n + node_count s) ss (omega arith) parts.1)

-- ---- clouds and blobs

-- a node stands in a tree with so many nodes, all of which are sound below it
record IsInside (nodes : ℕ) (x : Node) : Type 0 where
  few : x.number + 1 + node_count_all x.below ≤ nodes
  sound : AreSound (nodes_below x)

abbrev IsFoundInside : ℕ → Option Node → Type 0
IsFoundInside nodes None = Unit {0}
IsFoundInside nodes (Some x) = IsInside nodes x

child_inside : (nodes n : ℕ) (s : Shape) → n + node_count s ≤ nodes → AreSound (nodes_from n s) → IsInside nodes (node_at n s)
child_inside nodes n (shape facts below) few sound = record { few = omega arith; sound = sound.1 }

found_inside : (nodes n : ℕ) (p : Node → Bool) (ss : Shapes) → n + node_count_all ss ≤ nodes → AreSound (nodes_from_all n ss) → IsFoundInside nodes (find p (children_from n ss))
found_inside nodes n p no_shapes few sound = tt
found_inside nodes n p (shapes s ss) few sound =
    let parts = sound-parts (nodes_from n s) (nodes_from_all (n + node_count s) ss) sound in
    by_test (child_inside nodes n s (omega arith) parts.0) (found_inside nodes (n + node_count s) p ss (omega arith) parts.1) (p (node_at n s))
  where
    by_test : IsInside nodes (node_at n s) → IsFoundInside nodes (find p (children_from (n + node_count s) ss)) → (b : Bool)
        → IsFoundInside nodes (cond b (Some (node_at n s)) (find p (children_from (n + node_count s) ss)))
    by_test here later true = here
    by_test here later false = later

sound_fields_below : (nodes : ℕ) (found : Option Node) → IsFoundInside nodes found → AllByRecursion (IsSoundField nodes) (fields_below found)
sound_fields_below nodes None h = tt
sound_fields_below nodes (Some prototype) h = sound_fields_all nodes (counts_children prototype.facts.element_type) [] 0 (prototype.number + 1) prototype.below h.few h.sound

sound_fields_of : (nodes : ℕ) (x : Node) → IsInside nodes x → AllByRecursion (IsSoundField nodes) (fields_of x)
unfolding fields_of child_named
sound_fields_of nodes x h =
    sound_fields_below nodes (child_named (codes "prototype") (children_of x)) (found_inside nodes (x.number + 1) (λ (y : Node). bytes_eq y.facts.name (codes "prototype")) x.below h.few h.sound)

sound_cloud : (nodes : ℕ) (x : Node) → IsInside nodes x → compressed_vector_fault x (Some element_type.CompressedVector) ≡ None
    → IsSoundCloud nodes x.number (unwrap_or x.facts.record_count 0) (fields_of x)
unfolding compressed_vector_fault
sound_cloud nodes x inside free =
    let count = unwrap_or x.facts.record_count 0 in
    let fields = length (fields_of x) in
    let codecs = codecs_fault x.number (child_named (codes "codecs") (children_of x)) in
    let prototype = prototype_fault x.number (child_named (codes "prototype") (children_of x)) in
    let after_limit = option_or-none (when (ltb max_records count) (fault kind.RecordLimit x.number count)) (option_or codecs (option_or prototype (field_count_fault x.number fields))) free in
    let after_codecs = option_or-none codecs (option_or prototype (field_count_fault x.number fields)) after_limit.1 in
    let after_prototype = option_or-none prototype (field_count_fault x.number fields) after_codecs.1 in
    let counts = or_parts (eqb fields 0) (ltb max_fields fields) (when-none (eqb fields 0 || ltb max_fields fields) (fault kind.FieldCount x.number fields) after_prototype.1) in
    record {
      number = omega (arith, inside.few);
      few_records = ltb-false max_records count (when-none (ltb max_records count) (fault kind.RecordLimit x.number count) after_limit.0);
      some_field = let some = eqb-false fields 0 counts.0 in omega arith;
      few_fields = ltb-false max_fields fields counts.1;
      each = sound_fields_of nodes x inside;
    }

blob_small : (found : Option ℕ) → ((n : ℕ) → found ≡ Some n → n < 2 ^ 64) → unwrap_or found 0 < 2 ^ 64
blob_small None h = lit< tt
blob_small (Some n) h = h n refl

sound_item : (nodes : ℕ) (x : Node) (t : Option ElementType) → IsInside nodes x → AreRead x.facts → compressed_vector_fault x t ≡ None
    → AllByRecursion (IsSoundItem nodes) (cons_option (stated_by x t) [])
sound_item nodes x None inside are_read free = tt
sound_item nodes x (Some element_type.Structure) inside are_read free = tt
sound_item nodes x (Some element_type.Vector) inside are_read free = tt
sound_item nodes x (Some element_type.CompressedVector) inside are_read free = (sound_cloud nodes x inside free, tt)
sound_item nodes x (Some element_type.Integer) inside are_read free = tt
sound_item nodes x (Some element_type.ScaledInteger) inside are_read free = tt
sound_item nodes x (Some element_type.Float) inside are_read free = tt
sound_item nodes x (Some element_type.String) inside are_read free = tt
sound_item nodes x (Some element_type.Blob) inside are_read free = (record { number = omega (arith, inside.few); in_range = blob_small x.facts.blob_length are_read.blob_length }, tt)

items-before : (nodes : ℕ) (found : Option StatedItem) (items : List StatedItem) → AllByRecursion (IsSoundItem nodes) (cons_option found []) → AllByRecursion (IsSoundItem nodes) items
    → AllByRecursion (IsSoundItem nodes) (cons_option found items)
items-before nodes None items f g = g
items-before nodes (Some item) items f g = (f.0, g)

items-append : (nodes : ℕ) (xs ys : List StatedItem) → AllByRecursion (IsSoundItem nodes) xs → AllByRecursion (IsSoundItem nodes) ys → AllByRecursion (IsSoundItem nodes) (xs ++ ys)
items-append nodes [] ys f g = g
items-append nodes (x ∷ xs) ys f g = (f.0, items-append nodes xs ys f.1 g)

mutual
  unfolding stated_item

  sound_items_from : (nodes n : ℕ) (s : Shape) → n + node_count s ≤ nodes → AreSound (nodes_from n s) → AllByRecursion (IsSoundItem nodes) (filter_map stated_item (nodes_from n s))
  sound_items_from nodes n (shape facts below) few sound =
      let x = node_at n (shape facts below) in
      items-before nodes (stated_item x) (filter_map stated_item (nodes_from_all (n + 1) below))
      (sound_item nodes x facts.element_type (child_inside nodes n (shape facts below) few sound) sound.0.are_read sound.0.cloud_none)
      (sound_items_from_all nodes (n + 1) below (omega arith) sound.1)

  sound_items_from_all : (nodes n : ℕ) (ss : Shapes) → n + node_count_all ss ≤ nodes → AreSound (nodes_from_all n ss) → AllByRecursion (IsSoundItem nodes) (filter_map stated_item (nodes_from_all n ss))
  sound_items_from_all nodes n no_shapes few sound = tt
  sound_items_from_all nodes n (shapes s ss) few sound =
      let parts = sound-parts (nodes_from n s) (nodes_from_all (n + node_count s) ss) sound in
      rw (filter_map-append stated_item (nodes_from n s) (nodes_from_all (n + node_count s) ss))
      (items-append nodes (filter_map stated_item (nodes_from n s)) (filter_map stated_item (nodes_from_all (n + node_count s) ss))
      (sound_items_from nodes n s (omega arith) parts.0) (sound_items_from_all nodes (n + node_count s) ss (omega arith) parts.1))

-- A tree without a fault has sound clouds and blobs.
pub sound_items : (e : Element) → typed_fault (shape_of e) ≡ None → AllByRecursion (IsSoundItem (node_count (shape_of e))) (stated_items (shape_of e))
sound_items e free = sound_items_from (node_count (shape_of e)) 0 (shape_of e) (omega arith) (sound_nodes e None 0 free)
