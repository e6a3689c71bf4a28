-- The content with narrow limits: it is valid where the content was, and has the same narrow limits.
use Rattle.std.specs.Prelude.{◌≡◌, ℕ, ◌^◌, ◌<◌, ◌==◌, ℤ, pos, negsuc, ◌≤ℤ◌, int_lt, Bool, true, false, cond, List, [], ◌∷◌, ◌++◌, Option, Some, None}
use Rattle.std.specs.Int.{int_min, int_max}
use Rattle.std.specs.Int.Signed.{mag}
use Rattle.std.specs.List.{AllByRecursion}
use Rattle.std.proofs.Common.{refl, sym, ap, subst, ◌∙◌, arith, inl, inr, eq-eqb}
use Rattle.std.proofs.lemmas.Int.{ints, clamps}
use Rattle.e57_layout.specs.declared.field.Field.{Field}
use Rattle.e57_layout.specs.Values.{ItemKind, integers, words, strings, Value, whole, word, octets, item_kind}
use Rattle.e57_layout.specs.Items.{AreItems, AreColumns}
use Rattle.e57_elements.specs.Tree.{Element}
use Rattle.e57_nodes.specs.Shape.{shape_of, node_count}
use Rattle.e57_nodes.specs.Items.{StatedItem, stated_cloud, stated_blob, stated_items}
use Rattle.e57_nodes.specs.Limits.{with_limits}
use Rattle.e57_nodes.proofs.Laws.Sound.{AreInRange, IsSoundField, IsSoundItem, sound_items}
use Rattle.e57_verdict.specs.Things.{Body, records_body, bytes_body}
use Rattle.e57_verdict.specs.Content.{Content}
use Rattle.e57_plain.specs.Valid.{kinds_in, AreBodies, items_in, IsValid}
use Rattle.e57_plain.specs.Tight.{widened, range_of, field_items, node_items, range_in, tight}
use Rattle.e57_plain.proofs.Laws.Limits.{IsRange, AreRanges, AreLimited, with_limits-shape}
use Rattle.e57_plain.proofs.Laws.LimitedTrees.{IsLawful-with_limits, without_places-with_limits, with_limits-twice}
use Rattle.e57_plain.proofs.Laws.Narrowed.{limited-typed_fault, IsLimitedKind, AreLimitedFields, AreLimitedItems, limited-items}

-- ---- the range of some items

-- an integer is a signed number of 64 bits
abbrev IsSmall : Value → Type 0
IsSmall (whole z) = mag z < 2 ^ 63
IsSmall (word n) = Unit {0}
IsSmall (octets t) = Unit {0}

-- an integer is within the range
abbrev IsWithin : ℤ × ℤ → Value → Type 0
IsWithin range (whole z) = (range.0 ≤ℤ z) × (z ≤ℤ range.1)
IsWithin range (word n) = Unit {0}
IsWithin range (octets t) = Unit {0}

abbrev AreWithin : ℤ × ℤ → List Value → Type 0
AreWithin range values = AllByRecursion (IsWithin range) values

-- there is no integer, or all are within the range
abbrev IsRangeOf : Option (ℤ × ℤ) → List Value → Type 0
IsRangeOf None values = (range : ℤ × ℤ) → AreWithin range values
IsRangeOf (Some range) values = IsRange range × AreWithin range values

wider : (range other : ℤ × ℤ) (values : List Value) → other.0 ≤ℤ range.0 → range.1 ≤ℤ other.1 → AreWithin range values → AreWithin other values
wider range other [] low high are = tt
wider range other (whole z ∷ values) low high are = ((below other.0 range.0 z low are.0.0, below z range.1 other.1 are.0.1 high), wider range other values low high are.1) where
  below : (a b c : ℤ) → a ≤ℤ b → b ≤ℤ c → a ≤ℤ c
  below a b c h g = omega (arith, ints)
wider range other (word n ∷ values) low high are = (tt, wider range other values low high are.1)
wider range other (octets t ∷ values) low high are = (tt, wider range other values low high are.1)

-- one integer more
min-low : (z a : ℤ) → (int_min z a ≤ℤ z) × (int_min z a ≤ℤ a)
min-low z a = (omega (arith, ints, clamps), omega (arith, ints, clamps))

max-high : (z a : ℤ) → (z ≤ℤ int_max z a) × (a ≤ℤ int_max z a)
max-high z a = (omega (arith, ints, clamps), omega (arith, ints, clamps))

min-small : (z a : ℤ) → mag z < 2 ^ 63 → mag a < 2 ^ 63 → mag (int_min z a) < 2 ^ 63
min-small z a h g = by_test (int_lt a z) where
  by_test : (b : Bool) → mag (cond b a z) < 2 ^ 63
  by_test true = g
  by_test false = h

max-small : (z a : ℤ) → mag z < 2 ^ 63 → mag a < 2 ^ 63 → mag (int_max z a) < 2 ^ 63
max-small z a h g = by_test (int_lt a z) where
  by_test : (b : Bool) → mag (cond b z a) < 2 ^ 63
  by_test true = h
  by_test false = g

at-most : (a b c d : ℤ) → a ≤ℤ b → b ≤ℤ c → c ≤ℤ d → a ≤ℤ d
at-most a b c d h g f = omega (arith, ints)

widened-is : (z : ℤ) (found : Option (ℤ × ℤ)) (values : List Value) → mag z < 2 ^ 63 → IsRangeOf found values → IsRangeOf (widened z found) (whole z ∷ values)
widened-is z None values small are = (record { order = omega (arith, ints); low = small; high = small }, ((omega (arith, ints), omega (arith, ints)), are (z, z)))
widened-is z (Some range) values small (is, are) =
    let low = min-low z range.0 in
    let high = max-high z range.1 in (
      record {
        order = at-most (int_min z range.0) z z (int_max z range.1) low.0 (omega (arith, ints)) high.0;
        low = min-small z range.0 small is.low;
        high = max-small z range.1 small is.high;
      },
      ((low.0, high.0), wider range (int_min z range.0, int_max z range.1) values low.1 high.1 are),
    )

blind : (range : ℤ × ℤ) (found : Option (ℤ × ℤ)) (value : Value) (values : List Value) → ((other : ℤ × ℤ) → IsWithin other value) → IsRangeOf found values → IsRangeOf found (value ∷ values)
blind range None value values free are = λ other. (free other, are other)
blind range (Some found) value values free (is, are) = (is, (free found, are))

range-is : (values : List Value) → AllByRecursion IsSmall values → IsRangeOf (range_of values) values
range-is [] small = λ range. tt
range-is (whole z ∷ values) small = widened-is z (range_of values) values small.0 (range-is values small.1)
range-is (word n ∷ values) small = blind (pos 0, pos 0) (range_of values) (word n) values (λ other. tt) (range-is values small.1)
range-is (octets t ∷ values) small = blind (pos 0, pos 0) (range_of values) (octets t) values (λ other. tt) (range-is values small.1)

-- ---- the items of a node are small

values-append : (P : Value → Type 0) (xs ys : List Value) → AllByRecursion P xs → AllByRecursion P ys → AllByRecursion P (xs ++ ys)
values-append P [] ys f g = g
values-append P (x ∷ xs) ys f g = (f.0, values-append P xs ys f.1 g)

values-parts : (P : Value → Type 0) (xs ys : List Value) → AllByRecursion P (xs ++ ys) → AllByRecursion P xs × AllByRecursion P ys
values-parts P [] ys h = (tt, h)
values-parts P (x ∷ xs) ys h = let later = values-parts P xs ys h.1 in ((h.0, later.0), later.1)

items-small : (kind : ItemKind) (column : List Value) → AreInRange kind → AreItems kind column → AllByRecursion IsSmall column
items-small kind [] range are = tt
items-small (integers low high) (whole z ∷ column) range are = (between low z high are.0.0 are.0.1 range.0 range.1, items-small (integers low high) column range are.1) where
  between : (low z high : ℤ) → low ≤ℤ z → z ≤ℤ high → mag low < 2 ^ 63 → mag high < 2 ^ 63 → mag z < 2 ^ 63
  between (pos a) (pos b) (pos c) f g h k = omega (arith, ints)
  between (pos a) (pos b) (negsuc c) f g h k = omega (arith, ints)
  between (pos a) (negsuc b) (pos c) f g h k = omega (arith, ints)
  between (pos a) (negsuc b) (negsuc c) f g h k = omega (arith, ints)
  between (negsuc a) (pos b) (pos c) f g h k = omega (arith, ints)
  between (negsuc a) (pos b) (negsuc c) f g h k = omega (arith, ints)
  between (negsuc a) (negsuc b) (pos c) f g h k = omega (arith, ints)
  between (negsuc a) (negsuc b) (negsuc c) f g h k = omega (arith, ints)
items-small (integers low high) (word n ∷ column) range are = absurd are.0
items-small (integers low high) (octets t ∷ column) range are = absurd are.0
items-small (words w) (whole z ∷ column) range are = absurd are.0
items-small (words w) (word n ∷ column) range are = (tt, items-small (words w) column range are.1)
items-small (words w) (octets t ∷ column) range are = absurd are.0
items-small strings (whole z ∷ column) range are = absurd are.0
items-small strings (word n ∷ column) range are = absurd are.0
items-small strings (octets t ∷ column) range are = (tt, items-small strings column range are.1)

chosen : (P : Value → Type 0) (b : Bool) (column : List Value) → AllByRecursion P column → AllByRecursion P (cond b column [])
chosen P true column are = are
chosen P false column are = tt

field_items-small : (nodes node count : ℕ) (fields : List Field) (columns : List (List Value)) → AllByRecursion (IsSoundField nodes) fields → AreColumns (kinds_in fields) count columns → AllByRecursion IsSmall (field_items node fields columns)
field_items-small nodes node count [] columns sound are = tt
field_items-small nodes node count (field ∷ fields) [] sound are = tt
field_items-small nodes node count (field ∷ fields) (column ∷ columns) sound are =
    values-append IsSmall (cond (field.node == node) column []) (field_items node fields columns)
    (chosen IsSmall (field.node == node) column (items-small (item_kind field.kind) column sound.0.in_range are.1))
    (field_items-small nodes node count fields columns sound.1 are.2)

node_items-small : (nodes node : ℕ) (items : List StatedItem) (bodies : List Body) → AllByRecursion (IsSoundItem nodes) items → AreBodies items bodies → AllByRecursion IsSmall (node_items node items bodies)
node_items-small nodes node [] bodies sound are = tt
node_items-small nodes node (item ∷ items) [] sound are = tt
node_items-small nodes node (stated_cloud n count fields ∷ items) (records_body columns ∷ bodies) sound are =
    values-append IsSmall (field_items node fields columns) (node_items node items bodies)
    (field_items-small nodes node count fields columns sound.0.each are.0) (node_items-small nodes node items bodies sound.1 are.1)
node_items-small nodes node (stated_cloud n count fields ∷ items) (bytes_body bytes ∷ bodies) sound are = absurd are.0
node_items-small nodes node (stated_blob n size ∷ items) (body ∷ bodies) sound are = node_items-small nodes node items bodies sound.1 are.1

-- ---- the ranges of a valid content

range_in-is : (content : Content) (node : ℕ) → IsValid content → IsRangeOf (range_in content node) (node_items node (items_in content) content.bodies)
unfolding range_in
range_in-is content node valid =
    range-is (node_items node (items_in content) content.bodies)
    (node_items-small (node_count (shape_of content.tree)) node (items_in content) content.bodies (sound_items content.tree valid.typed) valid.bodies)

-- the ranges cover the items of some nodes
abbrev Covers : (ℕ → Option (ℤ × ℤ)) → (ℕ → List Value) → Type 0
Covers ranges values = (node : ℕ) (range : ℤ × ℤ) → ranges node ≡ Some range → AreWithin range (values node)

range-some : (found : Option (ℤ × ℤ)) (values : List Value) (range : ℤ × ℤ) → IsRangeOf found values → found ≡ Some range → IsRange range × AreWithin range values
range-some None values range are is = absurd (cc)
range-some (Some other) values range are is =
    let same : other ≡ range = cc in
    subst (λ (r : ℤ × ℤ). IsRange r × AreWithin r values) same are

ranges-are : (content : Content) → IsValid content → AreRanges (range_in content)
ranges-are content valid node range is = (range-some (range_in content node) (node_items node (items_in content) content.bodies) range (range_in-is content node valid) is).0

ranges-cover : (content : Content) → IsValid content → Covers (range_in content) (λ node. node_items node (items_in content) content.bodies)
ranges-cover content valid node range is = (range-some (range_in content node) (node_items node (items_in content) content.bodies) range (range_in-is content node valid) is).1

-- ---- bodies

narrow-items : (range : ℤ × ℤ) (low high : ℤ) (column : List Value) → AreWithin range column → AreItems (integers low high) column → AreItems (integers range.0 range.1) column
narrow-items range low high [] within are = tt
narrow-items range low high (whole z ∷ column) within are = (within.0, narrow-items range low high column within.1 are.1)
narrow-items range low high (word n ∷ column) within are = absurd are.0
narrow-items range low high (octets t ∷ column) within are = absurd are.0

kind-items : (found : Option (ℤ × ℤ)) (kind other : ItemKind) (column : List Value) → ((range : ℤ × ℤ) → found ≡ Some range → IsRange range) → ((range : ℤ × ℤ) → found ≡ Some range → AreWithin range column) → IsLimitedKind found kind other → AreItems kind column → AreItems other column
kind-items found kind other column ok covers (inl same) are = subst (λ (k : ItemKind). AreItems k column) (sym same) are
kind-items found kind other column ok covers (inr (range, is, low, high, was, now)) are =
    subst (λ (k : ItemKind). AreItems k column) (sym (now (ok range is))) (narrow-items range low high column (covers range is) (subst (λ (k : ItemKind). AreItems k column) was are))

narrow-columns : (ranges : ℕ → Option (ℤ × ℤ)) (count : ℕ) (fields others : List Field) (columns : List (List Value)) → AreRanges ranges → Covers ranges (λ node. field_items node fields columns) → AreLimitedFields ranges fields others
    → AreColumns (kinds_in fields) count columns → AreColumns (kinds_in others) count columns
narrow-columns ranges count [] [] columns ok covers limited are = are
narrow-columns ranges count [] (other ∷ others) columns ok covers limited are = absurd limited
narrow-columns ranges count (field ∷ fields) [] columns ok covers limited are = absurd limited
narrow-columns ranges count (field ∷ fields) (other ∷ others) [] ok covers limited are = absurd are
narrow-columns ranges count (field ∷ fields) (other ∷ others) (column ∷ columns) ok covers limited are = (
  are.0,
  kind-items (ranges field.node) (item_kind field.kind) (item_kind other.kind) column (ok field.node) here limited.1 are.1,
  narrow-columns ranges count fields others columns ok (λ node range is. (values-parts (IsWithin range) (cond (field.node == node) column []) (field_items node fields columns) (covers node range is)).1) limited.2 are.2,
)
  where
    here : (range : ℤ × ℤ) → ranges field.node ≡ Some range → AreWithin range column
    here range is =
        subst (λ (b : Bool). AreWithin range (cond b column [])) (eq-eqb field.node field.node refl)
        (values-parts (IsWithin range) (cond (field.node == field.node) column []) (field_items field.node fields columns) (covers field.node range is)).0

narrow-bodies : (ranges : ℕ → Option (ℤ × ℤ)) (items others : List StatedItem) (bodies : List Body) → AreRanges ranges → Covers ranges (λ node. node_items node items bodies) → AreLimitedItems ranges items others → AreBodies items bodies → AreBodies others bodies
narrow-bodies ranges [] [] bodies ok covers limited are = are
narrow-bodies ranges [] (other ∷ others) bodies ok covers limited are = absurd limited
narrow-bodies ranges (item ∷ items) [] bodies ok covers limited are = absurd limited
narrow-bodies ranges (item ∷ items) (other ∷ others) [] ok covers limited are = absurd are
narrow-bodies ranges (stated_cloud n count fields ∷ items) (stated_blob m size ∷ others) (body ∷ bodies) ok covers limited are = absurd limited.0
narrow-bodies ranges (stated_blob n size ∷ items) (stated_cloud m count fields ∷ others) (body ∷ bodies) ok covers limited are = absurd limited.0
narrow-bodies ranges (stated_blob n size ∷ items) (stated_blob m large ∷ others) (records_body columns ∷ bodies) ok covers limited are = absurd are.0
narrow-bodies ranges (stated_blob n size ∷ items) (stated_blob m large ∷ others) (bytes_body bytes ∷ bodies) ok covers limited are =
    (are.0 ∙ sym limited.0.1, narrow-bodies ranges items others bodies ok covers limited.1 are.1)
narrow-bodies ranges (stated_cloud n count fields ∷ items) (stated_cloud m many kinds ∷ others) (bytes_body bytes ∷ bodies) ok covers limited are = absurd are.0
narrow-bodies ranges (stated_cloud n count fields ∷ items) (stated_cloud m many kinds ∷ others) (records_body columns ∷ bodies) ok covers limited are = (
  subst (λ k. AreColumns (kinds_in kinds) k columns) (sym limited.0.1)
      (narrow-columns ranges count fields kinds columns ok (λ node range is. (values-parts (IsWithin range) (field_items node fields columns) (node_items node items bodies) (covers node range is)).0) limited.0.2 are.0),
  narrow-bodies ranges items others bodies ok (λ node range is. (values-parts (IsWithin range) (field_items node fields columns) (node_items node items bodies) (covers node range is)).1) limited.1 are.1,
)

-- ---- the whole

tight-shape : (content : Content) → AreLimited (range_in content) 0 (shape_of content.tree) (shape_of (tight content).tree)
unfolding tight
tight-shape content = with_limits-shape (range_in content) 0 content.tree

-- The content with narrow limits is valid.
pub tight-valid : (content : Content) → IsValid content → IsValid (tight content)
unfolding tight
tight-valid content valid =
    let ok = ranges-are content valid in
    let limited = tight-shape content in
    record {
      is_lawful = IsLawful-with_limits (range_in content) content.tree ok valid.is_lawful;
      typed = limited-typed_fault (range_in content) (shape_of content.tree) (shape_of (with_limits (range_in content) 0 content.tree)) ok limited valid.typed;
      no_places = without_places-with_limits (range_in content) content.tree valid.no_places;
      bodies =
          narrow-bodies (range_in content) (items_in content) (stated_items (shape_of (with_limits (range_in content) 0 content.tree))) content.bodies ok (ranges-cover content valid)
          (limited-items (range_in content) (shape_of content.tree) (shape_of (with_limits (range_in content) 0 content.tree)) limited) valid.bodies;
    }

same-field_items : (ranges : ℕ → Option (ℤ × ℤ)) (node : ℕ) (fields others : List Field) (columns : List (List Value)) → AreLimitedFields ranges fields others → field_items node others columns ≡ field_items node fields columns
same-field_items ranges node [] [] columns limited = refl
same-field_items ranges node [] (other ∷ others) columns limited = absurd limited
same-field_items ranges node (field ∷ fields) [] columns limited = absurd limited
same-field_items ranges node (field ∷ fields) (other ∷ others) [] limited = refl
same-field_items ranges node (field ∷ fields) (other ∷ others) (column ∷ columns) limited =
    ap (λ (k : ℕ). cond (k == node) column [] ++ field_items node others columns) limited.0
    ∙ ap (λ (values : List Value). cond (field.node == node) column [] ++ values) (same-field_items ranges node fields others columns limited.2)

same-node_items : (ranges : ℕ → Option (ℤ × ℤ)) (node : ℕ) (items others : List StatedItem) (bodies : List Body) → AreLimitedItems ranges items others → node_items node others bodies ≡ node_items node items bodies
same-node_items ranges node [] [] bodies limited = refl
same-node_items ranges node [] (other ∷ others) bodies limited = absurd limited
same-node_items ranges node (item ∷ items) [] bodies limited = absurd limited
same-node_items ranges node (item ∷ items) (other ∷ others) [] limited = refl
same-node_items ranges node (stated_cloud n count fields ∷ items) (stated_blob m size ∷ others) (body ∷ bodies) limited = absurd limited.0
same-node_items ranges node (stated_blob n size ∷ items) (stated_cloud m count fields ∷ others) (body ∷ bodies) limited = absurd limited.0
same-node_items ranges node (stated_blob n size ∷ items) (stated_blob m large ∷ others) (body ∷ bodies) limited = same-node_items ranges node items others bodies limited.1
same-node_items ranges node (stated_cloud n count fields ∷ items) (stated_cloud m many kinds ∷ others) (bytes_body bytes ∷ bodies) limited = same-node_items ranges node items others bodies limited.1
same-node_items ranges node (stated_cloud n count fields ∷ items) (stated_cloud m many kinds ∷ others) (records_body columns ∷ bodies) limited =
    ap (λ (values : List Value). values ++ node_items node others bodies) (same-field_items ranges node fields kinds columns limited.0.2)
    ∙ ap (λ (values : List Value). field_items node fields columns ++ values) (same-node_items ranges node items others bodies limited.1)

same-range : (content : Content) (node : ℕ) → range_in (tight content) node ≡ range_in content node
unfolding range_in tight
same-range content node =
    ap range_of
    (same-node_items (range_in content) node (items_in content) (stated_items (shape_of (with_limits (range_in content) 0 content.tree))) content.bodies
    (limited-items (range_in content) (shape_of content.tree) (shape_of (with_limits (range_in content) 0 content.tree)) (tight-shape content)))

-- Narrow limits are not made narrower.
pub tight-twice : (content : Content) → tight (tight content) ≡ tight content
unfolding tight
tight-twice content =
    ap (λ (e : Element). record { tree = e; bodies = content.bodies })
    (with_limits-twice (range_in content) (range_in (tight content)) 0 content.tree (λ k. same-range content k))
