-- Laws of the items of a span: it has no fault exactly if it is found and each field of each of its records is.
use Rattle.std.specs.Prelude.{◌≡◌, ℕ, zero, suc, ◌+◌, ◌-◌, ◌<◌, ◌≤◌, ◌==◌, true, false, List, [], ◌∷◌, map, flat_map, length, slice_get, Option, Some, None, is_none, Result, Contains}
use Rattle.std.specs.List.{range_with_len, AllByRecursion}
use Rattle.std.proofs.Common.{refl, sym, ap, subst, ◌∙◌, arith, ⊎_elim, add-zero, length-append}
use Rattle.std.proofs.lemmas.Bool.{cases_Bool, eqb-true}
use Rattle.std.proofs.lemmas.Option.{same_Some}
use Rattle.std.proofs.lemmas.List.FromFn.{length-range_with_len}
use Rattle.e57_base.specs.declared.fault.Fault.{Fault}
use Rattle.e57_base.proofs.Lists.{all_append}
use Rattle.e57_base.proofs.Options.{option_or_parts}
use Rattle.e57_layout.specs.Values.{Value}
use Rattle.e57_cloud.specs.Section.{section_fault, section_at}
use Rattle.e57_cloud.specs.Cloud.{Leaf, Cloud, fixed_of, section_of}
use Rattle.e57_cloud.specs.PathItem.{path_item, refusal, first_refusal}
use Rattle.e57_spans.specs.Spans.{Span, records_in, IsChain, or_lost, section_spans}
use Rattle.e57_spans.specs.Judged.{fields_refusal, IsSoundRecord, with_items, spans_of}
use Rattle.e57_spans.specs.Lost.{sound, kept_records, kept_count}
use Rattle.e57_spans.proofs.Laws.Chains.{among-cases, chain-records}
use Rattle.e57_spans.proofs.Laws.Found.{lost-chain, section-chain}

-- ---- one field

pub first-none : (look : ℕ → Result Value Fault) (i n : ℕ) → ((j : ℕ) → i ≤ j → j < i + n → refusal (look j) ≡ None) → first_refusal look i n ≡ None
unfolding first_refusal
first-none look i zero each = refl
first-none look i (suc n) each = rw (each i (omega arith) (omega arith), first-none look (i + 1) n (λ j low high. each j (omega arith) (omega arith)))

pub none-first : (look : ℕ → Result Value Fault) (i n j : ℕ) → first_refusal look i n ≡ None → i ≤ j → j < i + n → refusal (look j) ≡ None
unfolding first_refusal
none-first look i zero j none low high = absurd (omega arith)
none-first look i (suc n) j none low high =
    let parts = option_or_parts (refusal (look i)) (first_refusal look (i + 1) n) none in
    ⊎_elim
    (λ (here : (i == j) ≡ true). subst (λ (k : ℕ). refusal (look k) ≡ None) (eqb-true i j here) parts.0)
    (λ (later : (i == j) ≡ false). none-first look (i + 1) n j parts.1 (after i j low later) (omega arith))
    (cases_Bool (i == j))
  where
    after : (i j : ℕ) → i ≤ j → (i == j) ≡ false → i + 1 ≤ j
    after i j low differ = grind (arith, differ)

-- ---- all fields

-- fields from number g on, over records from a on, below b
abbrev AreFound : List ℕ → Cloud → ℕ → List Leaf → ℕ → ℕ → Type 0
AreFound file c g leaves a b = (f : ℕ) (leaf : Leaf) → slice_get leaves f ≡ Some leaf → (j : ℕ) → a ≤ j → j < b → refusal (path_item file c (g + f) leaf j) ≡ None

found-next : (file : List ℕ) (c : Cloud) (g : ℕ) (leaf : Leaf) (leaves : List Leaf) (a b : ℕ) → AreFound file c g (leaf ∷ leaves) a b → AreFound file c (g + 1) leaves a b
found-next file c g leaf leaves a b found f x is j low high =
    let place : g + 1 + f ≡ g + suc f = omega arith in
    rw place (found (suc f) x is j low high)

pub fields-none : (file : List ℕ) (c : Cloud) (g : ℕ) (leaves : List Leaf) (i n : ℕ) → AreFound file c g leaves i (i + n) → fields_refusal file c g leaves i n ≡ None
unfolding fields_refusal
fields-none file c g [] i n found = refl
fields-none file c g (leaf ∷ leaves) i n found =
    let this : (j : ℕ) → i ≤ j → j < i + n → refusal (path_item file c g leaf j) ≡ None = λ j low high. rw add-zero at (found 0 leaf refl j low high) in
    rw (first-none (path_item file c g leaf) i n this, fields-none file c (g + 1) leaves i n (found-next file c g leaf leaves i (i + n) found))

pub none-fields : (file : List ℕ) (c : Cloud) (g : ℕ) (leaves : List Leaf) (i n : ℕ) → fields_refusal file c g leaves i n ≡ None → AreFound file c g leaves i (i + n)
unfolding fields_refusal
none-fields file c g [] i n none f leaf is j low high = cc
none-fields file c g (x ∷ leaves) i n none zero leaf is j low high =
    let parts = option_or_parts (first_refusal (path_item file c g x) i n) (fields_refusal file c (g + 1) leaves i n) none in
    let same : x ≡ leaf = same_Some x leaf is in
    rw (add-zero, ← same) (none-first (path_item file c g x) i n j parts.0 low high)
none-fields file c g (x ∷ leaves) i n none (suc f) leaf is j low high =
    let parts = option_or_parts (first_refusal (path_item file c g x) i n) (fields_refusal file c (g + 1) leaves i n) none in
    let place : g + suc f ≡ g + 1 + f = omega arith in
    rw place (none-fields file c (g + 1) leaves i n parts.1 f leaf is j low high)

-- ---- a span

-- each record of the span is sound
abbrev pub AreSound : List ℕ → Cloud → Span → Type 0
AreSound file c x = (i : ℕ) → x.first ≤ i → i < x.until → IsSoundRecord file c i

pub sound-items : (file : List ℕ) (c : Cloud) (x : Span) → (with_items file c x).fault ≡ None → (x.fault ≡ None) × AreSound file c x
unfolding with_items
sound-items file c x none =
    let parts = option_or_parts x.fault (fields_refusal file c 0 c.leaves x.first (x.until - x.first)) none in
    (parts.0, λ i low high f leaf is. let all = none-fields file c 0 c.leaves x.first (x.until - x.first) parts.1 f leaf is i low (omega arith) in rw zero-plus at all)
  where
    zero-plus : (n : ℕ) → 0 + n ≡ n
    zero-plus n = omega arith

pub items-sound : (file : List ℕ) (c : Cloud) (x : Span) → x.fault ≡ None → x.first ≤ x.until → AreSound file c x → (with_items file c x).fault ≡ None
unfolding with_items
items-sound file c x none order each =
    let all : fields_refusal file c 0 c.leaves x.first (x.until - x.first) ≡ None = fields-none file c 0 c.leaves x.first (x.until - x.first) (λ f leaf is j low high. rw zero-plus (each j low (omega arith) f leaf is)) in
    rw (none, all)
  where
    zero-plus : (n : ℕ) → 0 + n ≡ n
    zero-plus n = omega arith

-- ---- a cloud

items-chain : (file : List ℕ) (c : Cloud) (first until : ℕ) (spans : List Span) → IsChain first until spans → IsChain first until (map (with_items file c) spans)
unfolding with_items
items-chain file c first until [] chain = chain
items-chain file c first until (x ∷ xs) chain = (chain.0, chain.1, items-chain file c x.until until xs chain.2)

pub section-count : (file : List ℕ) (node offset count fields : ℕ) → (section_at file node offset count fields).count ≡ count
unfolding section_at
section-count file node offset count fields = refl

pub found-chain : (file : List ℕ) (c : Cloud) → 0 < c.count → IsChain 0 c.count (or_lost 0 c.count (section_fault file c.node c.offset) (section_spans file (section_of file c) (fixed_of c)))
found-chain file c some =
    let s = section_of file c in
    let size : s.count ≡ c.count = section-count file c.node c.offset c.count _ in
    lost-chain 0 c.count (section_fault file c.node c.offset) (section_spans file s (fixed_of c)) some
    (λ none. subst (λ (n : ℕ). IsChain 0 n (section_spans file s (fixed_of c))) size (section-chain file s (fixed_of c) (omega arith)))

-- The spans of a cloud follow one another from record 0 to its last one.
pub cloud-chain : (file : List ℕ) (c : Cloud) → IsChain 0 c.count (spans_of file c)
unfolding spans_of
cloud-chain file c =
    ⊎_elim
    (λ (none : (c.count == 0) ≡ true). let empty = eqb-true c.count 0 none in rw none (sym empty))
    (λ (some : (c.count == 0) ≡ false).
    rw some
    (items-chain file c 0 c.count (or_lost 0 c.count (section_fault file c.node c.offset) (section_spans file (section_of file c) (fixed_of c))) (found-chain file c (above c.count some))))
    (cases_Bool (c.count == 0))
  where
    above : (n : ℕ) → (n == 0) ≡ false → 0 < n
    above zero none = cc
    above (suc n) some = omega arith

-- ---- the span of a record

pub among-items : (file : List ℕ) (c : Cloud) (spans : List Span) (y : Span) → Contains (map (with_items file c) spans) y → (x : Span) × Contains spans x × (with_items file c x ≡ y)
among-items file c [] y among = absurd (omega (arith, among.1))
among-items file c (x ∷ xs) y among =
    ⊎_elim
    (λ (this : with_items file c x ≡ y). (x, (0, omega arith, refl), this))
    (λ (later : Contains (map (with_items file c) xs) y). let rest = among-items file c xs y later in (rest.0, (suc rest.1.0, omega (arith, rest.1.1), rest.1.2), rest.2))
    (among-cases (with_items file c x) (map (with_items file c) xs) y among)

-- ---- the records that are kept

range-all : (P : ℕ → Type 0) (a n : ℕ) → ((i : ℕ) → a ≤ i → i < a + n → P i) → AllByRecursion P (range_with_len a n)
range-all P a zero each = tt
range-all P a (suc n) each = (each a (omega arith) (omega arith), range-all P (a + 1) n (λ i low high. each i (omega arith) (omega arith)))

none-is : (o : Option Fault) → is_none o ≡ true → o ≡ None
none-is None is = refl
none-is (Some found) is = cc

records-of : (file : List ℕ) (c : Cloud) (x : Span) → (with_items file c x).fault ≡ None → AllByRecursion (IsSoundRecord file c) (records_in (with_items file c x))
unfolding with_items
records-of file c x none = let each = sound-items file c x none in range-all (IsSoundRecord file c) x.first (x.until - x.first) (λ i low high. each.1 i low (omega arith))

sound-first : (y : Span) (ys : List Span) (P : ℕ → Type 0) → (y.fault ≡ None → AllByRecursion P (records_in y)) → AllByRecursion P (flat_map records_in (sound ys)) → AllByRecursion P (flat_map records_in (sound (y ∷ ys)))
sound-first y ys P here rest =
    ⊎_elim
    (λ (kept : is_none y.fault ≡ true). rw kept (all_append P (records_in y) (flat_map records_in (sound ys)) (here (none-is y.fault kept)) rest))
    (λ (lost : is_none y.fault ≡ false). rw lost rest)
    (cases_Bool (is_none y.fault))

records-sound : (file : List ℕ) (c : Cloud) (spans : List Span) → AllByRecursion (IsSoundRecord file c) (flat_map records_in (sound (map (with_items file c) spans)))
records-sound file c [] = tt
records-sound file c (x ∷ xs) = sound-first (with_items file c x) (map (with_items file c) xs) (IsSoundRecord file c) (records-of file c x) (records-sound file c xs)

-- Each field of each record that is kept is found.
pub kept-sound : (file : List ℕ) (c : Cloud) → AllByRecursion (IsSoundRecord file c) (kept_records file c)
unfolding kept_records spans_of
kept-sound file c =
    ⊎_elim
    (λ (none : (c.count == 0) ≡ true). rw none tt)
    (λ (some : (c.count == 0) ≡ false). rw some (records-sound file c (or_lost 0 c.count (section_fault file c.node c.offset) (section_spans file (section_of file c) (fixed_of c)))))
    (cases_Bool (c.count == 0))

-- ---- how many are kept

few-sound : (spans : List Span) → length (flat_map records_in (sound spans)) ≤ length (flat_map records_in spans)
few-sound [] = omega arith
few-sound (x ∷ xs) =
    let rest = few-sound xs in
    let all = length-append (records_in x) (flat_map records_in xs) in
    ⊎_elim
    (λ (kept : is_none x.fault ≡ true). rw (kept, length-append (records_in x) (flat_map records_in (sound xs)), all) (omega arith))
    (λ (lost : is_none x.fault ≡ false). rw (lost, all) (omega arith))
    (cases_Bool (is_none x.fault))

-- No more records are kept than there are.
pub kept-few : (file : List ℕ) (c : Cloud) → kept_count file c ≤ c.count
unfolding kept_records
kept-few file c =
    let few = few-sound (spans_of file c) in
    let all : length (flat_map records_in (spans_of file c)) ≡ c.count - 0 = ap length (chain-records 0 c.count (spans_of file c) (cloud-chain file c)) ∙ length-range_with_len 0 (c.count - 0) in
    omega arith
