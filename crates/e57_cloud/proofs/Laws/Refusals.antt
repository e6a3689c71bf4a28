-- Laws of a field over all records: its first fault over the chunks is the first one that is met record by record, and where
-- it has none, the item of each record is that of its column.
use Rattle.std.specs.Prelude.{◌≡◌, ℕ, zero, suc, ◌+◌, ◌-◌, ◌<◌, ◌≤◌, ◌==◌, false, if◌then◌else◌, List, [], ◌∷◌, ◌++◌, length, get_or, slice_get, Option, Some, None, Result, Ok}
use Rattle.std.specs.Option.{option_or}
use Rattle.std.proofs.Common.{refl, sym, ap, ◌∙◌, arith, ⊎_elim, add-zero, zero-add, length-append}
use Rattle.std.proofs.lemmas.Bool.{cases_lt, ne_eqb}
use Rattle.std.proofs.lemmas.Option.{same_Some}
use Rattle.std.proofs.lemmas.List.{get_or_append_left, get_or-append-add}
use Rattle.e57_base.specs.declared.fault.Fault.{Fault}
use Rattle.e57_layout.specs.Values.{ItemKind, Value, Outcome, here, short, over_limit, out_of_range}
use Rattle.e57_layout.specs.declared.field.Fixed.{Fixed}
use Rattle.e57_layout.specs.declared.section.Section.{Section}
use Rattle.e57_cloud.specs.Section.{section_fault, section_at}
use Rattle.e57_cloud.specs.Walk.{walk_from}
use Rattle.e57_cloud.specs.Index.{index_fault}
use Rattle.e57_cloud.specs.Chunks.{Chunk, chunks, chunks_fault}
use Rattle.e57_cloud.specs.Cloud.{Leaf, Cloud, fixed_of, section_of, outcome_fault, outcome_value, items_fault, items_from, chunk_item, field_fault, column_of, fields_fault, columns_of, body_fault, cloud_fault, records_of, IsBodySound}
use Rattle.e57_cloud.specs.PathItem.{item_of, path_item, refusal, first_refusal}
use Rattle.e57_cloud.proofs.Laws.Reached.{AreReached}
use Rattle.e57_cloud.proofs.Laws.Items.{are-reached, Follow, follow-le, chunks-follow, result_of, item-reached}
use Rattle.e57_base.proofs.Options.{option_or_parts}

pub refusal-append : (look : ℕ → Result Value Fault) (i m n : ℕ) → first_refusal look i (m + n) ≡ option_or (first_refusal look i m) (first_refusal look (i + m) n)
unfolding first_refusal
refusal-append look i zero n = rw (zero-add, add-zero)
refusal-append look i (suc m) n =
    let size : suc m + n ≡ suc (m + n) = omega arith in
    let place : i + suc m ≡ i + 1 + m = omega arith in
    rw (size, place) (ap (option_or (refusal (look i))) (refusal-append look (i + 1) m n) ∙ turn (refusal (look i)) (first_refusal look (i + 1) m) (first_refusal look (i + 1 + m) n))
  where
    turn : (a b c : Option Fault) → option_or a (option_or b c) ≡ option_or (option_or a b) c
    turn None b c = refl
    turn (Some x) b c = refl

refusal-of : (node first : ℕ) (outcome : Outcome) → refusal (result_of node first outcome) ≡ outcome_fault node first outcome
refusal-of node first (here v) = refl
refusal-of node first (short k) = refl
refusal-of node first (over_limit k) = refl
refusal-of node first (out_of_range k) = refl

-- the items of a chunk
items-refused : (look : ℕ → Result Value Fault) (item : ℕ → Outcome) (node first k n : ℕ) → ((i : ℕ) → first + k ≤ i → i < first + k + n → look i ≡ result_of node first (item (i - first))) → items_fault item node first k n ≡ first_refusal look (first + k) n
unfolding items_fault first_refusal
items-refused look item node first k zero same = refl
items-refused look item node first k (suc n) same =
    let number : first + k - first ≡ k = omega arith in
    let this : look (first + k) ≡ result_of node first (item k) = same (first + k) (omega arith) (omega arith) ∙ ap (λ (j : ℕ). result_of node first (item j)) number in
    let place : first + k + 1 ≡ first + (k + 1) = omega arith in
    rw (this, refusal-of node first (item k), place, items-refused look item node first (k + 1) n (λ i low high. same i (omega arith) (omega arith)))

nothing : (look : ℕ → Result Value Fault) (least count : ℕ) → least ≡ count → None ≡ first_refusal look least (count - least)
unfolding first_refusal
nothing look least count same = let none : count - least ≡ 0 = omega arith in rw none

-- the items of a field over chunks that follow one another
field-refused : (file : List ℕ) (s : Section) (fixed : Option Fixed) (f : ℕ) (leaf : Leaf) (least count : ℕ) (chunks : List Chunk) → AreReached file s fixed chunks → Follow least count chunks
    → field_fault f leaf chunks ≡ first_refusal (item_of file s fixed f leaf) least (count - least)
unfolding field_fault
field-refused file s fixed f leaf least count [] reached follow = nothing (item_of file s fixed f leaf) least count follow
field-refused file s fixed f leaf least count (chunk ∷ chunks) reached follow =
    let look = item_of file s fixed f leaf in
    let rest = field-refused file s fixed f leaf chunk.until count chunks reached.1 follow.2 in
    let high = follow-le chunk.until count chunks follow.2 in
    let size : count - least ≡ chunk.until - chunk.first + (count - chunk.until) = omega (arith, follow.0, follow.1) in
    let ends : chunk.first + (chunk.until - chunk.first) ≡ chunk.until = omega (arith, follow.1) in
    let this : items_fault (chunk_item f leaf.kind chunk) leaf.node chunk.first 0 (chunk.until - chunk.first) ≡ first_refusal look (chunk.first + 0) (chunk.until - chunk.first) = items-refused look (chunk_item f leaf.kind chunk) leaf.node chunk.first 0 (chunk.until - chunk.first)
    (λ i low under. item-reached file s fixed f leaf chunk i (reached.0 i (omega arith) (omega (arith, follow.1)))) in
    let all : first_refusal look chunk.first (chunk.until - chunk.first + (count - chunk.until)) ≡ option_or (first_refusal look chunk.first (chunk.until - chunk.first)) (first_refusal look (chunk.first + (chunk.until - chunk.first)) (count - chunk.until)) =
    refusal-append look chunk.first (chunk.until - chunk.first) (count - chunk.until) in
    let first : first_refusal look (chunk.first + 0) (chunk.until - chunk.first) ≡ first_refusal look chunk.first (chunk.until - chunk.first) = ap (λ (i : ℕ). first_refusal look i (chunk.until - chunk.first)) (add-zero chunk.first) in
    let later : first_refusal look (chunk.first + (chunk.until - chunk.first)) (count - chunk.until) ≡ first_refusal look chunk.until (count - chunk.until) = ap (λ (i : ℕ). first_refusal look i (count - chunk.until)) ends in
    ap (λ (found : Option Fault). option_or found (field_fault f leaf chunks)) (this ∙ first)
    ∙ ap (option_or (first_refusal look chunk.first (chunk.until - chunk.first))) (rest ∙ sym later)
    ∙ sym all
    ∙ ap (first_refusal look chunk.first) (sym size)
    ∙ ap (λ (i : ℕ). first_refusal look i (count - least)) follow.0

-- The first fault of a field over the chunks is the first refusal over its records.
pub field-refusal : (file : List ℕ) (s : Section) (fixed : Option Fixed) (f : ℕ) (leaf : Leaf) → IsBodySound file s fixed → field_fault f leaf (chunks file s fixed) ≡ first_refusal (item_of file s fixed f leaf) 0 s.count
field-refusal file s fixed f leaf is =
    let all : s.count - 0 ≡ s.count = omega arith in
    rw all at (field-refused file s fixed f leaf 0 s.count (chunks file s fixed) (are-reached file s fixed is) (chunks-follow file s fixed is))

-- ---- a field without fault

length-items : (look : ℕ → Outcome) (k n : ℕ) → length (items_from look k n) ≡ n
unfolding items_from
length-items look k zero = refl
length-items look k (suc n) = ap suc (length-items look (k + 1) n)

found-of : (node first : ℕ) (outcome : Outcome) → outcome_fault node first outcome ≡ None → result_of node first outcome ≡ Ok (outcome_value outcome)
found-of node first outcome none = rw none

items-at : (item : ℕ → Outcome) (node first k n j : ℕ) (d : Value) → items_fault item node first k n ≡ None → j < n → result_of node first (item (k + j)) ≡ Ok (get_or (items_from item k n) j d)
unfolding items_fault items_from
items-at item node first k zero j d none below = absurd (omega arith)
items-at item node first k (suc n) zero d none below =
    let parts = option_or_parts (outcome_fault node first (item k)) (items_fault item node first (k + 1) n) none in
    rw add-zero (found-of node first (item k) parts.0)
items-at item node first k (suc n) (suc j) d none below =
    let parts = option_or_parts (outcome_fault node first (item k)) (items_fault item node first (k + 1) n) none in
    let place : k + suc j ≡ k + 1 + j = omega arith in
    rw place (items-at item node first (k + 1) n j d parts.1 (omega arith))

-- the column of a field over chunks that follow one another
field-at : (file : List ℕ) (s : Section) (fixed : Option Fixed) (f : ℕ) (leaf : Leaf) (least count : ℕ) (parts : List Chunk) (i : ℕ) (d : Value) → AreReached file s fixed parts → Follow least count parts → field_fault f leaf parts ≡ None
    → least ≤ i → i < count → item_of file s fixed f leaf i ≡ Ok (get_or (column_of f leaf.kind parts) (i - least) d)
unfolding field_fault column_of
field-at file s fixed f leaf least count [] i d reached follow none low high = absurd (omega (arith, follow))
field-at file s fixed f leaf least count (chunk ∷ parts) i d reached follow none low high =
    let both = option_or_parts (items_fault (chunk_item f leaf.kind chunk) leaf.node chunk.first 0 (chunk.until - chunk.first)) (field_fault f leaf parts) none in
    let here_items = items_from (chunk_item f leaf.kind chunk) 0 (chunk.until - chunk.first) in
    let later_items = column_of f leaf.kind parts in
    let size : length here_items ≡ chunk.until - chunk.first = length-items (chunk_item f leaf.kind chunk) 0 (chunk.until - chunk.first) in
    ⊎_elim
    (λ (this : i < chunk.until).
    let number : 0 + (i - chunk.first) ≡ i - least = omega (arith, follow.0) in
    let found = items-at (chunk_item f leaf.kind chunk) leaf.node chunk.first 0 (chunk.until - chunk.first) (i - chunk.first) d both.0 (omega (arith, follow.0)) in
    let first : get_or (here_items ++ later_items) (i - chunk.first) d ≡ get_or here_items (i - chunk.first) d = get_or_append_left here_items later_items d (i - chunk.first) (omega (arith, follow.0)) in
    let same : i - chunk.first ≡ i - least = omega (arith, follow.0) in
    item-reached file s fixed f leaf chunk i (reached.0 i (omega (arith, follow.0)) this)
    ∙ ap (λ (k : ℕ). result_of leaf.node chunk.first (chunk_item f leaf.kind chunk k)) (sym (zero-add (i - chunk.first)))
    ∙ found ∙ ap Ok (sym first) ∙ ap (λ (k : ℕ). Ok (get_or (here_items ++ later_items) k d)) same)
    (λ (past : chunk.until ≤ i).
    let rest = field-at file s fixed f leaf chunk.until count parts i d reached.1 follow.2 both.1 past high in
    let place : i - least ≡ length here_items + (i - chunk.until) = omega (arith, follow.0, follow.1) in
    rest ∙ ap Ok (sym (get_or-append-add here_items later_items (i - chunk.until) d)) ∙ ap (λ (k : ℕ). Ok (get_or (here_items ++ later_items) k d)) (sym place))
    (cases_lt i chunk.until)

-- Where a field has no fault over the chunks, the item of each record is that of its column.
pub field-item : (file : List ℕ) (s : Section) (fixed : Option Fixed) (f : ℕ) (leaf : Leaf) (i : ℕ) (d : Value) → IsBodySound file s fixed → field_fault f leaf (chunks file s fixed) ≡ None → i < s.count
    → item_of file s fixed f leaf i ≡ Ok (get_or (column_of f leaf.kind (chunks file s fixed)) i d)
field-item file s fixed f leaf i d is none below =
    let number : i - 0 ≡ i = omega arith in
    rw number at (field-at file s fixed f leaf 0 s.count (chunks file s fixed) i d (are-reached file s fixed is) (chunks-follow file s fixed is) none (omega arith) below)

-- the column has an item for each record
field-count : (f : ℕ) (kind : ItemKind) (least count : ℕ) (parts : List Chunk) → Follow least count parts → least + length (column_of f kind parts) ≡ count
unfolding column_of
field-count f kind least count [] follow = rw add-zero follow
field-count f kind least count (chunk ∷ parts) follow =
    let rest = field-count f kind chunk.until count parts follow.2 in
    let size : length (items_from (chunk_item f kind chunk) 0 (chunk.until - chunk.first)) ≡ chunk.until - chunk.first = length-items (chunk_item f kind chunk) 0 (chunk.until - chunk.first) in
    rw (length-append (items_from (chunk_item f kind chunk) 0 (chunk.until - chunk.first)) (column_of f kind parts), size) (omega (arith, follow.0, follow.1))

pub column-count : (file : List ℕ) (s : Section) (fixed : Option Fixed) (f : ℕ) (kind : ItemKind) → IsBodySound file s fixed → length (column_of f kind (chunks file s fixed)) ≡ s.count
column-count file s fixed f kind is = let all = field-count f kind 0 s.count (chunks file s fixed) (chunks-follow file s fixed is) in omega arith

-- ---- a cloud without fault

-- all parts of a cloud with records and without fault have none
pub record IsCloudSound (file : List ℕ) (c : Cloud) : Type 0 where
  pub header : section_fault file c.node c.offset ≡ None
  pub body : IsBodySound file (section_of file c) (fixed_of c)
  pub fields : fields_fault 0 c.leaves (chunks file (section_of file c) (fixed_of c)) ≡ None

section-count : (file : List ℕ) (node offset count fields : ℕ) → (section_at file node offset count fields).count ≡ count
unfolding section_at
section-count file node offset count fields = refl

pub cloud-sound : (file : List ℕ) (c : Cloud) → 0 < c.count → cloud_fault file c ≡ None → IsCloudSound file c
unfolding cloud_fault body_fault
cloud-sound file c some none =
    let s = section_of file c in
    let counted : (c.count == 0) ≡ false = ne_eqb c.count 0 (λ zero_count. omega arith) in
    let first = option_or_parts (section_fault file c.node c.offset) _ (rw counted at none) in
    let second = option_or_parts (if s.index == 0 then None else index_fault file s) _ first.1 in
    let third = option_or_parts (walk_from file s s.data_place).fault _ second.1 in
    let fourth = option_or_parts (chunks_fault file s (fixed_of c)) _ third.1 in
    record {
      header = first.0;
      body = record { some = rw section-count some; index = second.0; packets = third.0; chunks_ok = fourth.0 };
      fields = fourth.1;
    }

-- one of the fields, from field g on
field-of : (g f : ℕ) (leaves : List Leaf) (parts : List Chunk) (leaf : Leaf) → fields_fault g leaves parts ≡ None → slice_get leaves f ≡ Some leaf → (field_fault (g + f) leaf parts ≡ None) × (get_or (columns_of g leaves parts) f [] ≡ column_of (g + f) leaf.kind parts)
unfolding fields_fault columns_of
field-of g f [] parts leaf none is = cc
field-of g zero (x ∷ leaves) parts leaf none is =
    let both = option_or_parts (field_fault g x parts) (fields_fault (g + 1) leaves parts) none in
    let same : x ≡ leaf = same_Some x leaf is in
    rw (add-zero, ← same) (both.0, refl)
field-of g (suc f) (x ∷ leaves) parts leaf none is =
    let both = option_or_parts (field_fault g x parts) (fields_fault (g + 1) leaves parts) none in
    let place : g + suc f ≡ g + 1 + f = omega arith in
    rw place (field-of (g + 1) f leaves parts leaf both.1 is)

-- In a cloud without fault each item by its path is that of the records.
pub path_item-record : (file : List ℕ) (c : Cloud) (f : ℕ) (leaf : Leaf) (i : ℕ) (d : Value) → cloud_fault file c ≡ None → slice_get c.leaves f ≡ Some leaf → i < c.count → path_item file c f leaf i ≡ Ok (get_or (get_or (records_of file c) f []) i d)
unfolding path_item records_of
path_item-record file c f leaf i d none is below =
    let sound = cloud-sound file c (omega arith) none in
    let counted : (c.count == 0) ≡ false = ne_eqb c.count 0 (λ zero_count. omega arith) in
    let field = field-of 0 f c.leaves (chunks file (section_of file c) (fixed_of c)) leaf sound.fields is in
    rw (sound.header, counted, field.1, zero-add) (field-item file (section_of file c) (fixed_of c) f leaf i d sound.body (rw zero-add at (field.0)) (rw section-count below))
