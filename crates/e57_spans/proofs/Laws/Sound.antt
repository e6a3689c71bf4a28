-- A cloud without fault has no lost span, and all its records are kept as they are.
use Rattle.std.specs.Prelude.{◌≡◌, ℕ, zero, suc, ◌+◌, ◌-◌, ◌<◌, ◌≤◌, ◌==◌, nat_lt, true, false, List, [], ◌∷◌, length, map, flat_map, get_or, slice_get, Option, Some, None, is_some, Ok, pos}
use Rattle.std.specs.List.{range_with_len, AllByRecursion}
use Rattle.std.proofs.Common.{refl, sym, ap, ◌∙◌, arith, ⊎_elim, add-zero, zero-add}
use Rattle.std.proofs.lemmas.Bool.{cases_Bool, lt-ltb, eqb-true}
use Rattle.std.proofs.lemmas.Option.{same_Some}
use Rattle.std.proofs.lemmas.List.{same_lists}
use Rattle.std.proofs.lemmas.List.FromFn.{length-map-range_with_len, get_or-map-range_with_len}
use Rattle.e57_base.specs.declared.fault.Fault.{Fault}
use Rattle.e57_base.proofs.Lists.{all_append}
use Rattle.e57_base.proofs.Options.{option_or_parts}
use Rattle.e57_layout.specs.Values.{Value, whole}
use Rattle.e57_layout.specs.declared.section.Section.{Section}
use Rattle.e57_layout.specs.declared.packet.Entry.{Entry}
use Rattle.e57_layout.specs.declared.field.Fixed.{Fixed}
use Rattle.e57_cloud.specs.Section.{section_fault}
use Rattle.e57_cloud.specs.Walk.{Packet, walk_from}
use Rattle.e57_cloud.specs.Index.{entries_of, next_first, index_packet_fault, each_fault, entry_fault, root_fault, root_level, root_entry, index_fault}
use Rattle.e57_cloud.specs.Chunks.{data_packets, cut, by_chunk, packets_by_chunk, start_of, float_items, restarts_fault, unindexed_fault, Chunk, chunks, chunks_fault}
use Rattle.e57_cloud.specs.Cloud.{Leaf, Cloud, fixed_of, section_of, column_of, columns_of, cloud_fault, records_of, IsBodySound}
use Rattle.e57_cloud.specs.PathItem.{stretch, path_item, refusal}
use Rattle.e57_cloud.proofs.Laws.Indexes.{entry_fault-suc}
use Rattle.e57_cloud.proofs.Laws.Fronts.{length-onto_some}
use Rattle.e57_cloud.proofs.Laws.Pieces.{by_chunk-is, by_chunk-none, HasPieces, pieces-next, pieces-stretch, walk-pieces}
use Rattle.e57_cloud.proofs.Laws.Reached.{goes_on-from}
use Rattle.e57_cloud.proofs.Laws.Refusals.{cloud-sound, column-count, path_item-record}
use Rattle.e57_spans.specs.Spans.{Span, span, records_in, IsChain, or_lost, each_span, entry_spans, index_spans, next_start, walk_spans, section_spans}
use Rattle.e57_spans.specs.Judged.{with_items, spans_of, IsSoundRecord}
use Rattle.e57_spans.specs.Lost.{lost, sound, lost_spans, kept_records}
use Rattle.e57_spans.specs.Saved.{found_value, items_of, columns_from, saved_columns}
use Rattle.e57_spans.proofs.Laws.Chains.{chain-le, chain-records}
use Rattle.e57_spans.proofs.Laws.Items.{items-sound, section-count, found-chain, cloud-chain}

-- none of the spans has a fault
abbrev pub HaveNone : List Span → Type 0
HaveNone spans = AllByRecursion (λ (x : Span). x.fault ≡ None) spans

one-none : (first until : ℕ) → HaveNone (span first until None ∷ [])
one-none first until = (refl, tt)

lost-none : (first until : ℕ) (found : Option Fault) (spans : List Span) → found ≡ None → HaveNone spans → HaveNone (or_lost first until found spans)
lost-none first until found spans none have = rw none have

-- ---- with an index

each-none : (f : Entry → ℕ → List Span) (g : Entry → ℕ → Option Fault) (bound : ℕ) (es : List Entry) → ((e : Entry) (ends : ℕ) → g e ends ≡ None → HaveNone (f e ends)) → each_fault g bound es ≡ None → HaveNone (each_span f bound es)
unfolding each_span each_fault
each-none f g bound [] each none = tt
each-none f g bound (e ∷ es) each none =
    let parts = option_or_parts (g e (next_first bound es)) (each_fault g bound es) none in
    all_append (λ (x : Span). x.fault ≡ None) (f e (next_first bound es)) (each_span f bound es) (each e (next_first bound es) parts.0) (each-none f g bound es each parts.1)

entry-none : (file : List ℕ) (s : Section) (height : ℕ) (e : Entry) (bound : ℕ) → entry_fault file s height e bound ≡ None → HaveNone (entry_spans file s height e bound)
unfolding entry_spans
entry-none file s zero e bound none = one-none e.first bound
entry-none file s (suc level) e bound none =
    let parts = option_or_parts (index_packet_fault file s level e bound) (each_fault (entry_fault file s level) bound (entries_of file e.place)) (sym (entry_fault-suc file s level e bound) ∙ none) in
    lost-none e.first bound (index_packet_fault file s level e bound) (each_span (entry_spans file s level) bound (entries_of file e.place)) parts.0
    (each-none (entry_spans file s level) (entry_fault file s level) bound (entries_of file e.place) (λ x ends sound_entry. entry-none file s level x ends sound_entry) parts.1)

index-none : (file : List ℕ) (s : Section) → index_fault file s ≡ None → HaveNone (index_spans file s)
unfolding index_fault index_spans
index-none file s none =
    let parts = option_or_parts (root_fault file s) (entry_fault file s (suc (root_level file s)) (root_entry s) s.count) none in
    lost-none 0 s.count (root_fault file s) (entry_spans file s (suc (root_level file s)) (root_entry s) s.count) parts.0 (entry-none file s (suc (root_level file s)) (root_entry s) s.count parts.1)

-- ---- without an index

next-none : (file : List ℕ) (s : Section) (q : ℕ) (packets : List Packet) (next : Option ℕ) → stretch file s q ≡ record { packets = packets; fault = None; next = next } → next_start file s q ≡ next
unfolding next_start
next-none file s q packets None walked = rw walked refl
next-none file s q packets (Some n) walked = rw walked refl

walk-none : (file : List ℕ) (s : Section) (fixed : Option Fixed) (fuel first q : ℕ) (chunk : List Packet) (more : List (List Packet)) → HasPieces file s q (chunk ∷ more) → restarts_fault s fixed first chunk more ≡ None → HaveNone (walk_spans file s fixed fuel first q)
unfolding walk_spans
walk-none file s fixed zero first q chunk more has sound_chunks = one-none first s.count
walk-none file s fixed (suc fuel) first q chunk [] has sound_chunks =
    let walked = pieces-stretch file s q (chunk ∷ []) has in
    rw (next-none file s q chunk None walked, walked) (one-none first s.count)
walk-none file s fixed (suc fuel) first q chunk (next ∷ more) has sound_chunks =
    let walked = pieces-stretch file s q (chunk ∷ next ∷ more) has in
    let goes = goes_on-from s fixed first chunk next more sound_chunks in
    let later = pieces-next file s q chunk next more has in
    let left : nat_lt (first + float_items fixed chunk) s.count ≡ true = lt-ltb (first + float_items fixed chunk) s.count goes.left in
    rw (next-none file s q chunk (Some (start_of next)) walked, walked, goes.some, left)
    (refl, walk-none file s fixed fuel (first + float_items fixed chunk) (start_of next) next more later.pieces goes.rest)

unindexed-none : (file : List ℕ) (s : Section) (fixed : Option Fixed) (fuel : ℕ) (pieces : List (List Packet)) → HasPieces file s s.data_place pieces → 0 < length pieces → unindexed_fault s fixed pieces ≡ None → HaveNone (walk_spans file s fixed fuel 0 s.data_place)
unindexed-none file s fixed fuel [] has some none = absurd (omega arith)
unindexed-none file s fixed fuel (chunk ∷ more) has some none = walk-none file s fixed fuel 0 s.data_place chunk more has none

chunk-some : (ps : List Packet) → 0 < length (by_chunk ps)
chunk-some [] = rw by_chunk-none (omega arith)
chunk-some (p ∷ ps) = rw (by_chunk-is p ps) (length-onto_some p (cut ps))

-- ---- a section

section-none : (file : List ℕ) (s : Section) (fixed : Option Fixed) → IsBodySound file s fixed → HaveNone (section_spans file s fixed)
unfolding section_spans chunks_fault packets_by_chunk
section-none file s fixed is =
    ⊎_elim
    (λ (plain : (s.index == 0) ≡ true).
    rw plain
    (unindexed-none file s fixed (s.end - s.data_place) (by_chunk (data_packets (walk_from file s s.data_place).packets)) (walk-pieces file s s.data_place is.packets) (chunk-some (data_packets (walk_from file s s.data_place).packets)) (rw plain at is.chunks_ok)))
    (λ (indexed : (s.index == 0) ≡ false). rw indexed (index-none file s (rw indexed at is.index)))
    (cases_Bool (s.index == 0))

-- ---- a cloud

items-none : (file : List ℕ) (c : Cloud) (first until : ℕ) (spans : List Span) → IsChain first until spans → HaveNone spans → ((i : ℕ) → first ≤ i → i < until → IsSoundRecord file c i) → HaveNone (map (with_items file c) spans)
items-none file c first until [] chain none each = tt
items-none file c first until (x ∷ xs) chain none each =
    let most = chain-le x.until until xs chain.2 in (
      items-sound file c x none.0 (omega (arith, chain.0, chain.1)) (λ i low high. each i (omega (arith, chain.0)) (omega arith)),
      items-none file c x.until until xs chain.2 none.1 (λ i low high. each i (omega (arith, chain.1)) high),
    )

record-sound : (file : List ℕ) (c : Cloud) (i : ℕ) → cloud_fault file c ≡ None → i < c.count → IsSoundRecord file c i
record-sound file c i none below f leaf is = ap refusal (path_item-record file c f leaf i (whole (pos 0)) none is below)

-- none of its spans is lost
pub spans-none : (file : List ℕ) (c : Cloud) → cloud_fault file c ≡ None → HaveNone (spans_of file c)
unfolding spans_of
spans-none file c none =
    ⊎_elim
    (λ (empty : (c.count == 0) ≡ true). rw empty tt)
    (λ (some : (c.count == 0) ≡ false).
    let counted : 0 < c.count = above c.count some in
    let is = cloud-sound file c counted none in
    let found = lost-none 0 c.count (section_fault file c.node c.offset) (section_spans file (section_of file c) (fixed_of c)) is.header (section-none file (section_of file c) (fixed_of c) is.body) in
    rw some
    (items-none file c 0 c.count (or_lost 0 c.count (section_fault file c.node c.offset) (section_spans file (section_of file c) (fixed_of c))) (found-chain file c counted) found
    (λ i low high. record-sound file c i none high)))
    (cases_Bool (c.count == 0))
  where
    above : (n : ℕ) → (n == 0) ≡ false → 0 < n
    above zero none = cc
    above (suc n) some = omega arith

none-lost : (spans : List Span) → HaveNone spans → (lost spans ≡ []) × (sound spans ≡ spans)
none-lost [] none = (refl, refl)
none-lost (x ∷ xs) none =
    let rest = none-lost xs none.1 in
    let is : is_some x.fault ≡ false = ap is_some none.0 in
    rw is (rest.0, ap (λ (later : List Span). x ∷ later) rest.1)

pub none-is-lost : (file : List ℕ) (c : Cloud) → cloud_fault file c ≡ None → lost_spans file c ≡ []
unfolding lost_spans
none-is-lost file c none = (none-lost (spans_of file c) (spans-none file c none)).0

-- and all its records are kept
pub all-kept : (file : List ℕ) (c : Cloud) → cloud_fault file c ≡ None → kept_records file c ≡ range_with_len 0 c.count
unfolding kept_records
all-kept file c none =
    let all : c.count - 0 ≡ c.count = omega arith in
    let same = (none-lost (spans_of file c) (spans-none file c none)).1 in
    ap (flat_map records_in) same ∙ chain-records 0 c.count (spans_of file c) (cloud-chain file c) ∙ ap (range_with_len 0) all

-- ---- the columns

column-same : (file : List ℕ) (c : Cloud) (f : ℕ) (leaf : Leaf) (column : List Value) → length column ≡ c.count → ((i : ℕ) (d : Value) → i < c.count → path_item file c f leaf i ≡ Ok (get_or column i d)) → items_of file c f leaf (range_with_len 0 c.count) ≡ column
column-same file c f leaf column many each =
    let look : ℕ → Value = λ i. found_value (path_item file c f leaf i) in
    let size : length (map look (range_with_len 0 c.count)) ≡ c.count = length-map-range_with_len look 0 c.count in
    same_lists (map look (range_with_len 0 c.count)) column (size ∙ sym many)
    (λ k d below. let low : k < c.count = omega arith in get_or-map-range_with_len look 0 c.count k k d low (zero-add k) ∙ ap found_value (each k d low))

-- the columns of fields from number g on are those of these
columns-same : (file : List ℕ) (c : Cloud) (g : ℕ) (leaves : List Leaf) (parts : List Chunk)
    → ((f : ℕ) (leaf : Leaf) → slice_get leaves f ≡ Some leaf → items_of file c (g + f) leaf (range_with_len 0 c.count) ≡ column_of (g + f) leaf.kind parts) → columns_from file c g leaves (range_with_len 0 c.count) ≡ columns_of g leaves parts
unfolding columns_from columns_of
columns-same file c g [] parts each = refl
columns-same file c g (leaf ∷ leaves) parts each =
    let this : items_of file c g leaf (range_with_len 0 c.count) ≡ column_of g leaf.kind parts = rw add-zero at (each 0 leaf refl) in
    let rest = columns-same file c (g + 1) leaves parts (λ f x is. let place : g + 1 + f ≡ g + suc f = omega arith in rw place (each (suc f) x is)) in
    ap (λ (column : List Value). column ∷ columns_from file c (g + 1) leaves (range_with_len 0 c.count)) this
    ∙ ap (λ (columns : List (List Value)). column_of g leaf.kind parts ∷ columns) rest

columns-empty : (file : List ℕ) (c : Cloud) (g : ℕ) (leaves : List Leaf) → columns_from file c g leaves [] ≡ map (λ (leaf : Leaf). []) leaves
unfolding columns_from
columns-empty file c g [] = refl
columns-empty file c g (leaf ∷ leaves) = ap (λ (columns : List (List Value)). [] ∷ columns) (columns-empty file c (g + 1) leaves)

columns-at : (g f : ℕ) (leaves : List Leaf) (parts : List Chunk) (leaf : Leaf) → slice_get leaves f ≡ Some leaf → get_or (columns_of g leaves parts) f [] ≡ column_of (g + f) leaf.kind parts
unfolding columns_of
columns-at g f [] parts leaf is = cc
columns-at g zero (x ∷ leaves) parts leaf is = let same : x ≡ leaf = same_Some x leaf is in rw (add-zero, ← same) refl
columns-at g (suc f) (x ∷ leaves) parts leaf is = let place : g + suc f ≡ g + 1 + f = omega arith in rw place (columns-at (g + 1) f leaves parts leaf is)

records-are : (file : List ℕ) (c : Cloud) → (c.count == 0) ≡ false → records_of file c ≡ columns_of 0 c.leaves (chunks file (section_of file c) (fixed_of c))
unfolding records_of
records-are file c some = rw some refl

columns-all : (file : List ℕ) (c : Cloud) → cloud_fault file c ≡ None → (c.count == 0) ≡ false → columns_from file c 0 c.leaves (range_with_len 0 c.count) ≡ records_of file c
columns-all file c none some =
    let parts = chunks file (section_of file c) (fixed_of c) in
    let is = cloud-sound file c (above c.count some) none in
    let size : (section_of file c).count ≡ c.count = section-count file c.node c.offset c.count _ in
    columns-same file c 0 c.leaves parts
    (λ f leaf there.
    column-same file c (0 + f) leaf (column_of (0 + f) leaf.kind parts) (column-count file (section_of file c) (fixed_of c) (0 + f) leaf.kind is.body ∙ size)
    (λ i d below.
    let column : get_or (records_of file c) f [] ≡ column_of (0 + f) leaf.kind parts = ap (λ (columns : List (List Value)). get_or columns f []) (records-are file c some) ∙ columns-at 0 f c.leaves parts leaf there in
    let plain : 0 + f ≡ f = omega arith in
    ap (λ (n : ℕ). path_item file c n leaf i) plain ∙ path_item-record file c f leaf i d none there below ∙ ap (λ (items : List Value). Ok (get_or items i d)) column))
    ∙ sym (records-are file c some)
  where
    above : (n : ℕ) → (n == 0) ≡ false → 0 < n
    above zero none = cc
    above (suc n) some = omega arith

records-none : (file : List ℕ) (c : Cloud) → (c.count == 0) ≡ true → records_of file c ≡ map (λ (leaf : Leaf). []) c.leaves
unfolding records_of
records-none file c empty = rw empty refl

-- What is saved of a cloud without fault is all its records.
pub all-saved : (file : List ℕ) (c : Cloud) → cloud_fault file c ≡ None → saved_columns file c ≡ records_of file c
unfolding saved_columns
all-saved file c none =
    ap (columns_from file c 0 c.leaves) (all-kept file c none)
    ∙ ⊎_elim
    (λ (empty : (c.count == 0) ≡ true).
    let zero_count = eqb-true c.count 0 empty in
    ap (λ (n : ℕ). columns_from file c 0 c.leaves (range_with_len 0 n)) zero_count ∙ columns-empty file c 0 c.leaves ∙ sym (records-none file c empty))
    (λ (some : (c.count == 0) ≡ false). columns-all file c none some)
    (cases_Bool (c.count == 0))
