-- The law of one item: where index, packets and chunks have no fault, the item of each record by its path is the item of its
-- chunk. So the first fault of a field over the chunks is the first that is met record by record.
use Rattle.std.specs.Prelude.{◌≡◌, ℕ, ◌+◌, ◌-◌, ◌<◌, ◌≤◌, ◌==◌, true, false, List, [], ◌∷◌, length, map, pos, Option, Some, None, Result, Ok}
use Rattle.e57_page.specs.Place.{place}
use Rattle.std.specs.List.{onto_first}
use Rattle.std.proofs.Common.{refl, ap, subst, ◌∙◌, arith, ⊎_elim}
use Rattle.std.proofs.lemmas.Bool.{cases_Bool}
use Rattle.e57_base.specs.declared.fault.Fault.{Fault}
use Rattle.e57_layout.specs.Values.{ItemKind, integers, words, strings, Value, whole, Outcome, here, short, over_limit, out_of_range}
use Rattle.e57_layout.specs.Widths.{width}
use Rattle.e57_layout.specs.Strings.{string_length_at}
use Rattle.e57_layout.specs.Items.{item_at}
use Rattle.e57_layout.specs.declared.packet.Entry.{Entry}
use Rattle.e57_layout.specs.declared.field.Fixed.{Fixed}
use Rattle.e57_layout.specs.declared.section.Section.{Section}
use Rattle.e57_cloud.specs.Walk.{Packet, walk_from}
use Rattle.e57_cloud.specs.Index.{entries, Rises}
use Rattle.e57_cloud.specs.Chunks.{cut, compared, data_packets, stream_of, by_chunk, packets_by_chunk, starts_fault, float_items, restarts_fault, unindexed_fault, counted, Chunk, head_or, with_records, chunk_firsts, chunks, chunks_fault}
use Rattle.e57_cloud.specs.Cloud.{Leaf, outcome_fault, outcome_value, IsBodySound}
use Rattle.e57_cloud.specs.PathItem.{unless, and_then, chunk_at, answer, item_in, constant_of, item_by, item_of, length_of}
use Rattle.e57_cloud.proofs.Laws.Pieces.{HasPieces, walk-pieces}
use Rattle.e57_cloud.proofs.Laws.Descents.{entries-rise}
use Rattle.e57_cloud.proofs.Laws.Reached.{goes_on-from, head-first, IsReached, AreReached, indexed-reached, single-reached, cover-reached}
use Rattle.e57_base.proofs.Options.{option_or_parts}

unindexed-reached : (file : List ℕ) (s : Section) (fixed : Option Fixed) (pieces : List (List Packet)) → (s.index == 0) ≡ true → HasPieces file s s.data_place pieces → unindexed_fault s fixed pieces ≡ None
    → AreReached file s fixed (with_records s.count (counted fixed 0 pieces) pieces)
unfolding with_records counted chunk_at
unindexed-reached file s fixed [] plain has sound = tt
unindexed-reached file s None (chunk ∷ more) plain has sound = single-reached file s chunk more plain has sound
unindexed-reached file s (Some fixed) (chunk ∷ more) plain has sound = cover-reached file s fixed (s.end - s.data_place) 0 s.data_place chunk more plain has sound (omega arith) (λ i low high. rw plain)

pub are-reached : (file : List ℕ) (s : Section) (fixed : Option Fixed) → IsBodySound file s fixed → AreReached file s fixed (chunks file s fixed)
unfolding chunks chunks_fault chunk_firsts packets_by_chunk
are-reached file s fixed is =
    let has = walk-pieces file s s.data_place is.packets in
    ⊎_elim
    (λ (plain : (s.index == 0) ≡ true). rw plain (unindexed-reached file s fixed (by_chunk (data_packets (walk_from file s s.data_place).packets)) plain has (rw plain at is.chunks_ok)))
    (λ (indexed : (s.index == 0) ≡ false).
    rw indexed
    (indexed-reached file s fixed 0 s.data_place (entries file s) (by_chunk (data_packets (walk_from file s s.data_place).packets)) (record { indexed = indexed; sound = rw indexed at is.index; some = is.some }) (λ e until has_it. has_it) has (rw indexed at is.chunks_ok)))
    (cases_Bool (s.index == 0))

-- ---- the records of the chunks follow one another

abbrev pub Follow : ℕ → ℕ → List Chunk → Type 0
Follow least count [] = least ≡ count
Follow least count (chunk ∷ chunks) = (chunk.first ≡ least) × (chunk.first ≤ chunk.until) × Follow chunk.until count chunks

pub follow-le : (least count : ℕ) (chunks : List Chunk) → Follow least count chunks → least ≤ count
follow-le least count [] follow = omega (arith, follow)
follow-le least count (chunk ∷ chunks) follow = let rest = follow-le chunk.until count chunks follow.2 in omega (arith, follow.0, follow.1)

next-after : (first count : ℕ) (es : List Entry) → Rises (first + 1) count es → first < count → first ≤ head_or count (map (λ (e : Entry). e.first) es)
next-after first count [] up low = omega arith
next-after first count (e ∷ es) up low = omega (arith, up.0)

indexed-follow : (s : Section) (j least : ℕ) (es : List Entry) (pieces : List (List Packet)) → Rises least s.count es → starts_fault s j es pieces ≡ None → Follow (head_or s.count (map (λ (e : Entry). e.first) es)) s.count (with_records s.count (map (λ (e : Entry). e.first) es) pieces)
unfolding starts_fault with_records
indexed-follow s j least [] pieces up sound = refl
indexed-follow s j least (e ∷ es) [] up sound = cc
indexed-follow s j least (e ∷ es) ([] ∷ pieces) up sound = cc
indexed-follow s j least (e ∷ es) ((p ∷ ps) ∷ pieces) up sound =
    (refl, next-after e.first s.count es up.2 up.1, indexed-follow s (j + 1) (e.first + 1) es pieces up.2 (option_or_parts (compared s j e p.place (place e.place)) (starts_fault s (j + 1) es pieces) sound).1)

unindexed-follow : (s : Section) (fixed : Option Fixed) (first : ℕ) (chunk : List Packet) (more : List (List Packet)) → first ≤ s.count → restarts_fault s fixed first chunk more ≡ None → Follow first s.count (with_records s.count (counted fixed first (chunk ∷ more)) (chunk ∷ more))
unfolding with_records counted
unindexed-follow s fixed first chunk [] low sound = (refl, low, refl)
unindexed-follow s fixed first chunk (next ∷ more) low sound =
    let goes = goes_on-from s fixed first chunk next more sound in
    (refl, omega arith, unindexed-follow s fixed (first + float_items fixed chunk) next more (omega (arith, goes.left)) goes.rest)

by_chunk-some : (ps : List Packet) → 0 < length (by_chunk ps)
unfolding by_chunk
by_chunk-some [] = omega arith
by_chunk-some (p ∷ ps) = onto p (cut ps)
  where
    onto : (p : Packet) (pieces : List (List Packet)) → 0 < length (onto_first p pieces)
    onto p [] = omega arith
    onto p (piece ∷ pieces) = omega arith

pieces-follow : (s : Section) (fixed : Option Fixed) (pieces : List (List Packet)) → 0 < length pieces → unindexed_fault s fixed pieces ≡ None → Follow 0 s.count (with_records s.count (counted fixed 0 pieces) pieces)
pieces-follow s fixed [] some sound = absurd (omega arith)
pieces-follow s fixed (chunk ∷ more) some sound = unindexed-follow s fixed 0 chunk more (omega arith) sound

pub chunks-follow : (file : List ℕ) (s : Section) (fixed : Option Fixed) → IsBodySound file s fixed → Follow 0 s.count (chunks file s fixed)
unfolding chunks chunks_fault chunk_firsts packets_by_chunk
chunks-follow file s fixed is =
    ⊎_elim
    (λ (plain : (s.index == 0) ≡ true).
    rw plain (pieces-follow s fixed (by_chunk (data_packets (walk_from file s s.data_place).packets)) (by_chunk-some (data_packets (walk_from file s s.data_place).packets)) (rw plain at is.chunks_ok)))
    (λ (indexed : (s.index == 0) ≡ false).
    let up = entries-rise file s (rw indexed at is.index) is.some in
    let pieces = by_chunk (data_packets (walk_from file s s.data_place).packets) in
    let begins : head_or s.count (map (λ (e : Entry). e.first) (entries file s)) ≡ 0 = head-first s.count (entries file s) ∙ up.1 s.count in
    rw indexed
    (subst (λ (least : ℕ). Follow least s.count (with_records s.count (map (λ (e : Entry). e.first) (entries file s)) pieces)) begins
    (indexed-follow s 0 0 (entries file s) pieces up.0 (rw indexed at is.chunks_ok))))
    (cases_Bool (s.index == 0))

-- ---- the item of a record

-- what is answered for an item that was looked for in a chunk with this first record
abbrev pub result_of : ℕ → ℕ → Outcome → Result Value Fault
result_of node first outcome = unless (outcome_fault node first outcome) (Ok (outcome_value outcome))

answer-none : (node first : ℕ) (outcome : Outcome) → answer node first None outcome ≡ result_of node first outcome
answer-none node first (here v) = refl
answer-none node first (short k) = refl
answer-none node first (over_limit k) = refl
answer-none node first (out_of_range k) = refl

pub item_in-reached : (file : List ℕ) (s : Section) (fixed : Option Fixed) (f node : ℕ) (look : List ℕ → ℕ → Outcome) (chunk : Chunk) (i : ℕ) → IsReached file s fixed chunk i
    → and_then (chunk_at file s fixed i) (item_in file s fixed f node look i) ≡ result_of node chunk.first (look (stream_of f chunk.packets) (i - chunk.first))
unfolding item_in
item_in-reached file s fixed f node look chunk i reached = rw (reached.at, reached.walked, reached.ended) (answer-none node chunk.first (look (stream_of f chunk.packets) (i - chunk.first)))

value_or : Option Value → Value
value_or None = whole (pos 0)
value_or (Some v) = v

pub never : (v : Value) → ◌≡◌ {A = Option Value} None (Some v) → ⊥
never v is = cc

pub constant-found : (kind : ItemKind) (v : Value) (stream : List ℕ) (k : ℕ) → constant_of kind ≡ Some v → item_at kind stream k ≡ here v
unfolding item_at value_or
constant-found (integers low high) v stream k is =
    ⊎_elim
    (λ (fixed : (width low high == 0) ≡ true). rw fixed (ap (λ (o : Option Value). here (value_or o)) (rw fixed at is)))
    (λ (free : (width low high == 0) ≡ false). absurd (never v (rw free at is)))
    (cases_Bool (width low high == 0))
constant-found (words w) v stream k is = cc
constant-found strings v stream k is = cc

-- The item of a record by its path is that of its chunk.
pub item-reached : (file : List ℕ) (s : Section) (fixed : Option Fixed) (f : ℕ) (leaf : Leaf) (chunk : Chunk) (i : ℕ) → IsReached file s fixed chunk i
    → item_of file s fixed f leaf i ≡ result_of leaf.node chunk.first (item_at leaf.kind (stream_of f chunk.packets) (i - chunk.first))
unfolding item_of
item-reached file s fixed f leaf chunk i reached = by_constant (constant_of leaf.kind) refl
  where
    by_constant : (o : Option Value) → constant_of leaf.kind ≡ o → item_by file s fixed f leaf i o ≡ result_of leaf.node chunk.first (item_at leaf.kind (stream_of f chunk.packets) (i - chunk.first))
    by_constant None is = item_in-reached file s fixed f leaf.node (item_at leaf.kind) chunk i reached
    by_constant (Some v) is = rw (reached.on_path, constant-found leaf.kind v (stream_of f chunk.packets) (i - chunk.first) is)

-- and so is the length of a string
pub length-reached : (file : List ℕ) (s : Section) (fixed : Option Fixed) (f : ℕ) (leaf : Leaf) (chunk : Chunk) (i : ℕ) → IsReached file s fixed chunk i
    → length_of file s fixed f leaf i ≡ result_of leaf.node chunk.first (string_length_at 0 (stream_of f chunk.packets) (i - chunk.first))
unfolding length_of
length-reached file s fixed f leaf chunk i reached = item_in-reached file s fixed f leaf.node (string_length_at 0) chunk i reached
