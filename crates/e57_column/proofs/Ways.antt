-- An item of a chunk is the column's, and a page on the way to it is one on the way to the column's.
use Rattle.std.specs.Prelude.{◌≡◌, ℕ, zero, suc, ◌+◌, ◌-◌, ◌==◌, ◌⊎◌, ◌&&◌, min, not, Bool, true, false, if◌then◌else◌, List, Option, Some, None, is_none, IsSomeAnd, Result, Ok, Err}
use Rattle.std.specs.Result.{IsOkAnd}
use Rattle.std.proofs.Common.{refl, sym, subst, inl, inr, ⊎_elim}
use Rattle.std.proofs.lemmas.Bool.{cases_Bool, eqb-true, eqb-false}
use Rattle.e57_base.specs.Fault.{fault}
use Rattle.e57_base.specs.declared.fault.Fault.{Fault}
use Rattle.e57_base.specs.declared.kind.Kind.TheVariants.{RestartUnindexed}
use Rattle.e57_layout.specs.Values.{ItemKind, Outcome}
use Rattle.e57_layout.specs.Items.{item_at}
use Rattle.e57_layout.specs.Strings.{string_length_at}
use Rattle.e57_layout.specs.declared.section.Section.{Section}
use Rattle.e57_layout.specs.declared.field.Fixed.{Fixed}
use Rattle.e57_cloud.specs.Section.{or_zero}
use Rattle.e57_cloud.specs.Chunks.{float_items}
use Rattle.e57_cloud.specs.Cloud.{Leaf}
use Rattle.e57_cloud.specs.PathItem.{ChunkAt, and_then, unless, path, Stretch, stretch, reaches_end, is_covered, covered, cover, chunk_at, item_in, constant_of, item_of, length_of}
use Rattle.e57_cloud.specs.Met.{OnWalk, lacks_item, lacks_record, goes_on, OnCover, OnChunk, OnWalks, OnItem}
use Rattle.e57_ahead.specs.Counting.{OnWay}
use Rattle.e57_stream.specs.declared.bytestream.Bytestream.{Bytestream}
use Rattle.e57_column.specs.Finding.{IsIn, OnSearch}

-- ---- the item of a record

abbrev Leads : Result ChunkAt Fault → ℕ → ℕ → Type 0
Leads r start place = IsOkAnd r (λ chunk. (chunk.first ≡ start) × (chunk.place ≡ place))

then_in : (file : List ℕ) (s : Section) (fixed : Option Fixed) (f node : ℕ) (look : List ℕ → ℕ → Outcome) (i start place until : ℕ) (r : Result ChunkAt Fault) → Leads r start place
    → and_then r (item_in file s fixed f node look i) ≡ item_in file s fixed f node look i (record { first = start; until = until; place = place })
unfolding item_in
then_in file s fixed f node look i start place until (Ok chunk) is = rw (is.0, is.1) refl
then_in file s fixed f node look i start place until (Err found) is = absurd is

-- the item of a record of a chunk is looked for in the chunk
pub item_of-in : (file : List ℕ) (b : Bytestream) (leaf : Leaf) (i start place until : ℕ) → constant_of leaf.kind ≡ None → IsIn file b start place i
    → item_of file b.section b.fixed b.field leaf i ≡ item_in file b.section b.fixed b.field leaf.node (item_at leaf.kind) i (record { first = start; until = until; place = place })
unfolding item_of
item_of-in file b leaf i start place until varies is = rw varies (then_in file b.section b.fixed b.field leaf.node (item_at leaf.kind) i start place until (chunk_at file b.section b.fixed i) is)

pub length_of-in : (file : List ℕ) (b : Bytestream) (leaf : Leaf) (i start place until : ℕ) → IsIn file b start place i
    → length_of file b.section b.fixed b.field leaf i ≡ item_in file b.section b.fixed b.field leaf.node (string_length_at 0) i (record { first = start; until = until; place = place })
unfolding length_of
length_of-in file b leaf i start place until is = then_in file b.section b.fixed b.field leaf.node (string_length_at 0) i start place until (chunk_at file b.section b.fixed i) is

-- a fault on the way to the chunk is that of the item
pub item_of-lost : (file : List ℕ) (b : Bytestream) (leaf : Leaf) (i : ℕ) (found : Fault) → constant_of leaf.kind ≡ None → chunk_at file b.section b.fixed i ≡ Err found → item_of file b.section b.fixed b.field leaf i ≡ Err found
unfolding item_of
item_of-lost file b leaf i found varies is = rw (varies, is) refl

pub length_of-lost : (file : List ℕ) (b : Bytestream) (leaf : Leaf) (i : ℕ) (found : Fault) → chunk_at file b.section b.fixed i ≡ Err found → length_of file b.section b.fixed b.field leaf i ≡ Err found
unfolding length_of
length_of-lost file b leaf i found is = rw is refl

-- ---- the way through a chunk

-- packets that lack an item don't tell of the record either
wider : (file : List ℕ) (s : Section) (fixed : Fixed) (f : ℕ) (kind : ItemKind) (i first q p : ℕ) → OnWalk file s (lacks_item f kind i first) q p → OnWalk file s (lacks_record fixed f kind i first) q p
unfolding lacks_record
wider file s fixed f kind i first q p way = let wanting = way.wanting in record { before = way.before; q = way.q; walked = way.walked; there = way.there; wanting = rw wanting refl; within = way.within }

choose : (test : Bool) (found : Option Fault) (none : Bool) (d : ChunkAt) (e : Fault) (r : Result ChunkAt Fault) (start place : ℕ) → Leads (if test then Ok d else unless found (if none then Err e else r)) start place
    → ((d.first ≡ start) × (d.place ≡ place)) ⊎ (((not test && (is_none found && not none)) ≡ true) × Leads r start place)
choose true found none d e r start place is = inl is
choose false (Some x) none d e r start place is = absurd is
choose false None true d e r start place is = absurd is
choose false None false d e r start place is = inr (refl, is)

-- Where the search ends at some chunk, it is this one, or it goes on.
here_or_on : (s : Section) (i first q items : ℕ) (w : Stretch) (go : ℕ → Result ChunkAt Fault) (start place : ℕ) → Leads (covered s i first q items w go) start place
    → ((first ≡ start) × (q ≡ place)) ⊎ ((goes_on i first items w ≡ true) × Leads (go (or_zero w.next)) start place)
here_or_on s i first q items w go start place is =
    choose (is_covered i first items w) w.fault (items == 0) (record { first = first; until = if reaches_end w then s.count else min s.count (first + items); place = q }) (fault RestartUnindexed s.node (or_zero w.next)) (go (or_zero w.next)) start place is

moved : (file : List ℕ) (s : Section) (f : ℕ) (kind : ItemKind) (i p first q start place : ℕ) → (first ≡ start) × (q ≡ place) → OnWalk file s (lacks_item f kind i start) place p → OnWalk file s (lacks_item f kind i first) q p
moved file s f kind i p first q start place same walk =
    subst (λ (n : ℕ). OnWalk file s (lacks_item f kind i n) q p) (sym same.0) (subst (λ (n : ℕ). OnWalk file s (lacks_item f kind i start) n p) (sym same.1) walk)

-- the walk through the chunk at which the search ends is one of the search's walks
on_cover : (file : List ℕ) (s : Section) (fixed : Fixed) (f : ℕ) (kind : ItemKind) (i p fuel first q start place : ℕ) → Leads (cover file s fixed i fuel first q) start place
    → OnWalk file s (lacks_item f kind i start) place p → OnCover file s fixed f kind i p fuel first q
unfolding cover OnCover
on_cover file s fixed f kind i p zero first q start place is walk = wider file s fixed f kind i first q p (moved file s f kind i p first q start place is walk)
on_cover file s fixed f kind i p (suc fuel) first q start place is walk =
    let items = float_items (Some fixed) (stretch file s q).packets in
    ⊎_elim
    (λ (same : (first ≡ start) × (q ≡ place)). inl (wider file s fixed f kind i first q p (moved file s f kind i p first q start place same walk)))
    (λ (on : (goes_on i first items (stretch file s q) ≡ true) × Leads (cover file s fixed i fuel (first + items) (or_zero (stretch file s q).next)) start place).
    inr (on.0, on_cover file s fixed f kind i p fuel (first + items) (or_zero (stretch file s q).next) start place on.1 walk))
    (here_or_on s i first q items (stretch file s q) (λ next. cover file s fixed i fuel (first + items) next) start place is)

on_chunk : (file : List ℕ) (s : Section) (f : ℕ) (kind : ItemKind) (i p start place : ℕ) (r : Result ChunkAt Fault) → Leads r start place → OnWalk file s (lacks_item f kind i start) place p → OnChunk file s f kind i p r
on_chunk file s f kind i p start place (Ok chunk) is walk = moved file s f kind i p chunk.first chunk.place start place is walk
on_chunk file s f kind i p start place (Err found) is walk = absurd is

on_walks : (file : List ℕ) (s : Section) (fixed : Option Fixed) (f : ℕ) (kind : ItemKind) (i p start place : ℕ) → Leads (chunk_at file s fixed i) start place → OnWalk file s (lacks_item f kind i start) place p → OnWalks file s fixed f kind i p
unfolding chunk_at
on_walks file s None f kind i p start place is walk = on_chunk file s f kind i p start place (path file s i) is walk
on_walks file s (Some fixed) f kind i p start place is walk =
    ⊎_elim
    (λ (unindexed : (s.index == 0) ≡ true). inl (eqb-true s.index 0 unindexed, on_cover file s fixed f kind i p (s.end - s.data_place) 0 s.data_place start place (rw unindexed at is) walk))
    (λ (indexed : (s.index == 0) ≡ false). inr (eqb-false s.index 0 indexed, on_chunk file s f kind i p start place (path file s i) (rw indexed at is) walk))
    (cases_Bool (s.index == 0))

-- a page on the way through the chunk to an item is one on the way to the column's item
pub walk-item : (file : List ℕ) (b : Bytestream) (leaf : Leaf) (i p start place : ℕ) → constant_of leaf.kind ≡ None → IsIn file b start place i → OnWalk file b.section (lacks_item b.field leaf.kind i start) place p
    → OnItem file b.section b.fixed b.field leaf i p
walk-item file b leaf i p start place varies is walk = inr (varies, on_walks file b.section b.fixed b.field leaf.kind i p start place is walk)

count-walks : (file : List ℕ) (b : Bytestream) (f : ℕ) (kind : ItemKind) (i p : ℕ) (fixed : Option Fixed) → b.section.index ≡ 0 → IsSomeAnd fixed (λ x. OnWay file b.section x i p) → OnWalks file b.section fixed f kind i p
count-walks file b f kind i p None unindexed way = absurd way
count-walks file b f kind i p (Some x) unindexed way = inl (unindexed, way f kind)

-- and so is one on the way to the chunk
pub search-item : (file : List ℕ) (b : Bytestream) (leaf : Leaf) (i p : ℕ) → constant_of leaf.kind ≡ None → OnSearch file b i p → OnItem file b.section b.fixed b.field leaf i p
search-item file b leaf i p varies (inl on) = inl on
search-item file b leaf i p varies (inr on) = inr (varies, count-walks file b b.field leaf.kind i p b.fixed on.0 on.1)
