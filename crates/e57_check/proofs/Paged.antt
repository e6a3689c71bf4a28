-- The pages on the way to an item are pages of the file.
use Rattle.std.specs.Prelude.{◌≡◌, ℕ, zero, suc, ◌+◌, ◌-◌, ◌*◌, ◌%◌, ◌<◌, ◌≤◌, ◌==◌, ◌&&◌, not, nat_lt, Bool, true, false, if◌then◌else◌, List, [], ◌∷◌, is_none, Option, Some, None, IsSomeAnd, Result, Ok, Err}
use Rattle.std.proofs.Common.{refl, arith, ⊎_elim}
use Rattle.std.proofs.lemmas.Bool.{ltb-false, or_parts}
use Rattle.e57_base.specs.declared.fault.Fault.{Fault}
use Rattle.e57_page.specs.File.{logical, span_fault}
use Rattle.e57_page.specs.Place.{place}
use Rattle.e57_layout.specs.Values.{ItemKind}
use Rattle.e57_layout.specs.Packets.{sort_at, length_at}
use Rattle.e57_layout.specs.IndexPackets.{index_size, entry_count_at, level_at}
use Rattle.e57_layout.specs.Written.{entries_limit}
use Rattle.e57_layout.specs.declared.section.Section.{Section}
use Rattle.e57_layout.specs.declared.packet.Entry.{Entry}
use Rattle.e57_layout.specs.declared.field.Fixed.{Fixed}
use Rattle.e57_base.specs.Fault.{fault}
use Rattle.e57_base.specs.declared.kind.Kind.TheVariants.{PacketLength, PacketType, IndexShape}
use Rattle.e57_cloud.specs.Walk.{Packet, is_data_at, packet_head_fault}
use Rattle.e57_cloud.specs.Index.{known_place, entries_of, is_misshapen_index, index_shape_fault}
use Rattle.e57_cloud.specs.Cloud.{Leaf}
use Rattle.e57_cloud.specs.PathItem.{ChunkAt, pick, path}
use Rattle.e57_cloud.specs.Met.{InSpan, InIndexStart, InEntries, InTarget, OnPicked, OnDescent, OnPath, needed_at, OnWalk, OnCover, OnChunk, OnWalks, OnItem}
use Rattle.e57_check.proofs.AskingLaws.{span_below}
use Rattle.e57_base.proofs.Options.{option_or_parts}

-- a page of bytes that end in the file
in-file : (q n count p : ℕ) → q + n ≤ count * 1020 → InSpan q n p → p < count
in-file q n count p within span = let below = span_below q n count within in let high = span.1 in omega (arith, below, high)

no-when : (test : Bool) (found : Fault) → ◌≡◌ {A = Option Fault} (if test then Some found else None) None → test ≡ false
no-when true found none = cc
no-when false found none = refl

-- ---- the path through the index

start-below : (s : Section) (offset count p : ℕ) → s.end ≤ count * 1020 → InIndexStart s offset p → p < count
start-below s offset count p within is = by-place (place offset) is
  where
    by-place : (o : Option ℕ) → IsSomeAnd o (λ (q : ℕ). (s.start + 32 ≤ q) × (q + 16 ≤ s.end) × InSpan q 16 p) → p < count
    by-place None is = absurd is
    by-place (Some q) is = let high = is.1 in in-file q 16 count p (omega (arith, high, within)) is.2

target-below : (s : Section) (e : Entry) (count p : ℕ) → s.end ≤ count * 1020 → InTarget s e p → p < count
target-below s e count p within is = by-place (place e.place) is
  where
    by-place : (o : Option ℕ) → IsSomeAnd o (λ (q : ℕ). (s.data_place ≤ q) × (q + 4 ≤ s.end) × InSpan q 4 p) → p < count
    by-place None is = absurd is
    by-place (Some q) is = let high = is.1 in in-file q 4 count p (omega (arith, high, within)) is.2

-- the entries of a packet whose shape has no fault lie in the section
shape-room : (b : List ℕ) (s : Section) (level q : ℕ) → is_misshapen_index b s level q ≡ false → q + 16 + 16 * entry_count_at b q ≤ s.end
unfolding is_misshapen_index
shape-room b s level q none =
    let a = or_parts (not (sort_at b q == 0)) _ none in
    let c = or_parts (not (length_at b q % 4 == 0)) _ a.1 in
    let d = or_parts (nat_lt s.end (q + length_at b q)) _ c.1 in
    let e = or_parts (entry_count_at b q == 0) _ d.1 in
    let f = or_parts (nat_lt entries_limit (entry_count_at b q)) _ e.1 in
    let g = or_parts (nat_lt (length_at b q) (index_size (entry_count_at b q))) (not (level_at b q == level)) f.1 in
    let room = ltb-false s.end (q + length_at b q) d.0 in
    let long = ltb-false (length_at b q) (index_size (entry_count_at b q)) g.0 in
    omega (arith, room, long)

entries-below : (file : List ℕ) (s : Section) (level offset count p : ℕ) → s.end ≤ count * 1020 → InEntries file s level offset p → p < count
unfolding index_shape_fault
entries-below file s level offset count p within is =
    let both = option_or_parts _ (if is_misshapen_index (logical file) s level (known_place offset) then Some (fault IndexShape s.node offset) else None) is.0 in
    let room = shape-room (logical file) s level (known_place offset) (no-when (is_misshapen_index (logical file) s level (known_place offset)) (fault IndexShape s.node offset) both.1) in
    in-file (known_place offset + 16) (16 * entry_count_at (logical file) (known_place offset)) count p (omega (arith, room, within)) is.1

picked-below : (f : Entry → ℕ → Type 0) (i bound count p : ℕ) (es : List Entry) → ((e : Entry) (b : ℕ) → f e b → p < count) → OnPicked f i bound es → p < count
picked-below f i bound count p [] each on = absurd on
picked-below f i bound count p (x ∷ es) each on = each (pick i bound x es).0 (pick i bound x es).1 on

descent-below : (file : List ℕ) (s : Section) (i p level : ℕ) (e : Entry) (bound count : ℕ) → s.end ≤ count * 1020 → OnDescent file s i p level e bound → p < count
unfolding OnDescent
descent-below file s i p zero e bound count within is = target-below s e count p within is
descent-below file s i p (suc level) e bound count within is =
    ⊎_elim (λ first. start-below s e.place count p within first)
    (λ rest. ⊎_elim (λ entries. entries-below file s level e.place count p within entries)
    (λ later. picked-below (OnDescent file s i p level) i bound count p (entries_of file e.place) (λ x b on. descent-below file s i p level x b count within on) later.1) rest) is

path-below : (file : List ℕ) (s : Section) (i count p : ℕ) → s.end ≤ count * 1020 → OnPath file s i p → p < count
path-below file s i count p within is =
    ⊎_elim (λ first. start-below s s.index count p within first)
    (λ rest. descent-below file s i p _ _ s.count count within rest.1) is.1

-- ---- the walk through a chunk

head-room : (file : List ℕ) (s : Section) (q : ℕ) → packet_head_fault file s q ≡ None → q + length_at (logical file) q ≤ s.end
unfolding packet_head_fault
head-room file s q none =
    let a = option_or_parts (span_fault file q 4) _ none in
    let b = option_or_parts (if nat_lt 2 (sort_at (logical file) q) then Some (fault PacketType s.node q) else None) _ a.1 in
    let c = or_parts (not (length_at (logical file) q % 4 == 0)) (nat_lt s.end (q + length_at (logical file) q)) (no-when _ (fault PacketLength s.node q) b.1) in
    ltb-false s.end (q + length_at (logical file) q) c.1

needed-room : (file : List ℕ) (s : Section) (q : ℕ) → q + 4 ≤ s.end → q + needed_at file s q ≤ s.end
unfolding needed_at
needed-room file s q there = by-fault (packet_head_fault file s q) refl
  where
    by-data : (is_data : Bool) → packet_head_fault file s q ≡ None → q + (if is_data then length_at (logical file) q else 4) ≤ s.end
    by-data true none = head-room file s q none
    by-data false none = there

    by-fault : (found : Option Fault) → packet_head_fault file s q ≡ found → q + (if is_none found && is_data_at (logical file) q then length_at (logical file) q else 4) ≤ s.end
    by-fault None none = by-data (is_data_at (logical file) q) none
    by-fault (Some f) is = there

walk-below : (file : List ℕ) (s : Section) (is_wanting : List Packet → Bool) (first count p : ℕ) → s.end ≤ count * 1020 → OnWalk file s is_wanting first p → p < count
walk-below file s is_wanting first count p within on =
    let room = needed-room file s on.q on.there in
    in-file on.q (needed_at file s on.q) count p (omega (arith, room, within)) on.within

cover-below : (file : List ℕ) (s : Section) (fixed : Fixed) (f : ℕ) (kind : ItemKind) (i p fuel first q count : ℕ) → s.end ≤ count * 1020 → OnCover file s fixed f kind i p fuel first q → p < count
unfolding OnCover
cover-below file s fixed f kind i p zero first q count within on = walk-below file s _ q count p within on
cover-below file s fixed f kind i p (suc fuel) first q count within on =
    ⊎_elim (λ here. walk-below file s _ q count p within here)
    (λ later. cover-below file s fixed f kind i p fuel _ _ count within later.1) on

chunk-below : (file : List ℕ) (s : Section) (f : ℕ) (kind : ItemKind) (i p count : ℕ) (result : Result ChunkAt Fault) → s.end ≤ count * 1020 → OnChunk file s f kind i p result → p < count
chunk-below file s f kind i p count (Ok chunk) within on = walk-below file s _ chunk.place count p within on
chunk-below file s f kind i p count (Err found) within on = absurd on

walks-below : (file : List ℕ) (s : Section) (fixed : Option Fixed) (f : ℕ) (kind : ItemKind) (i p count : ℕ) → s.end ≤ count * 1020 → OnWalks file s fixed f kind i p → p < count
walks-below file s None f kind i p count within on = chunk-below file s f kind i p count (path file s i) within on
walks-below file s (Some fixed) f kind i p count within on =
    ⊎_elim (λ counted. cover-below file s fixed f kind i p (s.end - s.data_place) 0 s.data_place count within counted.1)
    (λ indexed. chunk-below file s f kind i p count (path file s i) within indexed.1) on

-- a page on the way to an item of a section that lies in the file
pub item-below : (file : List ℕ) (s : Section) (fixed : Option Fixed) (f : ℕ) (leaf : Leaf) (i p count : ℕ) → s.end ≤ count * 1020 → OnItem file s fixed f leaf i p → p < count
item-below file s fixed f leaf i p count within on =
    ⊎_elim (λ path. path-below file s i count p within path)
    (λ walks. walks-below file s fixed f leaf.kind i p count within walks.1) on
