-- Laws of what is found: a chunk that the path leads to has the record, and lies among the data; a packet without fault lies
-- in the section.
use Rattle.std.specs.Prelude.{◌≡◌, ℕ, zero, suc, ◌+◌, ◌%◌, ◌<◌, ◌≤◌, ◌==◌, ◌||◌, not, nat_lt, true, false, List, [], ◌∷◌, length, Option, Some, None, Result, Ok}
use Rattle.std.proofs.Common.{refl, arith, ⊎_elim}
use Rattle.std.proofs.lemmas.Bool.{ltb-false, ltb-true, eqb-true, or_parts, not-false, cases_Bool}
use Rattle.e57_base.specs.declared.fault.Fault.{Fault}
use Rattle.e57_base.specs.declared.kind.Kind.TheVariants.{PacketLength, PacketType, IndexTarget}
use Rattle.e57_base.specs.Fault.{fault}
use Rattle.e57_page.specs.Place.{place}
use Rattle.e57_page.specs.File.{logical, span_fault}
use Rattle.e57_layout.specs.Packets.{sort_at, length_at}
use Rattle.e57_layout.specs.declared.packet.Entry.{Entry}
use Rattle.e57_layout.specs.declared.section.Section.{Section}
use Rattle.e57_cloud.specs.Section.{when, or_zero}
use Rattle.e57_cloud.specs.Walk.{packet_head_fault, packet_fault}
use Rattle.e57_cloud.specs.Index.{entries_of, next_first, index_packet_fault, target_fault_at, target_fault, root_fault, root_level, root_entry, Rises}
use Rattle.e57_cloud.specs.PathItem.{ChunkAt, unless, pick, by_entry, descend, path}
use Rattle.e57_cloud.proofs.Laws.Sections.{when-none}
use Rattle.e57_cloud.proofs.Laws.Descents.{packet-entries}
use Rattle.e57_base.proofs.Options.{option_or_parts}

-- ---- packets

-- a packet without fault lies in the section, and its length is a multiple of 4
pub packet-within : (file : List ℕ) (s : Section) (q : ℕ) → packet_fault file s q ≡ None → (sort_at (logical file) q ≤ 2) × (length_at (logical file) q % 4 ≡ 0) × (q + length_at (logical file) q ≤ s.end)
unfolding packet_fault packet_head_fault
packet-within file s q none =
    let b = logical file in
    let head = option_or_parts (packet_head_fault file s q) _ none in
    let first = option_or_parts (span_fault file q 4) _ head.0 in
    let second = option_or_parts (when (nat_lt 2 (sort_at b q)) (fault PacketType s.node q)) _ first.1 in
    let tests = or_parts (not (length_at b q % 4 == 0)) (nat_lt s.end (q + length_at b q)) (when-none (not (length_at b q % 4 == 0) || nat_lt s.end (q + length_at b q)) (fault PacketLength s.node q) second.1) in (
      ltb-false 2 (sort_at b q) (when-none (nat_lt 2 (sort_at b q)) (fault PacketType s.node q) second.0),
      eqb-true (length_at b q % 4) 0 (not-false (length_at b q % 4 == 0) tests.0),
      ltb-false s.end (q + length_at b q) tests.1,
    )

-- ---- the path

-- The chunk has record i, ends at the bound at most, and begins among the data, with four bytes of the section left.
pub record IsFound (s : Section) (i bound : ℕ) (chunk : ChunkAt) : Type 0 where
  pub low : chunk.first ≤ i
  pub high : i < chunk.until
  pub most : chunk.until ≤ bound
  pub after : s.data_place ≤ chunk.place
  pub within : chunk.place + 4 ≤ s.end

pick-found : (i least bound : ℕ) (e : Entry) (es : List Entry) → Rises least bound (e ∷ es) → e.first ≤ i → i < bound → ((pick i bound e es).0.first ≤ i) × (i < (pick i bound e es).1) × ((pick i bound e es).1 ≤ bound)
unfolding pick
pick-found i least bound e [] up low high = (low, high, omega arith)
pick-found i least bound e (later ∷ es) up low high =
    ⊎_elim
    (λ (before : nat_lt i later.first ≡ true). let under = ltb-true i later.first before in rw before (low, under, omega (arith, up.2.1)))
    (λ (past : nat_lt i later.first ≡ false). let above = ltb-false i later.first past in rw past (pick-found i (e.first + 1) bound later es up.2 above high))
    (cases_Bool (nat_lt i later.first))

unless-ok : {X : Type 0} (found : Option Fault) (result : Result X Fault) (x : X) → unless found result ≡ Ok x → (found ≡ None) × (result ≡ Ok x)
unless-ok None result x is = (refl, is)
unless-ok (Some found) result x is = cc

target-within : (file : List ℕ) (s : Section) (e : Entry) (at : Option ℕ) → target_fault_at file s e at ≡ None → (s.data_place ≤ or_zero at) × (or_zero at + 4 ≤ s.end)
target-within file s e None none = cc
target-within file s e (Some q) none =
    let first = option_or_parts (when (nat_lt q s.data_place || nat_lt s.end (q + 4)) (fault IndexTarget s.node e.first)) _ none in
    let tests = or_parts (nat_lt q s.data_place) (nat_lt s.end (q + 4)) (when-none (nat_lt q s.data_place || nat_lt s.end (q + 4)) (fault IndexTarget s.node e.first) first.0) in
    (ltb-false q s.data_place tests.0, ltb-false s.end (q + 4) tests.1)

pub same_ok : (a b : ChunkAt) → ◌≡◌ {A = Result ChunkAt Fault} (Ok a) (Ok b) → a ≡ b
same_ok a b same = cc

-- what is found below one entry is found below a longer bound
found-below : (s : Section) (i low bound : ℕ) (chunk : ChunkAt) → low ≤ bound → IsFound s i low chunk → IsFound s i bound chunk
found-below s i low bound chunk below is = record { low = is.low; high = is.high; most = omega (arith, is.most); after = is.after; within = is.within }

listed-found : (file : List ℕ) (s : Section) (i level least bound : ℕ) (es : List Entry) (chunk : ChunkAt) → ((x : Entry) (ends : ℕ) → x.first ≤ i → i < ends → descend file s i level x ends ≡ Ok chunk → IsFound s i ends chunk)
    → Rises least bound es → least ≤ i → i < bound → 0 < length es → next_first bound es ≡ least → by_entry (descend file s i level) i bound es ≡ Ok chunk → IsFound s i bound chunk
listed-found file s i level least bound [] chunk each up low high some begins is = absurd (omega arith)
listed-found file s i level least bound (x ∷ xs) chunk each up low high some begins is =
    let picked = pick-found i least bound x xs up (omega arith) high in
    found-below s i (pick i bound x xs).1 bound chunk picked.2 (each (pick i bound x xs).0 (pick i bound x xs).1 picked.0 picked.1 is)

descend-found : (file : List ℕ) (s : Section) (i height : ℕ) (e : Entry) (bound : ℕ) (chunk : ChunkAt) → e.first ≤ i → i < bound → descend file s i height e bound ≡ Ok chunk → IsFound s i bound chunk
unfolding descend target_fault
descend-found file s i zero e bound chunk low high is =
    let parts = unless-ok (target_fault_at file s e (place e.place)) (Ok (record { first = e.first; until = bound; place = or_zero (place e.place) })) chunk is in
    let same = same_ok (record { first = e.first; until = bound; place = or_zero (place e.place) }) chunk parts.1 in
    let lies = target-within file s e (place e.place) parts.0 in
    rw (← same) (record { low = low; high = high; most = omega arith; after = lies.0; within = lies.1 })
descend-found file s i (suc level) e bound chunk low high is =
    let parts = unless-ok (index_packet_fault file s level e bound) (by_entry (descend file s i level) i bound (entries_of file e.place)) chunk is in
    let packet = packet-entries file s level e bound parts.0 in
    listed-found file s i level e.first bound (entries_of file e.place) chunk (λ x ends first last found. descend-found file s i level x ends chunk first last found) packet.0 low high packet.2 packet.1 parts.1

-- A chunk that the path through an index leads to has the record, and lies among the data.
pub path-found : (file : List ℕ) (s : Section) (i : ℕ) (chunk : ChunkAt) → (s.index == 0) ≡ false → i < s.count → path file s i ≡ Ok chunk → IsFound s i s.count chunk
unfolding path
path-found file s i chunk indexed below is =
    let parts = unless-ok (root_fault file s) (descend file s i (suc (root_level file s)) (root_entry s) s.count) chunk (rw indexed at is) in
    descend-found file s i (suc (root_level file s)) (root_entry s) s.count chunk (omega arith) below parts.1
