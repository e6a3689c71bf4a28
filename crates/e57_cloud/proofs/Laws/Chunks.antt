-- Laws of chunks: those of spelled packets are the chunks that were spelled, their starts are those of the entries, and
-- their items are those of the columns.
use Rattle.std.specs.Prelude.{◌≡◌, ℕ, ◌+◌, ◌<◌, Bool, true, false, List, [], ◌∷◌, ◌++◌, length, map, drop, filter, None}
use Rattle.std.specs.List.{AllByRecursion, onto_first}
use Rattle.std.proofs.Common.{refl, sym, ap, ◌∙◌, arith, length-append, add-zero}
use Rattle.std.proofs.lemmas.Bool.{eq-eqb, cond_both, cond-true}
use Rattle.e57_layout.specs.Values.{ItemKind}
use Rattle.e57_layout.specs.Packing.{Block, chunk_packets}
use Rattle.e57_layout.specs.Written.{physical, Spelled, records_packet, packet_bytes, packets_bytes, flagged, chunk_spelled, chunks_spelled, chunk_entries}
use Rattle.e57_layout.proofs.Laws.Blocks.{block_records}
use Rattle.e57_layout.specs.declared.packet.Entry.{Entry}
use Rattle.e57_layout.specs.declared.section.Section.{Section}
use Rattle.e57_cloud.specs.Walk.{Packet}
use Rattle.e57_cloud.specs.Chunks.{data_packets, cut, by_chunk, starts_fault, Chunk, with_records}
use Rattle.e57_cloud.proofs.Laws.Walks.{placed, placed_from}
use Rattle.e57_cloud.proofs.Laws.Indexes.{place-physical}

-- ---- packets after packets

pub placed-append : (q : ℕ) (xs ys : List Spelled) → placed_from q (xs ++ ys) ≡ placed_from q xs ++ placed_from (q + length (packets_bytes xs)) ys
unfolding placed_from
placed-append q [] ys = rw add-zero
placed-append q (x ∷ xs) ys =
    let size : length (packet_bytes x ++ packets_bytes xs) ≡ length (packet_bytes x) + length (packets_bytes xs) = length-append (packet_bytes x) (packets_bytes xs) in
    let place : q + length (packet_bytes x ++ packets_bytes xs) ≡ q + length (packet_bytes x) + length (packets_bytes xs) = omega arith in
    rw (place, placed-append (q + length (packet_bytes x)) xs ys)

pub data-append : (xs ys : List Packet) → data_packets (xs ++ ys) ≡ data_packets xs ++ data_packets ys
unfolding data_packets
data-append [] ys = refl
data-append (x ∷ xs) ys = cond_both x.is_data (x ∷ data_packets (xs ++ ys)) (data_packets (xs ++ ys)) (λ (all : List Packet). all ≡ filter (λ (p : Packet). p.is_data) (x ∷ xs) ++ data_packets ys)
    (λ yes. rw (yes, data-append xs ys)) (λ not_data. rw (not_data, data-append xs ys))

-- data packets are all data packets
pub data-flagged : (q : ℕ) (restart : Bool) (parts : List (List (List ℕ))) → data_packets (placed_from q (flagged restart parts)) ≡ placed_from q (flagged restart parts)
unfolding data_packets placed_from flagged
data-flagged q restart [] = refl
data-flagged q restart (streams ∷ parts) = ap (λ (later : List Packet). placed q (records_packet restart streams) ∷ later) (data-flagged (q + length (packet_bytes (records_packet restart streams))) false parts)

-- ---- chunks

-- the packets of chunks that stand from place q on
unfoldable pub placed_chunks : List ItemKind → ℕ → List Block → List (List Packet)
placed_chunks kinds q [] = []
placed_chunks kinds q (chunk ∷ chunks) = placed_from q (chunk_spelled kinds chunk) ∷ placed_chunks kinds (q + length (packets_bytes (chunk_spelled kinds chunk))) chunks

-- packets without restart belong to what comes before
cut-later : (q : ℕ) (parts : List (List (List ℕ))) (rest : List Packet) (pieces : List (List Packet)) → cut rest ≡ [] ∷ pieces → cut (placed_from q (flagged false parts) ++ rest) ≡ placed_from q (flagged false parts) ∷ pieces
unfolding cut placed_from flagged
cut-later q [] rest pieces is = is
cut-later q (streams ∷ parts) rest pieces is = rw (cut-later (q + length (packet_bytes (records_packet false streams))) parts rest pieces is)

-- each chunk has a packet
abbrev pub HavePackets : List ItemKind → List Block → Type 0
HavePackets kinds chunks = AllByRecursion (λ (chunk : Block). 0 < length (chunk_packets kinds chunk)) chunks

cut-first : (q : ℕ) (parts : List (List (List ℕ))) (rest : List Packet) (pieces : List (List Packet)) → 0 < length parts → cut rest ≡ [] ∷ pieces → cut (placed_from q (flagged true parts) ++ rest) ≡ [] ∷ placed_from q (flagged true parts) ∷ pieces
unfolding cut placed_from flagged
cut-first q [] rest pieces some is = absurd (omega arith)
cut-first q (streams ∷ parts) rest pieces some is = rw (cut-later (q + length (packet_bytes (records_packet true streams))) parts rest pieces is)

cut-nothing : (q : ℕ) → cut (placed_from q []) ≡ [] ∷ []
unfolding cut placed_from
cut-nothing q = refl

cut-chunk : (kinds : List ItemKind) (q : ℕ) (chunk : Block) (rest : List Packet) (pieces : List (List Packet)) → 0 < length (chunk_packets kinds chunk) → cut rest ≡ [] ∷ pieces → cut (placed_from q (chunk_spelled kinds chunk) ++ rest) ≡ [] ∷ placed_from q (chunk_spelled kinds chunk) ∷ pieces
unfolding chunk_spelled
cut-chunk kinds q chunk rest pieces some is = cut-first q (chunk_packets kinds chunk) rest pieces some is

cut-chunks : (kinds : List ItemKind) (q : ℕ) (chunks : List Block) → HavePackets kinds chunks → cut (placed_from q (chunks_spelled kinds chunks)) ≡ [] ∷ placed_chunks kinds q chunks
unfolding chunks_spelled placed_chunks
cut-chunks kinds q [] have = cut-nothing q
cut-chunks kinds q (chunk ∷ chunks) have =
    rw (placed-append q (chunk_spelled kinds chunk) (chunks_spelled kinds chunks))
    (cut-chunk kinds q chunk (placed_from (q + length (packets_bytes (chunk_spelled kinds chunk))) (chunks_spelled kinds chunks)) (placed_chunks kinds (q + length (packets_bytes (chunk_spelled kinds chunk))) chunks) have.0
    (cut-chunks kinds (q + length (packets_bytes (chunk_spelled kinds chunk))) chunks have.1))

pub cut-restart : (p : Packet) (ps : List Packet) → p.restart ≡ true → cut (p ∷ ps) ≡ [] ∷ onto_first p (cut ps)
unfolding cut
cut-restart p ps restart = cond-true p.restart ([] ∷ onto_first p (cut ps)) (onto_first p (cut ps)) restart

by_chunk-cut : (p : Packet) (ps : List Packet) (pieces : List (List Packet)) → p.restart ≡ true → cut (p ∷ ps) ≡ [] ∷ pieces → by_chunk (p ∷ ps) ≡ pieces
unfolding by_chunk
by_chunk-cut p ps pieces restart is = ap (λ (all : List (List Packet)). drop 1 all) (sym (cut-restart p ps restart) ∙ is)

by_chunk-first : (q : ℕ) (parts : List (List (List ℕ))) (rest : List Packet) (pieces : List (List Packet)) → 0 < length parts → cut (placed_from q (flagged true parts) ++ rest) ≡ [] ∷ pieces → by_chunk (placed_from q (flagged true parts) ++ rest) ≡ pieces
unfolding placed_from flagged
by_chunk-first q [] rest pieces some is = absurd (omega arith)
by_chunk-first q (streams ∷ parts) rest pieces some is = by_chunk-cut (placed q (records_packet true streams)) (placed_from (q + length (packet_bytes (records_packet true streams))) (flagged false parts) ++ rest) pieces refl is

-- data packets by chunk are the chunks that were spelled
pub by_chunk-placed : (kinds : List ItemKind) (q : ℕ) (chunk : Block) (chunks : List Block) → HavePackets kinds (chunk ∷ chunks) → by_chunk (placed_from q (chunks_spelled kinds (chunk ∷ chunks))) ≡ placed_chunks kinds q (chunk ∷ chunks)
unfolding chunks_spelled chunk_spelled
by_chunk-placed kinds q chunk chunks have =
    let split = placed-append q (flagged true (chunk_packets kinds chunk)) (chunks_spelled kinds chunks) in
    rw split (by_chunk-first q (chunk_packets kinds chunk) (placed_from (q + length (packets_bytes (chunk_spelled kinds chunk))) (chunks_spelled kinds chunks)) (placed_chunks kinds q (chunk ∷ chunks)) have.0
    (rw split at (cut-chunks kinds q (chunk ∷ chunks) have)))

data-nothing : (q : ℕ) → data_packets (placed_from q []) ≡ placed_from q []
unfolding data_packets placed_from
data-nothing q = refl

data-chunk : (kinds : List ItemKind) (q : ℕ) (chunk : Block) → data_packets (placed_from q (chunk_spelled kinds chunk)) ≡ placed_from q (chunk_spelled kinds chunk)
unfolding chunk_spelled
data-chunk kinds q chunk = data-flagged q true (chunk_packets kinds chunk)

pub data-chunks : (kinds : List ItemKind) (q : ℕ) (chunks : List Block) → data_packets (placed_from q (chunks_spelled kinds chunks)) ≡ placed_from q (chunks_spelled kinds chunks)
unfolding chunks_spelled
data-chunks kinds q [] = data-nothing q
data-chunks kinds q (chunk ∷ chunks) =
    rw (placed-append q (chunk_spelled kinds chunk) (chunks_spelled kinds chunks), data-append, data-chunk kinds q chunk, data-chunks kinds (q + length (packets_bytes (chunk_spelled kinds chunk))) chunks)

-- ---- starts and records

starts-one : (s : Section) (j q first : ℕ) (parts : List (List (List ℕ))) (es : List Entry) (chunks : List (List Packet)) → 0 < length parts → starts_fault s (j + 1) es chunks ≡ None
    → starts_fault s j (record { first = first; place = physical q } ∷ es) (placed_from q (flagged true parts) ∷ chunks) ≡ None
unfolding starts_fault placed_from flagged
starts-one s j q first [] es chunks some rest = absurd (omega arith)
starts-one s j q first (streams ∷ parts) es chunks some rest = rw (place-physical, eq-eqb q q refl, rest)

-- the starts of the chunks are the places of their entries
pub starts-agree : (s : Section) (kinds : List ItemKind) (j q first : ℕ) (chunks : List Block) → HavePackets kinds chunks → starts_fault s j (chunk_entries kinds q first chunks) (placed_chunks kinds q chunks) ≡ None
unfolding starts_fault chunk_entries placed_chunks chunk_spelled
starts-agree s kinds j q first [] have = refl
starts-agree s kinds j q first (chunk ∷ chunks) have =
    starts-one s j q first (chunk_packets kinds chunk) (chunk_entries kinds (q + length (packets_bytes (chunk_spelled kinds chunk))) (first + chunk.count) chunks) (placed_chunks kinds (q + length (packets_bytes (chunk_spelled kinds chunk))) chunks) have.0
    (starts-agree s kinds (j + 1) (q + length (packets_bytes (chunk_spelled kinds chunk))) (first + chunk.count) chunks have.1)

-- the chunks of the spelled ones, the first of which begins with this record
unfoldable pub spelled_chunks : List ItemKind → ℕ → ℕ → List Block → List Chunk
spelled_chunks kinds q first [] = []
spelled_chunks kinds q first (chunk ∷ chunks) =
    record { first = first; until = first + chunk.count; packets = placed_from q (chunk_spelled kinds chunk) }
    ∷ spelled_chunks kinds (q + length (packets_bytes (chunk_spelled kinds chunk))) (first + chunk.count) chunks

pub records-agree : (kinds : List ItemKind) (count q first : ℕ) (chunks : List Block) → first + block_records chunks ≡ count → with_records count (map (λ (e : Entry). e.first) (chunk_entries kinds q first chunks)) (placed_chunks kinds q chunks) ≡ spelled_chunks kinds q first chunks
unfolding with_records chunk_entries placed_chunks spelled_chunks block_records
records-agree kinds count q first [] all = refl
records-agree kinds count q first (chunk ∷ []) all = let last : first + chunk.count ≡ count = omega arith in rw last
records-agree kinds count q first (chunk ∷ next ∷ chunks) all =
    rw (records-agree kinds count (q + length (packets_bytes (chunk_spelled kinds chunk))) (first + chunk.count) (next ∷ chunks) (omega arith))
