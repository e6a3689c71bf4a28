-- Laws of the entries of chunks: those of spelled chunks rise and name their chunks; and of packets that fit a section.
use Rattle.std.specs.Prelude.{◌≡◌, ℕ, zero, suc, ◌+◌, ◌^◌, ◌<◌, ◌≤◌, nat_lt, nat_le, if◌then◌else◌, Bool, true, false, List, [], ◌∷◌, ◌++◌, length, map, None}
use Rattle.std.specs.List.{AllByRecursion, flat_map}
use Rattle.std.proofs.Common.{refl, sym, ap, subst, arith, length-append, append-nil, add-one, ⊎_elim}
use Rattle.std.proofs.lemmas.Bool.{le-ltb, cond_both, cases_lt}
use Rattle.std.proofs.lemmas.List.{length-map}
use Rattle.std.proofs.lemmas.List.Concat.{flat_map-append}
use Rattle.e57_page.specs.File.{logical, span_fault, logical_size}
use Rattle.e57_layout.specs.Standing.{Stands}
use Rattle.e57_layout.specs.Values.{ItemKind}
use Rattle.e57_layout.specs.Packets.{data_packet}
use Rattle.e57_layout.specs.Packing.{Block, chunk_packets}
use Rattle.e57_layout.specs.Written.{physical, Spelled, records_packet, entries_packet, packet_bytes, packets_bytes, flagged, chunk_spelled, chunks_spelled, chunk_entries, entry_runs, level_spelled, level_size, upper_entries, index_spelled, root_place}
use Rattle.e57_layout.proofs.Laws.Standing.{Stands-front, Stands-behind}
use Rattle.e57_layout.proofs.Laws.Layouts.{IsEntry, ReadsData, data_packet-read}
use Rattle.e57_layout.proofs.Laws.Lists.{all-append}
use Rattle.e57_layout.proofs.Laws.Packing.{IsPacket}
use Rattle.e57_layout.proofs.Laws.Blocks.{block_records}
use Rattle.e57_layout.proofs.Laws.Chunks.{IsChunk, chunk_packets-packets}
use Rattle.e57_layout.proofs.Laws.Index.{index_spelled-last, index_spelled-more, root_place-last, root_place-more}
use Rattle.e57_layout.proofs.Laws.Written.{packet_bytes-some, length-packets_bytes-append}
use Rattle.e57_layout.specs.declared.packet.Entry.{Entry}
use Rattle.e57_layout.specs.declared.section.Section.{Section}
use Rattle.e57_cloud.specs.Index.{target_fault, each_fault, entry_fault, entries_below, Rises}
use Rattle.e57_cloud.specs.Chunks.{data_packets}
use Rattle.e57_cloud.proofs.Laws.Spans.{span-right}
use Rattle.e57_cloud.specs.Written.{AreRight}
use Rattle.e57_cloud.proofs.Laws.Walks.{IsIndexPacket, IsSpelled, placed_from}
use Rattle.e57_cloud.proofs.Laws.Indexes.{place-physical, physical-small, HasIndex, level-sound, level-has, rest-has, entry_runs-fit, runs_few-more}
use Rattle.e57_cloud.proofs.Laws.Chunks.{HavePackets, placed-append, data-append}

-- ---- entries of height 0

pub entry_fault-zero : (file : List ℕ) (s : Section) (e : Entry) (bound : ℕ) → entry_fault file s 0 e bound ≡ target_fault file s e
unfolding entry_fault
entry_fault-zero file s e bound = refl

pub below-zero : (file : List ℕ) (es : List Entry) → flat_map (entries_below file 0) es ≡ es
unfolding entries_below
below-zero file [] = refl
below-zero file (e ∷ es) = ap (λ (later : List Entry). e ∷ later) (below-zero file es)

-- an entry that names a data packet with restart has no fault
pub target-sound : (file : List ℕ) (s : Section) (q first : ℕ) (streams : List (List ℕ)) → AreRight file → s.end ≤ logical_size file → s.data_place ≤ q → q + 4 ≤ s.end → ReadsData (logical file) q true streams
    → target_fault file s (record { first = first; place = physical q }) ≡ None
unfolding target_fault
target-sound file s q first streams right inside after within r =
    let low : nat_lt q s.data_place ≡ false = le-ltb q s.data_place after in
    let high : nat_lt s.end (q + 4) ≡ false = le-ltb s.end (q + 4) within in
    let head : span_fault file q 4 ≡ None = span-right file q 4 right (omega arith) in
    rw (place-physical, low, high, head, r.sort, r.restart)

-- the data packets of these chunks stand from place q on
pub record HasChunks (file : List ℕ) (s : Section) (kinds : List ItemKind) (q : ℕ) (chunks : List Block) : Type 0 where
  pub right : AreRight file
  pub inside : s.end ≤ logical_size file
  pub after : s.data_place ≤ q
  pub within : q + length (packets_bytes (chunks_spelled kinds chunks)) ≤ s.end
  pub have : HavePackets kinds chunks
  pub are : AllByRecursion (IsChunk kinds) chunks
  pub stands : Stands (logical file) q (packets_bytes (chunks_spelled kinds chunks))

first-read : (b : List ℕ) (q : ℕ) (parts : List (List (List ℕ))) (d : List (List ℕ)) → 0 < length parts → AllByRecursion (IsPacket (length d)) parts → Stands b q (packets_bytes (flagged true parts)) → (streams : List (List ℕ)) × ReadsData b q true streams × (6 ≤ length (packets_bytes (flagged true parts)))
unfolding flagged packet_bytes
first-read b q [] d some fit stands = absurd (omega arith)
first-read b q (streams ∷ parts) d some fit stands =
    let size : length (data_packet true streams ++ packets_bytes (flagged false parts)) ≡ length (data_packet true streams) + length (packets_bytes (flagged false parts)) = length-append (data_packet true streams) (packets_bytes (flagged false parts)) in
    let six : 6 ≤ length (data_packet true streams) = packet_bytes-some (records_packet true streams) in
    (streams, data_packet-read b q true streams fit.0.fits (Stands-front b q (data_packet true streams) (packets_bytes (flagged false parts)) stands), omega arith)

chunks-cons : (kinds : List ItemKind) (chunk : Block) (chunks : List Block) → packets_bytes (chunks_spelled kinds (chunk ∷ chunks)) ≡ packets_bytes (flagged true (chunk_packets kinds chunk)) ++ packets_bytes (chunks_spelled kinds chunks)
unfolding chunks_spelled chunk_spelled
chunks-cons kinds chunk chunks = flat_map-append packet_bytes (flagged true (chunk_packets kinds chunk)) (flat_map (chunk_spelled kinds) chunks)

pub later-chunks : (file : List ℕ) (s : Section) (kinds : List ItemKind) (q : ℕ) (chunk : Block) (chunks : List Block) → HasChunks file s kinds q (chunk ∷ chunks) → HasChunks file s kinds (q + length (packets_bytes (chunk_spelled kinds chunk))) chunks
unfolding chunk_spelled
later-chunks file s kinds q chunk chunks has =
    let bytes = chunks-cons kinds chunk chunks in
    let within = rw (bytes, length-append (packets_bytes (flagged true (chunk_packets kinds chunk))) (packets_bytes (chunks_spelled kinds chunks))) at has.within in
    record {
      right = has.right;
      inside = has.inside;
      after = omega (arith, has.after);
      within = omega arith;
      have = has.have.1;
      are = has.are.1;
      stands = Stands-behind (logical file) q (packets_bytes (flagged true (chunk_packets kinds chunk))) (packets_bytes (chunks_spelled kinds chunks)) (rw bytes at has.stands);
    }

entry-sound : (file : List ℕ) (s : Section) (kinds : List ItemKind) (q first : ℕ) (chunk : Block) (chunks : List Block) → HasChunks file s kinds q (chunk ∷ chunks) → target_fault file s (record { first = first; place = physical q }) ≡ None
entry-sound file s kinds q first chunk chunks has =
    let bytes = chunks-cons kinds chunk chunks in
    let within = rw (bytes, length-append (packets_bytes (flagged true (chunk_packets kinds chunk))) (packets_bytes (chunks_spelled kinds chunks))) at has.within in
    let fit = chunk_packets-packets kinds chunk has.are.0 in
    let read = first-read (logical file) q (chunk_packets kinds chunk) (map (λ (kind : ItemKind). []) kinds) has.have.0 (subst (λ (n : ℕ). AllByRecursion (IsPacket n) (chunk_packets kinds chunk)) (sym (length-map kinds (λ (kind : ItemKind). []))) fit)
    (Stands-front (logical file) q (packets_bytes (flagged true (chunk_packets kinds chunk))) (packets_bytes (chunks_spelled kinds chunks)) (rw bytes at has.stands)) in
    target-sound file s q first read.0 has.right has.inside has.after (omega (arith, read.2)) read.1

-- the entries of chunks that stand from place q on have no fault
pub entries-sound : (file : List ℕ) (s : Section) (kinds : List ItemKind) (q first bound : ℕ) (chunks : List Block) → HasChunks file s kinds q chunks → each_fault (entry_fault file s 0) bound (chunk_entries kinds q first chunks) ≡ None
unfolding each_fault chunk_entries
entries-sound file s kinds q first bound [] has = refl
entries-sound file s kinds q first bound (chunk ∷ chunks) has =
    rw (entry_fault-zero, entry-sound file s kinds q first chunk chunks has, entries-sound file s kinds (q + length (packets_bytes (chunk_spelled kinds chunk))) (first + chunk.count) bound chunks (later-chunks file s kinds q chunk chunks has))

-- each chunk has a record
abbrev pub HaveRecords : List Block → Type 0
HaveRecords chunks = AllByRecursion (λ (chunk : Block). 0 < chunk.count) chunks

pub entries-rise : (kinds : List ItemKind) (q least first bound : ℕ) (chunks : List Block) → HaveRecords chunks → least ≤ first → first + block_records chunks ≤ bound → Rises least bound (chunk_entries kinds q first chunks)
unfolding chunk_entries block_records
entries-rise kinds q least first bound [] have low high = tt
entries-rise kinds q least first bound (chunk ∷ chunks) have low high =
    let some : 0 < chunk.count = have.0 in
    (low, omega arith, entries-rise kinds (q + length (packets_bytes (chunk_spelled kinds chunk))) (first + 1) (first + chunk.count) bound chunks have.1 (omega arith) (omega arith))

pub entries-room : (kinds : List ItemKind) (q first : ℕ) (chunks : List Block) → first + block_records chunks ≤ 2 ^ 40 → HaveRecords chunks → q + length (packets_bytes (chunks_spelled kinds chunks)) ≤ 2 ^ 60 → AllByRecursion IsEntry (chunk_entries kinds q first chunks)
unfolding chunk_entries block_records chunk_spelled
entries-room kinds q first [] small have near = tt
entries-room kinds q first (chunk ∷ chunks) small have near =
    let some : 0 < chunk.count = have.0 in
    let within = rw (chunks-cons kinds chunk chunks, length-append (packets_bytes (flagged true (chunk_packets kinds chunk))) (packets_bytes (chunks_spelled kinds chunks))) at near in (
      record { first = omega arith; place = physical-small q (omega arith) },
      entries-room kinds (q + length (packets_bytes (flagged true (chunk_packets kinds chunk)))) (first + chunk.count) chunks (omega arith) have.1 (omega arith),
    )

pub block_records-count : (chunks : List Block) → HaveRecords chunks → length chunks ≤ block_records chunks
unfolding block_records
block_records-count [] have = omega arith
block_records-count (chunk ∷ chunks) have = let rest = block_records-count chunks have.1 in omega (arith, have.0)

-- ---- packets that fit

flagged-fit : (n : ℕ) (restart : Bool) (parts : List (List (List ℕ))) → AllByRecursion (IsPacket n) parts → AllByRecursion (IsSpelled n) (flagged restart parts)
unfolding flagged
flagged-fit n restart [] fit = tt
flagged-fit n restart (streams ∷ parts) fit = (fit.0, flagged-fit n false parts fit.1)

pub chunks-fit : (kinds : List ItemKind) (chunks : List Block) → AllByRecursion (IsChunk kinds) chunks → AllByRecursion (IsSpelled (length kinds)) (chunks_spelled kinds chunks)
unfolding chunks_spelled chunk_spelled
chunks-fit kinds [] are = tt
chunks-fit kinds (chunk ∷ chunks) are =
    all-append (IsSpelled (length kinds)) (flagged true (chunk_packets kinds chunk)) (flat_map (chunk_spelled kinds) chunks)
    (flagged-fit (length kinds) true (chunk_packets kinds chunk) (chunk_packets-packets kinds chunk are.0)) (chunks-fit kinds chunks are.1)

-- a level's packets fit, and are no data packets
pub level-fit : (n level : ℕ) (runs : List (List Entry)) → AllByRecursion (IsIndexPacket level) runs → AllByRecursion (IsSpelled n) (level_spelled level runs)
unfolding level_spelled
level-fit n level [] fit = tt
level-fit n level (run ∷ runs) fit = (fit.0, level-fit n level runs fit.1)

level-no_data : (level q : ℕ) (runs : List (List Entry)) → data_packets (placed_from q (level_spelled level runs)) ≡ []
unfolding level_spelled data_packets placed_from
level-no_data level q [] = refl
level-no_data level q (run ∷ runs) = level-no_data level (q + length (packet_bytes (entries_packet level run))) runs

no_packets : (level q at : ℕ) (es : List Entry) → data_packets (placed_from at (index_spelled 0 level q es)) ≡ []
unfolding index_spelled data_packets placed_from
no_packets level q at es = refl

index_spelled-suc : (most level q : ℕ) (es : List Entry) → index_spelled (suc most) level q es ≡ level_spelled level (entry_runs es) ++ (if nat_le (length (entry_runs es)) 1 then [] else index_spelled most (level + 1) (q + level_size level (entry_runs es)) (upper_entries q (entry_runs es)))
unfolding index_spelled
index_spelled-suc most level q es = refl

pub index-no_data : (most level q at : ℕ) (es : List Entry) → data_packets (placed_from at (index_spelled most level q es)) ≡ []
index-no_data zero level q at es = no_packets level q at es
index-no_data (suc most) level q at es = rw (index_spelled-suc most level q es)
    (cond_both (nat_le (length (entry_runs es)) 1) [] (index_spelled most (level + 1) (q + level_size level (entry_runs es)) (upper_entries q (entry_runs es)))
    (λ (more : List Spelled). data_packets (placed_from at (level_spelled level (entry_runs es) ++ more)) ≡ [])
    (λ few. rw (append-nil (level_spelled level (entry_runs es))) (level-no_data level at (entry_runs es)))
    (λ many. rw (placed-append at (level_spelled level (entry_runs es)) (index_spelled most (level + 1) (q + level_size level (entry_runs es)) (upper_entries q (entry_runs es))), data-append, level-no_data level at (entry_runs es))
    (index-no_data most (level + 1) (q + level_size level (entry_runs es)) (at + length (packets_bytes (level_spelled level (entry_runs es)))) (upper_entries q (entry_runs es)))))

-- the packets of an index fit
pub index-fit : (n : ℕ) (file : List ℕ) (s : Section) (most level q : ℕ) (es : List Entry) → HasIndex file s most level q es → AllByRecursion (IsSpelled n) (index_spelled (suc most) level q es)
index-fit n file s zero level q es has = rw (index_spelled-last 0 level q es (runs_few-more 0 es has.few)) (level-fit n level (entry_runs es) (entry_runs-fit level es (omega (arith, has.low)) has.room))
index-fit n file s (suc most) level q es has =
    ⊎_elim
    (λ (many : 1 < length (entry_runs es)).
    let lv = level-sound file s level q 0 s.count (entry_runs es) (level-has file s (suc most) level q es has many) in
    let rest = index-fit n file s most (suc level) (q + level_size level (entry_runs es)) (upper_entries q (entry_runs es)) (rest-has file s most level q es has many lv) in
    rw (index_spelled-more (suc most) level q es many, add-one level)
    (all-append (IsSpelled n) (level_spelled level (entry_runs es)) (index_spelled (suc most) (suc level) (q + level_size level (entry_runs es)) (upper_entries q (entry_runs es)))
    (level-fit n level (entry_runs es) (entry_runs-fit level es (omega (arith, has.low)) has.room)) rest))
    (λ (few : length (entry_runs es) ≤ 1). rw (index_spelled-last (suc most) level q es few) (level-fit n level (entry_runs es) (entry_runs-fit level es (omega (arith, has.low)) has.room)))
    (cases_lt 1 (length (entry_runs es)))

root-none : (level q : ℕ) (es : List Entry) → (q ≤ root_place 0 level q es) × (root_place 0 level q es ≤ q + length (packets_bytes (index_spelled 0 level q es)))
unfolding root_place
root-none level q es = (omega arith, omega arith)

-- the root is one of the packets of its index
pub root-within : (most level q : ℕ) (es : List Entry) → (q ≤ root_place most level q es) × (root_place most level q es ≤ q + length (packets_bytes (index_spelled most level q es)))
root-within zero level q es = root-none level q es
root-within (suc most) level q es =
    ⊎_elim
    (λ (many : 1 < length (entry_runs es)).
    let rest = root-within most (level + 1) (q + level_size level (entry_runs es)) (upper_entries q (entry_runs es)) in
    let bytes = length-packets_bytes-append (level_spelled level (entry_runs es)) (index_spelled most (level + 1) (q + level_size level (entry_runs es)) (upper_entries q (entry_runs es))) in
    rw (root_place-more most level q es many, index_spelled-more most level q es many, bytes) (omega (arith, rest.0), omega (arith, rest.1)))
    (λ (few : length (entry_runs es) ≤ 1). rw (root_place-last most level q es few) (omega arith, omega arith))
    (cases_lt 1 (length (entry_runs es)))
