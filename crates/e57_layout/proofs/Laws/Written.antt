-- Laws of the section as it is written.
use Rattle.std.proofs.Common.{◌≡◌, ℕ, suc, ◌+◌, ◌*◌, ◌/◌, ◌%◌, ◌<◌, ◌≤◌, Bool, false, List, [], ◌∷◌, ◌++◌, length, refl, ap, arith, length-append}
use Rattle.std.proofs.lemmas.List.Concat.{flat_map-append}
use Rattle.e57_layout.specs.Packets.{whole_words, data_size}
use Rattle.e57_layout.specs.Values.{ItemKind, Value}
use Rattle.e57_layout.specs.Packing.{Block}
use Rattle.e57_layout.specs.Written.{physical, Spelled, records_packet, entries_packet, packet_bytes, packets_bytes, flagged, chunk_spelled, chunks_spelled, chunk_entries, packets_spelled, header_for, section_spelled, blob_spelled}
use Rattle.e57_layout.proofs.Laws.Layouts.{length-section_head, length-blob_head_of, length-data_packet, length-index_packet, whole_words-mod, le-whole_words, data_size_is}

-- ---- places and offsets

-- a word of four bytes for each page before
pub physical_is : (q : ℕ) → physical q ≡ q + 4 * (q / 1020)
unfolding physical
physical_is q = omega arith

pub physical-page : (q : ℕ) → physical q / 1024 ≡ q / 1020
unfolding physical
physical-page q = omega arith

pub physical-offset : (q : ℕ) → physical q % 1024 ≡ q % 1020
unfolding physical
physical-offset q = omega arith

pub physical-lt : (q r : ℕ) → q < r → physical q < physical r
unfolding physical
physical-lt q r h = omega arith

-- ---- packets one after another

pub packets_bytes-append : (ps qs : List Spelled) → packets_bytes (ps ++ qs) ≡ packets_bytes ps ++ packets_bytes qs
packets_bytes-append ps qs = flat_map-append packet_bytes ps qs

pub length-packets_bytes-append : (ps qs : List Spelled) → length (packets_bytes (ps ++ qs)) ≡ length (packets_bytes ps) + length (packets_bytes qs)
length-packets_bytes-append ps qs = rw packets_bytes-append (length-append (packets_bytes ps) (packets_bytes qs))

-- a packet has whole words
pub packet_bytes-mod : (p : Spelled) → length (packet_bytes p) % 4 ≡ 0
unfolding packet_bytes
packet_bytes-mod (records_packet restart streams) = rw length-data_packet (whole_words-mod (data_size streams))
packet_bytes-mod (entries_packet level es) = rw length-index_packet (omega arith)

pub packets_bytes-mod : (ps : List Spelled) → length (packets_bytes ps) % 4 ≡ 0
packets_bytes-mod [] = refl
packets_bytes-mod (p ∷ ps) =
    let first : length (packet_bytes p) % 4 ≡ 0 = packet_bytes-mod p in
    let later : length (packets_bytes ps) % 4 ≡ 0 = packets_bytes-mod ps in
    rw length-append (omega arith)

-- at least a head and the two bytes after it
pub packet_bytes-some : (p : Spelled) → 6 ≤ length (packet_bytes p)
unfolding packet_bytes
packet_bytes-some (records_packet restart streams) =
    let size : data_size streams ≡ 6 + 2 * length streams + _ = data_size_is streams in
    let padded : data_size streams ≤ whole_words (data_size streams) = le-whole_words (data_size streams) in
    rw length-data_packet (omega arith)
packet_bytes-some (entries_packet level es) = rw length-index_packet (omega arith)

-- ---- chunks

pub flagged-cons : (restart : Bool) (streams : List (List ℕ)) (later : List (List (List ℕ))) → flagged restart (streams ∷ later) ≡ records_packet restart streams ∷ flagged false later
unfolding flagged
flagged-cons restart streams later = refl

pub length-flagged : (restart : Bool) (parts : List (List (List ℕ))) → length (flagged restart parts) ≡ length parts
unfolding flagged
length-flagged restart [] = refl
length-flagged restart (streams ∷ parts) = ap suc (length-flagged false parts)

pub chunks_spelled-cons : (kinds : List ItemKind) (chunk : Block) (chunks : List Block) → chunks_spelled kinds (chunk ∷ chunks) ≡ chunk_spelled kinds chunk ++ chunks_spelled kinds chunks
unfolding chunks_spelled
chunks_spelled-cons kinds chunk chunks = refl

pub chunk_entries-cons : (kinds : List ItemKind) (q first : ℕ) (chunk : Block) (chunks : List Block) → chunk_entries kinds q first (chunk ∷ chunks) ≡ record { first = first; place = physical q } ∷ chunk_entries kinds (q + length (packets_bytes (chunk_spelled kinds chunk))) (first + chunk.count) chunks
unfolding chunk_entries
chunk_entries-cons kinds q first chunk chunks = refl

pub length-chunk_entries : (kinds : List ItemKind) (q first : ℕ) (chunks : List Block) → length (chunk_entries kinds q first chunks) ≡ length chunks
unfolding chunk_entries
length-chunk_entries kinds q first [] = refl
length-chunk_entries kinds q first (chunk ∷ chunks) = ap suc (length-chunk_entries kinds (q + length (packets_bytes (chunk_spelled kinds chunk))) (first + chunk.count) chunks)

-- ---- the section

-- its header states its length
pub length-section_spelled : (q : ℕ) (kinds : List ItemKind) (n count : ℕ) (columns : List (List Value)) → length (section_spelled q kinds n count columns) ≡ (header_for q kinds n count columns).length
unfolding section_spelled
length-section_spelled q kinds n count columns = rw length-append (rw length-section_head refl)

-- which is a multiple of 4
pub section_spelled-mod : (q : ℕ) (kinds : List ItemKind) (n count : ℕ) (columns : List (List Value)) → length (section_spelled q kinds n count columns) % 4 ≡ 0
section_spelled-mod q kinds n count columns =
    let packets : length (packets_bytes (packets_spelled (q + 32) kinds n count columns)) % 4 ≡ 0 = packets_bytes-mod (packets_spelled (q + 32) kinds n count columns) in
    rw length-section_spelled (omega arith)

pub length-blob_spelled : (bytes : List ℕ) → length (blob_spelled bytes) ≡ 16 + length bytes
unfolding blob_spelled
length-blob_spelled bytes = rw length-append (rw length-blob_head_of refl)
