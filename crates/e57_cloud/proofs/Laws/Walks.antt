-- Laws of walks: what a walk without fault is, and that packets which are spelled one after another are read.
use Rattle.std.specs.Prelude.{◌≡◌, ℕ, zero, suc, ◌+◌, ◌-◌, ◌*◌, ◌%◌, ◌^◌, ◌<◌, ◌≤◌, ◌==◌, nat_lt, Bool, true, false, List, [], ◌∷◌, ◌++◌, length, Option, Some, None}
use Rattle.std.specs.List.{AllByRecursion}
use Rattle.std.proofs.Common.{refl, sym, arith, ⊎_elim, length-append}
use Rattle.std.proofs.lemmas.Bool.{lt-ltb, le-ltb, eq-eqb, cases_lt}
use Rattle.e57_base.specs.declared.fault.Fault.{Fault}
use Rattle.e57_page.specs.File.{logical, span_fault, logical_size}
use Rattle.e57_layout.specs.Standing.{Stands}
use Rattle.e57_layout.specs.Packets.{length_at, whole_words, data_size, total, data_packet}
use Rattle.e57_layout.specs.IndexPackets.{index_packet}
use Rattle.e57_layout.specs.Written.{Spelled, records_packet, entries_packet, packet_bytes, packets_bytes}
use Rattle.e57_layout.proofs.Laws.Standing.{Stands-front, Stands-behind}
use Rattle.e57_layout.proofs.Laws.Layouts.{data_packet-read, length-data_packet, le-whole_words, data_size_is, whole_words-mod, IsEntry, index_packet-read, length-index_packet}
use Rattle.e57_layout.proofs.Laws.Packing.{IsPacket}
use Rattle.e57_layout.specs.declared.packet.Entry.{Entry}
use Rattle.e57_layout.specs.declared.section.Section.{Section}
use Rattle.e57_cloud.specs.Walk.{Packet, packet_at, packet_head_fault, is_misshapen_data, packet_fault, Walk, onward, walk, walk_from}
use Rattle.e57_cloud.proofs.Laws.Spans.{span-right}
use Rattle.e57_cloud.specs.Written.{AreRight}

-- These packets stand one after another from place q to the section's end, and none has a fault.
unfoldable pub IsWalk : List ℕ → Section → ℕ → List Packet → Type 0
IsWalk file s q [] = s.end < q + 4
IsWalk file s q (packet ∷ packets) =
    (q + 4 ≤ s.end) × (packet_fault file s q ≡ None) × (packet ≡ packet_at (logical file) q) × IsWalk file s (q + length_at (logical file) q) packets

pub length_at-some : (b : List ℕ) (q : ℕ) → 0 < length_at b q
unfolding length_at
length_at-some b q = omega arith

pub walk-end : (file : List ℕ) (s : Section) (fuel q : ℕ) → s.end < q + 4 → walk file s fuel q ≡ record { packets = []; fault = None }
unfolding walk
walk-end file s zero q over = refl
walk-end file s (suc fuel) q over = rw (lt-ltb s.end (q + 4) over)

pub walk-step : (file : List ℕ) (s : Section) (fuel q : ℕ) → q + 4 ≤ s.end → walk file s (suc fuel) q ≡ onward (packet_fault file s q) (packet_at (logical file) q) (walk file s fuel (q + length_at (logical file) q))
unfolding walk
walk-step file s fuel q there = rw (le-ltb s.end (q + 4) there)

-- packets that stand to the end are those of the walk
pub walk-of : (file : List ℕ) (s : Section) (fuel q : ℕ) (packets : List Packet) → s.end - q ≤ fuel → IsWalk file s q packets → walk file s fuel q ≡ record { packets = packets; fault = None }
unfolding IsWalk
walk-of file s fuel q [] enough stands = walk-end file s fuel q stands
walk-of file s zero q (packet ∷ packets) enough stands = absurd (omega arith)
walk-of file s (suc fuel) q (packet ∷ packets) enough stands =
    let some : 0 < length_at (logical file) q = length_at-some (logical file) q in
    rw (walk-step file s fuel q stands.0, stands.1, walk-of file s fuel (q + length_at (logical file) q) packets (omega arith) stands.3, ← stands.2)

pub walk_from-of : (file : List ℕ) (s : Section) (q : ℕ) (packets : List Packet) → IsWalk file s q packets → walk_from file s q ≡ record { packets = packets; fault = None }
unfolding walk_from
walk_from-of file s q packets stands = walk-of file s (s.end - q) q packets (omega arith) stands

onward-none : (found : Option Fault) (packet : Packet) (rest : Walk) → (onward found packet rest).fault ≡ None → (found ≡ None) × (rest.fault ≡ None) × ((onward found packet rest).packets ≡ packet ∷ rest.packets)
onward-none None packet rest none = (refl, none, refl)
onward-none (Some x) packet rest none = cc

-- a walk without fault stands to the end
pub walk-stands : (file : List ℕ) (s : Section) (fuel q : ℕ) → s.end - q ≤ fuel → (walk file s fuel q).fault ≡ None → IsWalk file s q (walk file s fuel q).packets
unfolding IsWalk walk
walk-stands file s zero q enough none = omega arith
walk-stands file s (suc fuel) q enough none =
    ⊎_elim
    (λ (over : s.end < q + 4). rw (walk-end file s (suc fuel) q over) over)
    (λ (there : q + 4 ≤ s.end).
    let some : 0 < length_at (logical file) q = length_at-some (logical file) q in
    let step = walk-step file s fuel q there in
    let parts = onward-none (packet_fault file s q) (packet_at (logical file) q) (walk file s fuel (q + length_at (logical file) q)) (rw step at none) in
    rw (step, parts.2) (there, parts.0, refl, walk-stands file s fuel (q + length_at (logical file) q) (omega arith) parts.1))
    (cases_lt s.end (q + 4))

pub walk_from-stands : (file : List ℕ) (s : Section) (q : ℕ) → (walk_from file s q).fault ≡ None → IsWalk file s q (walk_from file s q).packets
unfolding walk_from
walk_from-stands file s q none = walk-stands file s (s.end - q) q (omega arith) none

-- ---- packets as they are spelled

-- the packet that is read where a spelled one stands
abbrev pub placed : ℕ → Spelled → Packet
placed q (records_packet restart streams) = record { place = q; length = length (packet_bytes (records_packet restart streams)); is_data = true; restart = restart; streams = streams }
placed q (entries_packet level es) = record { place = q; length = length (packet_bytes (entries_packet level es)); is_data = false; restart = false; streams = [] }

unfoldable pub placed_from : ℕ → List Spelled → List Packet
placed_from q [] = []
placed_from q (packet ∷ packets) = placed q packet ∷ placed_from (q + length (packet_bytes packet)) packets

-- an index packet of at most 2048 entries, whose numbers have room
pub record IsIndexPacket (level : ℕ) (es : List Entry) : Type 0 where
  pub small : level < 2 ^ 8
  pub some : 0 < length es
  pub few : length es ≤ 2048
  pub room : AllByRecursion IsEntry es

-- a packet that a section of n fields can have
abbrev pub IsSpelled : ℕ → Spelled → Type 0
IsSpelled n (records_packet restart streams) = IsPacket n streams
IsSpelled n (entries_packet level es) = IsIndexPacket level es

-- what is read where a spelled packet stands
pub record IsRead (file : List ℕ) (s : Section) (q : ℕ) (packet : Spelled) : Type 0 where
  pub sound : packet_fault file s q ≡ None
  pub is : packet_at (logical file) q ≡ placed q packet
  pub size : length_at (logical file) q ≡ length (packet_bytes packet)
  pub some : 4 ≤ length (packet_bytes packet)

data-read : (file : List ℕ) (s : Section) (q : ℕ) (restart : Bool) (streams : List (List ℕ)) → AreRight file → s.end ≤ logical_size file → IsPacket s.fields streams → q + length (data_packet restart streams) ≤ s.end → Stands (logical file) q (data_packet restart streams) → IsRead file s q (records_packet restart streams)
unfolding packet_bytes packet_fault packet_head_fault packet_at is_misshapen_data
data-read file s q restart streams right inside fits within stands =
    let b = logical file in
    let r = data_packet-read b q restart streams fits.fits stands in
    let size : length (data_packet restart streams) ≡ whole_words (data_size streams) = length-data_packet restart streams in
    let padded : data_size streams ≤ whole_words (data_size streams) = le-whole_words (data_size streams) in
    let parts : data_size streams ≡ 6 + 2 * length streams + total streams = data_size_is streams in
    let whole : whole_words (data_size streams) % 4 ≡ 0 = whole_words-mod (data_size streams) in
    let head : span_fault file q 4 ≡ None = span-right file q 4 right (omega arith) in
    let body : span_fault file q (whole_words (data_size streams)) ≡ None = span-right file q (whole_words (data_size streams)) right (omega arith) in
    let fields : length streams ≡ s.fields = fits.count in
    let ends : nat_lt s.end (q + whole_words (data_size streams)) ≡ false = le-ltb s.end (q + whole_words (data_size streams)) (omega arith) in
    let six : nat_lt (whole_words (data_size streams)) 6 ≡ false = le-ltb (whole_words (data_size streams)) 6 (omega arith) in
    let streams_in : nat_lt (whole_words (data_size streams)) (6 + 2 * length streams + total streams) ≡ false = le-ltb (whole_words (data_size streams)) (6 + 2 * length streams + total streams) (omega arith) in
    let count : (length streams == s.fields) ≡ true = eq-eqb (length streams) s.fields fields in
    record {
      sound = rw (head, r.sort, r.size, whole, ends, body, six, r.sizes, r.count, count, streams_in);
      is = rw (r.sort, r.restart, r.size, r.streams, size);
      size = rw (r.size, size);
      some = rw size (omega arith);
    }

index-read : (file : List ℕ) (s : Section) (q level : ℕ) (es : List Entry) → AreRight file → s.end ≤ logical_size file → IsIndexPacket level es → q + length (index_packet level es) ≤ s.end → Stands (logical file) q (index_packet level es) → IsRead file s q (entries_packet level es)
unfolding packet_bytes packet_fault packet_head_fault packet_at
index-read file s q level es right inside fits within stands =
    let size : length (index_packet level es) ≡ 16 + 16 * length es = length-index_packet level es in
    let few : length es ≤ 2048 = fits.few in
    let r = index_packet-read (logical file) q level es fits.small (omega arith) fits.room stands in
    let whole : (16 + 16 * length es) % 4 ≡ 0 = omega arith in
    let head : span_fault file q 4 ≡ None = span-right file q 4 right (omega arith) in
    let ends : nat_lt s.end (q + (16 + 16 * length es)) ≡ false = le-ltb s.end (q + (16 + 16 * length es)) (omega arith) in
    record {
      sound = rw (head, r.sort, r.size, whole, ends);
      is = rw (r.sort, r.restart, r.size, size);
      size = rw (r.size, size);
      some = rw size (omega arith);
    }

-- a spelled packet that stands in the section is read, and has no fault
pub packet-read : (file : List ℕ) (s : Section) (q : ℕ) (packet : Spelled) → AreRight file → s.end ≤ logical_size file → IsSpelled s.fields packet → q + length (packet_bytes packet) ≤ s.end → Stands (logical file) q (packet_bytes packet) → IsRead file s q packet
unfolding packet_bytes
packet-read file s q (records_packet restart streams) right inside fits within stands = data-read file s q restart streams right inside fits within stands
packet-read file s q (entries_packet level es) right inside fits within stands = index-read file s q level es right inside fits within stands

-- the walk over spelled packets up to the section's end finds just those
pub placed-walk : (file : List ℕ) (s : Section) (q : ℕ) (packets : List Spelled) → AreRight file → s.end ≤ logical_size file → AllByRecursion (IsSpelled s.fields) packets → q + length (packets_bytes packets) ≡ s.end → Stands (logical file) q (packets_bytes packets) → IsWalk file s q (placed_from q packets)
unfolding IsWalk placed_from
placed-walk file s q [] right inside fit ends stands = omega arith
placed-walk file s q (packet ∷ packets) right inside fit ends stands =
    let sizes : length (packet_bytes packet ++ packets_bytes packets) ≡ length (packet_bytes packet) + length (packets_bytes packets) = length-append (packet_bytes packet) (packets_bytes packets) in
    let here = packet-read file s q packet right inside fit.0 (omega arith) (Stands-front (logical file) q (packet_bytes packet) (packets_bytes packets) stands) in
    let later = placed-walk file s (q + length (packet_bytes packet)) packets right inside fit.1 (omega arith) (Stands-behind (logical file) q (packet_bytes packet) (packets_bytes packets) stands) in
    let some : 4 ≤ length (packet_bytes packet) = here.some in
    (omega arith, here.sound, sym here.is, rw here.size later)

pub placed-walk_from : (file : List ℕ) (s : Section) (q : ℕ) (packets : List Spelled) → AreRight file → s.end ≤ logical_size file → AllByRecursion (IsSpelled s.fields) packets → q + length (packets_bytes packets) ≡ s.end → Stands (logical file) q (packets_bytes packets) → walk_from file s q ≡ record { packets = placed_from q packets; fault = None }
placed-walk_from file s q packets right inside fit ends stands = walk_from-of file s q (placed_from q packets) (placed-walk file s q packets right inside fit ends stands)
