-- How long the section of records with short strings is at most.
use Rattle.std.proofs.Common.{◌≡◌, ℕ, zero, suc, ◌+◌, ◌-◌, ◌*◌, ◌/◌, ◌<◌, ◌≤◌, ◌==◌, min, Bool, true, false, List, [], ◌∷◌, ◌++◌, length, map, pos, Option, Some, None, refl, arith, length-append, length-take}
use Rattle.std.specs.Prelude.{nat_le}
use Rattle.std.specs.List.{AllByRecursion, flat_map}
use Rattle.std.proofs.Math.Nat.{mul-le-mul_left}
use Rattle.std.proofs.lemmas.Bool.{cond_both, le-leb}
use Rattle.std.proofs.lemmas.List.{length-map}
use Rattle.e57_layout.specs.Packets.{total, data_size}
use Rattle.e57_layout.specs.Items.{field_bytes, octets_of, stored}
use Rattle.e57_layout.specs.Packing.{Block, first_records, later_records, cut_blocks, blocks, group_streams, join_streams, fits_packet, packets_of, flushed, chunk_groups, chunk_packets}
use Rattle.e57_layout.specs.Strings.{string_prefix, string_bytes_of}
use Rattle.e57_layout.specs.Widths.{width}
use Rattle.e57_layout.specs.Values.{ItemKind, integers, words, strings, Value, whole, word, octets, kind_width}
use Rattle.e57_layout.specs.Written.{Spelled, packet_bytes, packets_bytes, flagged, chunk_spelled, chunks_spelled, entry_runs, level_spelled, level_size, upper_entries, index_spelled, data_spelled, packets_spelled, section_spelled, index_place, entries_for, most_levels}
use Rattle.e57_layout.specs.declared.packet.Entry.{Entry}
use Rattle.e57_layout.proofs.Laws.Blocks.{block_records, blocks-records}
use Rattle.e57_layout.proofs.Laws.Chunks.{groups_of, groups-count, length-group_streams}
use Rattle.e57_layout.proofs.Laws.Index.{IsEntryRun, entry_runs-are, entry_runs-count, length-upper_entries, level_size-cons}
use Rattle.e57_layout.proofs.Laws.Layouts.{data_size_is, length-data_packet, total-cons, whole_words-le}
use Rattle.e57_layout.proofs.Laws.Lists.{all-drop, all-take}
use Rattle.e57_layout.proofs.Laws.Numbers.{length-low_bytes, length-packed}
use Rattle.e57_layout.proofs.Laws.Packing.{IsPacket, packets_of-begun, packets_of-joined, packets_of-nil, packets_of-packets}
use Rattle.e57_layout.proofs.Laws.Written.{length-chunk_entries, length-flagged, length-packets_bytes-append, length-section_spelled}
use Rattle.e57_trial.proofs.Columns.{AreShort, IsShort}

-- ---- a group of eight records

-- numbers of at most 64 bits, or strings
abbrev pub AreNarrow : List ItemKind → Type 0
AreNarrow kinds = AllByRecursion (λ kind. kind_width kind ≤ 64) kinds

string_short : (value : Value) → IsShort value → length (string_bytes_of (octets_of value)) ≤ 4
unfolding string_bytes_of string_prefix octets_of
string_short (whole z) short = rw (length-append, length-low_bytes) (omega arith)
string_short (word n) short = rw (length-append, length-low_bytes) (omega arith)
string_short (octets t) short =
    let one : length t ≤ 127 = omega (arith, short) in
    rw (le-leb (length t) 127 one, length-append, length-low_bytes) (omega (arith, short))

strings_short : (values : List Value) → AllByRecursion IsShort values → length (flat_map (λ value. string_bytes_of (octets_of value)) values) ≤ 4 * length values
strings_short [] short = omega arith
strings_short (value ∷ values) short =
    let first = string_short value short.0 in
    let rest = strings_short values short.1 in
    rw length-append (omega (arith, first, rest))

numbers_short : (w : ℕ) (numbers : List ℕ) → w ≤ 64 → length numbers ≤ 8 → (w * length numbers + 7) / 8 ≤ 64
numbers_short w numbers narrow few = grind arith

field_short : (kind : ItemKind) (values : List Value) → kind_width kind ≤ 64 → length values ≤ 8 → AllByRecursion IsShort values → length (field_bytes kind values) ≤ 64
unfolding field_bytes
field_short (integers low high) values narrow few short =
    let numbers = map (stored low) values in
    let count = length-map values (stored low) in
    let size = length-packed (width low high) numbers in
    let bytes = numbers_short (width low high) numbers narrow (omega (arith, count, few)) in
    omega (arith, size, bytes)
field_short (words w) values narrow few short =
    let numbers = map (stored (pos 0)) values in
    let count = length-map values (stored (pos 0)) in
    let size = length-packed w numbers in
    let bytes = numbers_short w numbers narrow (omega (arith, count, few)) in
    omega (arith, size, bytes)
field_short strings values narrow few short = let bytes = strings_short values short in omega (arith, bytes, few)

-- columns of at most eight items
abbrev pub AreFew : List (List Value) → Type 0
AreFew columns = AllByRecursion (λ (column : List Value). length column ≤ 8) columns

streams_short : (kinds : List ItemKind) (columns : List (List Value)) → AreNarrow kinds → AreFew columns → AreShort columns → total (group_streams kinds columns) ≤ 64 * length kinds
unfolding group_streams
streams_short [] columns narrow few short = omega arith
streams_short (kind ∷ kinds) [] narrow few short =
    let rest = streams_short kinds [] narrow.1 few short in
    let sum = total-cons [] (group_streams kinds []) in
    omega (arith, rest, sum)
streams_short (kind ∷ kinds) (column ∷ columns) narrow few short =
    let first = field_short kind column narrow.0 few.0 short.0 in
    let rest = streams_short kinds columns narrow.1 few.1 short.1 in
    let sum = total-cons (field_bytes kind column) (group_streams kinds columns) in
    omega (arith, first, rest, sum)

fits : (kinds : List ItemKind) (columns : List (List Value)) → length kinds ≤ 512 → AreNarrow kinds → AreFew columns → AreShort columns → fits_packet (group_streams kinds columns) ≡ true
unfolding fits_packet
fits kinds columns many narrow few short =
    let size = data_size_is (group_streams kinds columns) in
    let count = length-group_streams kinds columns in
    let sum = streams_short kinds columns narrow few short in
    le-leb (data_size (group_streams kinds columns)) 65536 (omega (arith, size, count, sum, many))

-- ---- records cut into blocks

first_few : (n : ℕ) (columns : List (List Value)) → AllByRecursion (λ (column : List Value). length column ≤ n) (first_records n columns)
unfolding first_records
first_few n [] = tt
first_few n (column ∷ columns) = (let size = length-take n column in omega (arith, size), first_few n columns)

first_short : (n : ℕ) (columns : List (List Value)) → AreShort columns → AreShort (first_records n columns)
unfolding first_records
first_short n [] short = tt
first_short n (column ∷ columns) short = (all-take IsShort n column short.0, first_short n columns short.1)

later_short : (n : ℕ) (columns : List (List Value)) → AreShort columns → AreShort (later_records n columns)
unfolding later_records
later_short n [] short = tt
later_short n (column ∷ columns) short = (all-drop IsShort n column short.0, later_short n columns short.1)

-- A block of at most n records.
pub record IsSmall (n : ℕ) (block : Block) : Type 0 where
  pub few : AllByRecursion (λ (column : List Value). length column ≤ n) block.columns
  pub short : AreShort block.columns

cut_small : (most n count : ℕ) (columns : List (List Value)) → AreShort columns → AllByRecursion (IsSmall n) (cut_blocks most n count columns)
unfolding cut_blocks
cut_small zero n count columns short = tt
cut_small (suc most) n count columns short =
    cond_both (count == 0) [] (record { count = min n count; columns = first_records n columns } ∷ cut_blocks most n (count - n) (later_records n columns)) (AllByRecursion (IsSmall n))
    (λ none. tt)
    (λ some. (record { few = first_few n columns; short = first_short n columns short }, cut_small most n (count - n) (later_records n columns) (later_short n columns short)))

cut_count : (most n count : ℕ) (columns : List (List Value)) → length (cut_blocks most n count columns) ≤ most
unfolding cut_blocks
cut_count zero n count columns = omega arith
cut_count (suc most) n count columns =
    let rest = cut_count most n (count - n) (later_records n columns) in
    cond_both (count == 0) [] (record { count = min n count; columns = first_records n columns } ∷ cut_blocks most n (count - n) (later_records n columns)) (λ (parts : List Block). length parts ≤ suc most)
    (λ none. omega arith)
    (λ some. omega (arith, rest))

blocks_small : (n count : ℕ) (columns : List (List Value)) → AreShort columns → AllByRecursion (IsSmall n) (blocks n count columns)
unfolding blocks
blocks_small n count columns short = cut_small count n count columns short

pub blocks_count : (n count : ℕ) (columns : List (List Value)) → length (blocks n count columns) ≤ count
unfolding blocks
blocks_count n count columns = cut_count count n count columns

-- ---- the packets of a chunk

-- each group is within one packet
abbrev AllFit : List (List (List ℕ)) → Type 0
AllFit groups = AllByRecursion (λ (group : List (List ℕ)). fits_packet group ≡ true) groups

abbrev in_run : Option (List (List ℕ)) → ℕ
in_run None = 0
in_run (Some run) = 1

length_flushed : (run : Option (List (List ℕ))) → length (flushed run) ≡ in_run run
length_flushed None = refl
length_flushed (Some run) = refl

packets_begun : (group : List (List ℕ)) (groups : List (List (List ℕ))) → fits_packet group ≡ true → length (packets_of None (group ∷ groups)) ≡ length (packets_of (Some group) groups)
packets_begun group groups fit = rw (packets_of-begun, fit) refl

-- no more packets than groups
packets_few : (run : Option (List (List ℕ))) (groups : List (List (List ℕ))) → AllFit groups → length (packets_of run groups) ≤ in_run run + length groups
packets_few run [] fit = let none = length_flushed run in rw packets_of-nil (omega (arith, none))
packets_few None (group ∷ groups) fit =
    let rest = packets_few (Some group) groups fit.1 in
    let same = packets_begun group groups fit.0 in
    omega (arith, rest, same)
packets_few (Some run) (group ∷ groups) fit =
    let joined = packets_few (Some (join_streams run group)) groups fit.1 in
    let alone = packets_few (Some group) groups fit.1 in
    let same = packets_begun group groups fit.0 in
    rw packets_of-joined
    (cond_both (fits_packet (join_streams run group)) (packets_of (Some (join_streams run group)) groups) (run ∷ packets_of None (group ∷ groups)) (λ (parts : List (List (List ℕ))). length parts ≤ 1 + suc (length groups))
    (λ within. omega (arith, joined))
    (λ over. omega (arith, alone, same)))

groups_fit : (kinds : List ItemKind) (parts : List Block) → length kinds ≤ 512 → AreNarrow kinds → AllByRecursion (IsSmall 8) parts → AllFit (groups_of kinds parts)
groups_fit kinds [] many narrow small = tt
groups_fit kinds (part ∷ parts) many narrow small = (fits kinds part.columns many narrow small.0.few small.0.short, groups_fit kinds parts many narrow small.1)

-- a packet is within its limit
abbrev IsWithin : Spelled → Type 0
IsWithin packet = length (packet_bytes packet) ≤ 65536

flagged_within : (n : ℕ) (restart : Bool) (parts : List (List (List ℕ))) → AllByRecursion (IsPacket n) parts → AllByRecursion IsWithin (flagged restart parts)
unfolding flagged packet_bytes
flagged_within n restart [] are = tt
flagged_within n restart (streams ∷ parts) are =
    let size = length-data_packet restart streams in
    let few = whole_words-le (data_size streams) are.0.fits in
    (omega (arith, size, few), flagged_within n false parts are.1)

within_bytes : (packets : List Spelled) → AllByRecursion IsWithin packets → length (packets_bytes packets) ≤ 65536 * length packets
within_bytes [] are = omega arith
within_bytes (packet ∷ packets) are =
    let rest = within_bytes packets are.1 in
    let sum = length-append (packet_bytes packet) (packets_bytes packets) in
    omega (arith, rest, sum, are.0)

module _ (kinds : List ItemKind) (many : length kinds ≤ 512) (narrow : AreNarrow kinds) where
  chunk_bytes : (chunk : Block) → AreShort chunk.columns → length (packets_bytes (chunk_spelled kinds chunk)) ≤ 65536 * chunk.count
  unfolding chunk_spelled chunk_packets chunk_groups
  chunk_bytes chunk short =
      let parts = blocks 8 chunk.count chunk.columns in
      let groups = groups_of kinds parts in
      let few = packets_few None groups (groups_fit kinds parts many narrow (blocks_small 8 chunk.count chunk.columns short)) in
      let count = blocks_count 8 chunk.count chunk.columns in
      let as_many = length-map parts (λ (group : Block). group_streams kinds group.columns) in
      let packets = packets_of None groups in
      let flags = length-flagged true packets in
      let bytes = within_bytes (flagged true packets) (flagged_within (length kinds) true packets (packets_of-packets (length kinds) None groups many tt (groups-count kinds parts))) in
      omega (arith, few, count, as_many, flags, bytes)

  chunks_bytes : (n : ℕ) (chunks : List Block) → AllByRecursion (IsSmall n) chunks → length (packets_bytes (chunks_spelled kinds chunks)) ≤ 65536 * block_records chunks
  unfolding chunks_spelled block_records
  chunks_bytes n [] small = omega arith
  chunks_bytes n (chunk ∷ chunks) small =
      let first = chunk_bytes chunk small.0.short in
      let rest = chunks_bytes n chunks small.1 in
      let sum = length-packets_bytes-append (chunk_spelled kinds chunk) (chunks_spelled kinds chunks) in
      omega (arith, first, rest, sum)

  data_bytes : (n count : ℕ) (columns : List (List Value)) → 0 < n → AreShort columns → length (packets_bytes (data_spelled kinds n count columns)) ≤ 65536 * count
  unfolding data_spelled
  data_bytes n count columns some short =
      let bytes = chunks_bytes n (blocks n count columns) (blocks_small n count columns short) in
      let all = blocks-records n count columns some in
      omega (arith, bytes, all)

-- ---- the packets of an index

level_bytes : (level : ℕ) (parts : List (List Entry)) → AllByRecursion IsEntryRun parts → level_size level parts ≤ 65536 * length parts
unfolding level_spelled
level_bytes level [] are = omega arith
level_bytes level (run ∷ parts) are =
    let rest = level_bytes level parts are.1 in
    let sum = level_size-cons level run parts in
    let few = are.0.most in
    omega (arith, rest, sum, few)

index_bytes : (most level q : ℕ) (entries : List Entry) → length (packets_bytes (index_spelled most level q entries)) ≤ 65536 * (most * length entries)
unfolding index_spelled
index_bytes zero level q entries = omega arith
index_bytes (suc most) level q entries =
    let runs = entry_runs entries in
    let count = entry_runs-count entries in
    let this = level_bytes level runs (entry_runs-are entries) in
    let above = index_bytes most (level + 1) (q + level_size level runs) (upper_entries q runs) in
    let as_many = length-upper_entries q runs in
    let fewer : length (upper_entries q runs) ≤ length entries = omega (arith, count, as_many) in
    let product = mul-le-mul_left most fewer in
    let sum = length-packets_bytes-append (level_spelled level runs) (index_spelled most (level + 1) (q + level_size level runs) (upper_entries q runs)) in
    let alone = length-packets_bytes-append (level_spelled level runs) [] in
    cond_both (nat_le (length runs) 1) [] (index_spelled most (level + 1) (q + level_size level runs) (upper_entries q runs))
    (λ (packets : List Spelled). length (packets_bytes (level_spelled level runs ++ packets)) ≤ 65536 * (suc most * length entries))
    (λ last. grind (arith, this, count, alone))
    (λ not_last. grind (arith, this, count, above, product, sum))

-- ---- the section

pub section_bytes : (q : ℕ) (kinds : List ItemKind) (n count : ℕ) (columns : List (List Value)) → length kinds ≤ 512 → AreNarrow kinds → 0 < n → AreShort columns → length (section_spelled q kinds n count columns) ≤ 32 + 65536 * (6 * count)
unfolding packets_spelled
section_bytes q kinds n count columns many narrow some short =
    let data_part = data_bytes kinds many narrow n count columns some short in
    let place = index_place (q + 32) kinds n count columns in
    let entries = entries_for (q + 32) kinds n count columns in
    let index = index_bytes most_levels 0 place entries in
    let as_many = length-chunk_entries kinds (q + 32) 0 (blocks n count columns) in
    let chunks = blocks_count n count columns in
    let sum = length-packets_bytes-append (data_spelled kinds n count columns) (index_spelled most_levels 0 place entries) in
    let all = length-section_spelled q kinds n count columns in
    omega (arith, data_part, index, as_many, chunks, sum, all)
