-- A compressed vector section as we write it: its header, the data packets of its chunks, the packets of its index. And
-- a blob section.
use Rattle.std.specs.Prelude.{ℕ, zero, suc, ◌+◌, ◌*◌, ◌/◌, ◌%◌, nat_le, Bool, true, false, if◌then◌else◌, List, [], ◌∷◌, ◌++◌, length, map, take, drop}
use Rattle.std.specs.List.{flat_map}
use Rattle.e57_layout.specs.declared.section.SectionHeader.{SectionHeader}
use Rattle.e57_layout.specs.declared.packet.Entry.{Entry}
use Rattle.e57_layout.specs.Headers.{section_head, blob_head}
use Rattle.e57_layout.specs.Packets.{whole_words, data_packet}
use Rattle.e57_layout.specs.IndexPackets.{index_packet, index_size}
use Rattle.e57_layout.specs.Values.{ItemKind, Value}
use Rattle.e57_layout.specs.Packing.{Block, blocks, chunk_packets}

-- the physical offset of a logical place (ASTM E2807, physical layout)
unfoldable pub physical : ℕ → ℕ
physical q = q / 1020 * 1024 + q % 1020

-- ---- packets one after another

-- a data packet or an index packet
pub data Spelled : Type 0 where
  records_packet : Bool → List (List ℕ) → Spelled
  entries_packet : ℕ → List Entry → Spelled

unfoldable pub packet_bytes : Spelled → List ℕ
packet_bytes (records_packet restart streams) = data_packet restart streams
packet_bytes (entries_packet level entries) = index_packet level entries

abbrev pub packets_bytes : List Spelled → List ℕ
packets_bytes packets = flat_map packet_bytes packets

-- ---- chunks

-- data packets with these streams, the first of them with this flag and the others without
unfoldable pub flagged : Bool → List (List (List ℕ)) → List Spelled
flagged restart [] = []
flagged restart (streams ∷ later) = records_packet restart streams ∷ flagged false later

-- the packets of a chunk: the first has the restart flag
unfoldable pub chunk_spelled : List ItemKind → Block → List Spelled
chunk_spelled kinds chunk = flagged true (chunk_packets kinds chunk)

unfoldable pub chunks_spelled : List ItemKind → List Block → List Spelled
chunks_spelled kinds chunks = flat_map (chunk_spelled kinds) chunks

-- the entries of chunks that stand from place q on, the first of which begins with this record
unfoldable pub chunk_entries : List ItemKind → ℕ → ℕ → List Block → List Entry
chunk_entries kinds q first [] = []
chunk_entries kinds q first (chunk ∷ chunks) =
    record { first = first; place = physical q }
    ∷ chunk_entries kinds (q + length (packets_bytes (chunk_spelled kinds chunk))) (first + chunk.count) chunks

-- ---- the index

-- the first record of some entries, of which there is one at least
abbrev pub first_record : List Entry → ℕ
first_record [] = 0
first_record (e ∷ es) = e.first

-- how many entries an index packet has at most
abbrev pub entries_limit : ℕ
entries_limit = 2048

-- the first `most` of the runs into which entries are cut
unfoldable pub cut_runs : ℕ → List Entry → List (List Entry)
cut_runs zero es = []
cut_runs (suc most) [] = []
cut_runs (suc most) (e ∷ es) = take entries_limit (e ∷ es) ∷ cut_runs most (drop entries_limit (e ∷ es))

-- the entries of a level, one run for each packet, the last one shorter; there are at most as many runs as entries
unfoldable pub entry_runs : List Entry → List (List Entry)
entry_runs es = cut_runs (length es) es

-- the packets of a level
unfoldable pub level_spelled : ℕ → List (List Entry) → List Spelled
level_spelled level runs = map (entries_packet level) runs

-- how many bytes they have
abbrev pub level_size : ℕ → List (List Entry) → ℕ
level_size level runs = length (packets_bytes (level_spelled level runs))

-- the entries that name them, the first of which stands at place q
unfoldable pub upper_entries : ℕ → List (List Entry) → List Entry
upper_entries q [] = []
upper_entries q (run ∷ runs) =
    record { first = first_record run; place = physical q } ∷ upper_entries (q + index_size (length run)) runs

-- The packets of a level of the index, which stand from place q on, and of the levels above it, of which there are fewer
-- than `most`. A level has one more above it if it has more than one packet.
unfoldable pub index_spelled : ℕ → ℕ → ℕ → List Entry → List Spelled
index_spelled zero level q es = []
index_spelled (suc most) level q es =
    level_spelled level (entry_runs es)
    ++ (if nat_le (length (entry_runs es)) 1 then []
    else index_spelled most (level + 1) (q + level_size level (entry_runs es)) (upper_entries q (entry_runs es)))

-- the place of the one packet of the last level
unfoldable pub root_place : ℕ → ℕ → ℕ → List Entry → ℕ
root_place zero level q es = q
root_place (suc most) level q es =
    if nat_le (length (entry_runs es)) 1 then q
    else root_place most (level + 1) (q + level_size level (entry_runs es)) (upper_entries q (entry_runs es))

-- As many levels as an index may need: four, of 2048 entries in each packet, are enough for 2 ^ 40 chunks.
abbrev pub most_levels : ℕ
most_levels = 5

-- ---- the section

-- the data packets of `count` records in chunks of n
unfoldable pub data_spelled : List ItemKind → ℕ → ℕ → List (List Value) → List Spelled
data_spelled kinds n count columns = chunks_spelled kinds (blocks n count columns)

-- where the index stands of a section whose data stand from place q on
abbrev pub index_place : ℕ → List ItemKind → ℕ → ℕ → List (List Value) → ℕ
index_place q kinds n count columns = q + length (packets_bytes (data_spelled kinds n count columns))

-- the entries of its chunks
abbrev pub entries_for : ℕ → List ItemKind → ℕ → ℕ → List (List Value) → List Entry
entries_for q kinds n count columns = chunk_entries kinds q 0 (blocks n count columns)

-- its packets
unfoldable pub packets_spelled : ℕ → List ItemKind → ℕ → ℕ → List (List Value) → List Spelled
packets_spelled q kinds n count columns =
    data_spelled kinds n count columns
    ++ index_spelled most_levels 0 (index_place q kinds n count columns) (entries_for q kinds n count columns)

-- where its index has its root
abbrev pub root_for : ℕ → List ItemKind → ℕ → ℕ → List (List Value) → ℕ
root_for q kinds n count columns =
    root_place most_levels 0 (index_place q kinds n count columns) (entries_for q kinds n count columns)

-- the header of the section at place q
abbrev pub header_for : ℕ → List ItemKind → ℕ → ℕ → List (List Value) → SectionHeader
header_for q kinds n count columns = record {
  id = 1;
  length = 32 + length (packets_bytes (packets_spelled (q + 32) kinds n count columns));
  data_place = physical (q + 32);
  index = physical (root_for (q + 32) kinds n count columns);
}

-- the section at place q with `count` records in chunks of n
unfoldable pub section_spelled : ℕ → List ItemKind → ℕ → ℕ → List (List Value) → List ℕ
section_spelled q kinds n count columns =
    section_head (header_for q kinds n count columns) ++ packets_bytes (packets_spelled (q + 32) kinds n count columns)

-- the section of a blob: its length counts the header, and the bytes up to a multiple of 4, though nothing fills them
unfoldable pub blob_spelled : List ℕ → List ℕ
blob_spelled bytes = blob_head (16 + whole_words (length bytes)) ++ bytes
