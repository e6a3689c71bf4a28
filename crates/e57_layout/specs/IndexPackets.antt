-- Index packets (ASTM E2807, index packets): how they are spelled, and what is read of the one at place q. Flags and
-- reserved bytes are spelled as zeros, and not read.
use Rattle.std.specs.Prelude.{ℕ, zero, suc, ◌+◌, ◌*◌, List, [], ◌∷◌, ◌++◌, length, replicate}
use Rattle.std.specs.List.{flat_map}
use Rattle.e57_bits.specs.Bits.{number}
use Rattle.e57_layout.specs.declared.packet.IndexHead.{IndexHead}
use Rattle.e57_layout.specs.declared.packet.Entry.{Entry}
use Rattle.e57_layout.specs.Bytes.{low_bytes}
use Rattle.e57_layout.specs.Packets.{packet_head}

-- number of entries, level, 9 reserved bytes
unfoldable pub index_head : IndexHead → List ℕ
index_head h = low_bytes 2 h.entries ++ (low_bytes 1 h.level ++ replicate 9 0)

-- first record, physical offset
unfoldable pub entry_bytes : Entry → List ℕ
entry_bytes e = low_bytes 8 e.first ++ low_bytes 8 e.place

-- how many bytes an index packet of n entries has
abbrev pub index_size : ℕ → ℕ
index_size n = 16 + 16 * n

-- the head, the number of entries and the level, the entries
unfoldable pub index_packet : ℕ → List Entry → List ℕ
index_packet level entries =
    packet_head (record { sort = 0; flags = 0; length = index_size (length entries) })
    ++ (index_head (record { entries = length entries; level = level }) ++ flat_map entry_bytes entries)

unfoldable pub entry_count_at : List ℕ → ℕ → ℕ
entry_count_at b q = number b (8 * q + 32) 16

unfoldable pub level_at : List ℕ → ℕ → ℕ
level_at b q = number b (8 * q + 48) 8

unfoldable pub entry_at : List ℕ → ℕ → Entry
entry_at b q = record { first = number b (8 * q) 64; place = number b (8 * q + 64) 64 }

-- n entries, the first at place q
unfoldable pub entries_at : List ℕ → ℕ → ℕ → List Entry
entries_at b q zero = []
entries_at b q (suc n) = entry_at b q ∷ entries_at b (q + 16) n
