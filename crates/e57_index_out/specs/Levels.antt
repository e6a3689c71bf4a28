-- The levels of an index while it is written: the entries of each are made from those of the chunks.
use Rattle.std.specs.Prelude.{◌≡◌, ℕ, ◌+◌, ◌-◌, ◌*◌, ◌/◌, ◌^◌, ◌<◌, ◌≤◌, ◌==◌, if◌then◌else◌, min, List, ◌++◌, length, map, slice_index_or}
use Rattle.std.specs.List.{range_with_len}
use Rattle.e57_layout.specs.IndexPackets.{index_size, index_head}
use Rattle.e57_layout.specs.Packets.{packet_head}
use Rattle.e57_layout.specs.Written.{physical, entries_limit, most_levels}
use Rattle.e57_layout.specs.declared.packet.Entry.{Entry}
use Rattle.e57_page_out.specs.Writing.{most_bytes}
use Rattle.e57_index_out.specs.declared.level.Level.{Level}

-- level 0 of an index of so many chunks
abbrev pub lowest_level : ℕ → Level
lowest_level chunks = record { number = 0; count = chunks; step = 1; below = 0 }

-- the level above one whose packets stand from place q on
abbrev pub upper_level : Level → ℕ → Level
upper_level level q =
    record {
      number = level.number + 1;
      count = (level.count + 2047) / 2048;
      step = level.step * entries_limit;
      below = q;
    }

abbrev pub no_entry : Entry
no_entry = record { first = 0; place = 0 }

-- the entry of the chunk with which entry k of a level begins
abbrev pub chunk_entry : List Entry → Level → ℕ → Entry
chunk_entry chunks level k = slice_index_or chunks (k * level.step) no_entry

-- entry k of a level: that of a chunk, or of a packet one level lower, before which there are k whole ones
abbrev pub level_entry : List Entry → Level → ℕ → Entry
level_entry chunks level k =
    if level.number == 0 then chunk_entry chunks level k
    else record { first = (chunk_entry chunks level k).first; place = physical (level.below + k * index_size entries_limit) }

-- n entries of a level from entry k on
unfoldable pub level_part : List Entry → Level → ℕ → ℕ → List Entry
level_part chunks level k n = map (level_entry chunks level) (range_with_len k n)

-- all of them
abbrev pub level_entries : List Entry → Level → List Entry
level_entries chunks level = level_part chunks level 0 level.count

-- those of packet j
abbrev pub packet_entries : List Entry → Level → ℕ → List Entry
packet_entries chunks level j = level_part chunks level (entries_limit * j) (min entries_limit (level.count - entries_limit * j))

-- This is a level of the index of so many chunks: each entry begins with one of them, and leads to a place in a file.
pub record IsLevel (chunks : ℕ) (level : Level) : Type 0 where
  pub some : 0 < level.count
  pub number : level.number < most_levels
  pub most : level.count ≤ entries_limit ^ (most_levels - level.number)
  pub named : (k : ℕ) → k < level.count → k * level.step < chunks
  pub places : (k : ℕ) → 0 < level.number → k < level.count → level.below + k * index_size entries_limit ≤ most_bytes

-- what an index packet of a level has before its n entries
abbrev pub heads : ℕ → ℕ → List ℕ
heads level n = packet_head (record { sort = 0; flags = 0; length = index_size n }) ++ index_head (record { entries = n; level = level })
