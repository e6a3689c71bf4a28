-- The index of a section (ASTM E2807, index packets): a tree of packets, whose entries of level 0 name the chunks.
-- The level of a packet is its own; the height of an entry is the level of the packet that holds it. The root packet is
-- led to by an entry of its own making, one higher than the packet.
use Rattle.std.specs.Prelude.{ℕ, zero, suc, ◌+◌, ◌*◌, ◌%◌, ◌==◌, ◌||◌, ◌&&◌, not, nat_lt, nat_le, Bool, true, false, List, [], ◌∷◌, Option, Some, None, flat_map, ◌<◌, ◌≤◌, ◌≡◌, ◌⊎◌}
use Rattle.std.specs.Option.{option_or}
use Rattle.e57_base.specs.declared.fault.Fault.{Fault}
use Rattle.e57_base.specs.declared.kind.Kind.TheVariants.{IndexShape, IndexOrder, IndexTarget}
use Rattle.e57_page.specs.Place.{place}
use Rattle.e57_base.specs.Fault.{fault}
use Rattle.e57_page.specs.File.{logical, span_fault}
use Rattle.e57_layout.specs.Packets.{sort_at, restart_at, length_at}
use Rattle.e57_layout.specs.IndexPackets.{index_size, entry_count_at, level_at, entries_at}
use Rattle.e57_layout.specs.Written.{entries_limit}
use Rattle.e57_layout.specs.declared.section.Section.{Section}
use Rattle.e57_layout.specs.declared.packet.Entry.{Entry}
use Rattle.e57_cloud.specs.Section.{when, or_zero}

-- the level of a root packet is at most this
abbrev pub highest_level : ℕ
highest_level = 5

-- the place of a physical offset that has one
abbrev pub known_place : ℕ → ℕ
known_place offset = or_zero (place offset)

-- the entries of the index packet at a physical offset
unfoldable pub entries_of : List ℕ → ℕ → List Entry
entries_of file offset = entries_at (logical file) (known_place offset + 16) (entry_count_at (logical file) (known_place offset))

-- ---- one index packet

-- 16 bytes of the section after its header stand at the offset, in pages that are right
abbrev pub index_start_fault : List ℕ → Section → ℕ → Option ℕ → Option Fault
index_start_fault file s offset None = Some (fault IndexShape s.node offset)
index_start_fault file s offset (Some q) = option_or (when (nat_lt q (s.start + 32) || nat_lt s.end (q + 16)) (fault IndexShape s.node offset)) (span_fault file q 16)

-- the first 16 bytes of the packet at place q, which is to have this level
unfoldable pub is_misshapen_index : List ℕ → Section → ℕ → ℕ → Bool
is_misshapen_index b s level q =
    not (sort_at b q == 0)
    || (not (length_at b q % 4 == 0)
    || (nat_lt s.end (q + length_at b q)
    || (entry_count_at b q == 0
    || (nat_lt entries_limit (entry_count_at b q)
    || (nat_lt (length_at b q) (index_size (entry_count_at b q))
    || not (level_at b q == level))))))

-- the records rise from the least one on, each below the bound
unfoldable pub rises : ℕ → ℕ → List Entry → Bool
rises least bound [] = true
rises least bound (e ∷ es) = nat_le least e.first && (nat_lt e.first bound && rises (e.first + 1) bound es)

-- the first entry has just this record, and the others rise
unfoldable pub begins_and_rises : ℕ → ℕ → List Entry → Bool
begins_and_rises first bound [] = false
begins_and_rises first bound (e ∷ es) = e.first == first && rises first bound (e ∷ es)

-- the first fault of the index packet at this offset before its entries: of its start, and of its shape
unfoldable pub index_shape_fault : List ℕ → Section → ℕ → ℕ → Option Fault
index_shape_fault file s level offset =
    option_or (index_start_fault file s offset (place offset))
    (when (is_misshapen_index (logical file) s level (known_place offset)) (fault IndexShape s.node offset))

-- The first fault of the packet of this level that an entry leads to, whose records lie below the bound: of its start and
-- shape, the pages of its entries, their order.
unfoldable pub index_packet_fault : List ℕ → Section → ℕ → Entry → ℕ → Option Fault
index_packet_fault file s level e bound =
    option_or (index_shape_fault file s level e.place)
    (option_or (span_fault file (known_place e.place + 16) (16 * entry_count_at (logical file) (known_place e.place)))
    (when (not (begins_and_rises e.first bound (entries_of file e.place))) (fault IndexOrder s.node e.place)))

-- ---- entries

-- an entry of height 0 names a data packet, with restart unless its record is 0
abbrev pub is_target : List ℕ → Entry → ℕ → Bool
is_target b e q = sort_at b q == 1 && (restart_at b q || e.first == 0)

abbrev pub target_fault_at : List ℕ → Section → Entry → Option ℕ → Option Fault
target_fault_at file s e None = Some (fault IndexTarget s.node e.first)
target_fault_at file s e (Some q) =
    option_or (when (nat_lt q s.data_place || nat_lt s.end (q + 4)) (fault IndexTarget s.node e.first))
    (option_or (span_fault file q 4) (when (not (is_target (logical file) e q)) (fault IndexTarget s.node e.first)))

-- the first fault of what an entry of height 0 names, told by the four bytes there
unfoldable pub target_fault : List ℕ → Section → Entry → Option Fault
target_fault file s e = target_fault_at file s e (place e.place)

-- the record of the next entry, or the bound where there is none
abbrev pub next_first : ℕ → List Entry → ℕ
next_first bound [] = bound
next_first bound (e ∷ es) = e.first

-- the first fault over entries, each with its own bound
unfoldable pub each_fault : (Entry → ℕ → Option Fault) → ℕ → List Entry → Option Fault
each_fault f bound [] = None
each_fault f bound (e ∷ es) = option_or (f e (next_first bound es)) (each_fault f bound es)

-- what an entry of this height leads to, depth first: a chunk, or a packet of one level less and what its entries lead to
unfoldable pub entry_fault : List ℕ → Section → ℕ → Entry → ℕ → Option Fault
entry_fault file s zero e bound = target_fault file s e
entry_fault file s (suc level) e bound = option_or (index_packet_fault file s level e bound) (each_fault (entry_fault file s level) bound (entries_of file e.place))

-- the entries of height 0 that an entry of this height leads to
unfoldable pub entries_below : List ℕ → ℕ → Entry → List Entry
entries_below file zero e = e ∷ []
entries_below file (suc level) e = flat_map (entries_below file level) (entries_of file e.place)

-- ---- the whole index

-- what leads to the root packet: it begins with record 0
abbrev pub root_entry : Section → Entry
root_entry s = record { first = 0; place = s.index }

unfoldable pub root_level : List ℕ → Section → ℕ
root_level file s = level_at (logical file) (known_place s.index)

-- The start of the root packet and its level. The level comes before the rest of its shape, whose fault is the same.
unfoldable pub root_fault : List ℕ → Section → Option Fault
root_fault file s = option_or (index_start_fault file s s.index (place s.index)) (when (nat_lt highest_level (root_level file s)) (fault IndexShape s.node s.index))

-- the first fault of the index of a section that has one
unfoldable pub index_fault : List ℕ → Section → Option Fault
index_fault file s = option_or (root_fault file s) (entry_fault file s (suc (root_level file s)) (root_entry s) s.count)

-- the entries of height 0 in order
unfoldable pub entries : List ℕ → Section → List Entry
entries file s = entries_below file (suc (root_level file s)) (root_entry s)

-- the records of entries rise from the least one on, each below the bound
abbrev pub Rises : ℕ → ℕ → List Entry → Type 0
Rises least bound [] = Unit {0}
Rises least bound (e ∷ es) = (least ≤ e.first) × (e.first < bound) × Rises (e.first + 1) bound es

-- The entry is in the list, and `until` is the next one's record, or the bound where it is the last.
abbrev pub HasEntry : ℕ → List Entry → Entry → ℕ → Type 0
HasEntry bound [] e until = ⊥
HasEntry bound (x ∷ xs) e until = ((x ≡ e) × (next_first bound xs ≡ until)) ⊎ HasEntry bound xs e until
