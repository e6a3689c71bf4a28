-- The pages that a reader of some fields and records may ask for: those of what lies on the way to an item, and no others.
-- What a fault puts out of reach adds nothing.
use Rattle.std.specs.Prelude.{◌≡◌, ℕ, zero, suc, ◌+◌, ◌-◌, ◌*◌, ◌/◌, ◌<◌, ◌≤◌, ◌≢◌, ◌⊎◌, ◌==◌, ◌&&◌, ◌||◌, not, nat_le, Bool, true, false, if◌then◌else◌, List, [], ◌∷◌, ◌++◌, length, slice_get, Option, Some, None, is_none, IsSomeAnd, Result, Ok, Err, Contains}
use Rattle.e57_base.specs.declared.fault.Fault.{Fault}
use Rattle.e57_page.specs.Place.{payload_length, place, span_end}
use Rattle.e57_page.specs.XmlSection.{xml_span_fault, xml_start}
use Rattle.e57_page.specs.Header.{header_of}
use Rattle.e57_page.specs.File.{logical, logical_size}
use Rattle.e57_layout.specs.Values.{ItemKind, Outcome, here, short, over_limit, out_of_range}
use Rattle.e57_layout.specs.Packets.{length_at}
use Rattle.e57_layout.specs.IndexPackets.{entry_count_at}
use Rattle.e57_layout.specs.Items.{item_at}
use Rattle.e57_layout.specs.declared.section.Section.{Section}
use Rattle.e57_layout.specs.declared.packet.Entry.{Entry}
use Rattle.e57_layout.specs.declared.field.Fixed.{Fixed}
use Rattle.e57_cloud.specs.Section.{section_fault, or_zero}
use Rattle.e57_cloud.specs.Walk.{Packet, is_data_at, packet_head_fault, walk_from}
use Rattle.e57_cloud.specs.Index.{known_place, entries_of, index_shape_fault, index_packet_fault, root_fault, root_level, root_entry}
use Rattle.e57_cloud.specs.Chunks.{data_packets, stream_of, by_chunk, float_items}
use Rattle.e57_cloud.specs.Cloud.{Leaf, Cloud, fixed_of, section_of}
use Rattle.e57_cloud.specs.PathItem.{ChunkAt, Stretch, stretch, is_covered, pick, constant_of, path}

-- page p has some of the n logical bytes from place q on
abbrev pub InSpan : ℕ → ℕ → ℕ → Type 0
InSpan q n p = (q / payload_length ≤ p) × (p < span_end q n)

-- ---- the path through the index

-- p is a page of the 16 bytes at this offset, which are bytes of the section after its header
abbrev pub InIndexStart : Section → ℕ → ℕ → Type 0
InIndexStart s offset p = IsSomeAnd (place offset) (λ q. (s.start + 32 ≤ q) × (q + 16 ≤ s.end) × InSpan q 16 p)

-- p is a page of the entries of the index packet of this level at this offset, whose shape has no fault
abbrev pub InEntries : List ℕ → Section → ℕ → ℕ → ℕ → Type 0
InEntries file s level offset p =
    (index_shape_fault file s level offset ≡ None) × InSpan (known_place offset + 16) (16 * entry_count_at (logical file) (known_place offset)) p

-- p is a page of the four bytes that an entry of height 0 names
abbrev pub InTarget : Section → Entry → ℕ → Type 0
InTarget s e p = IsSomeAnd (place e.place) (λ q. (s.data_place ≤ q) × (q + 4 ≤ s.end) × InSpan q 4 p)

abbrev pub OnPicked : (Entry → ℕ → Type 0) → ℕ → ℕ → List Entry → Type 0
OnPicked f i bound [] = ⊥
OnPicked f i bound (e ∷ es) = f (pick i bound e es).0 (pick i bound e es).1

-- p is a page of what an entry of this height leads to for record i
unfoldable pub OnDescent : List ℕ → Section → ℕ → ℕ → ℕ → Entry → ℕ → Type 0
OnDescent file s i p zero e bound = InTarget s e p
OnDescent file s i p (suc level) e bound =
    InIndexStart s e.place p
    ⊎ (InEntries file s level e.place p
    ⊎ ((index_packet_fault file s level e bound ≡ None) × OnPicked (OnDescent file s i p level) i bound (entries_of file e.place)))

-- p is a page of the path of record i in a section with an index
abbrev pub OnPath : List ℕ → Section → ℕ → ℕ → Type 0
OnPath file s i p =
    (s.index ≢ 0)
    × (InIndexStart s s.index p ⊎ ((root_fault file s ≡ None) × OnDescent file s i p (suc (root_level file s)) (root_entry s) s.count))

-- ---- the walk through a chunk

-- how many bytes of the packet at place q are read: four, or all of a data packet whose first four have no fault
unfoldable pub needed_at : List ℕ → Section → ℕ → ℕ
needed_at file s q = if is_none (packet_head_fault file s q) && is_data_at (logical file) q then length_at (logical file) q else 4

-- the place behind packets that follow one another from place q on
unfoldable pub place_after : ℕ → List Packet → ℕ
place_after q [] = q
place_after q (packet ∷ packets) = place_after (q + packet.length) packets

-- These are the packets from place `at` up to place q. None has a fault, and none begins another chunk than the first.
pub record IsWalked (file : List ℕ) (s : Section) (at : ℕ) (packets : List Packet) (q : ℕ) : Type 0 where
  pub later : List Packet
  pub all : (walk_from file s at).packets ≡ packets ++ later
  pub reached : place_after at packets ≡ q
  pub one_chunk : length (by_chunk (data_packets packets)) ≡ 1

-- p is a page of a packet of the walk from place `at`, or of the one that ends it, where the packets before it don't serve
pub record OnWalk (file : List ℕ) (s : Section) (is_wanting : List Packet → Bool) (at p : ℕ) : Type 0 where
  pub before : List Packet
  pub q : ℕ
  pub walked : IsWalked file s at before q
  pub there : q + 4 ≤ s.end
  pub wanting : is_wanting before ≡ true
  pub within : InSpan q (needed_at file s q) p

abbrev pub is_short : Outcome → Bool
is_short (here v) = false
is_short (short k) = true
is_short (over_limit k) = false
is_short (out_of_range k) = false

-- these packets of a chunk with this first record end before field f of record i
unfoldable pub lacks_item : ℕ → ItemKind → ℕ → ℕ → List Packet → Bool
lacks_item f kind i first packets = is_short (item_at kind (stream_of f (data_packets packets)) (i - first))

-- the same, or they have too few items of the first Float field to tell that record i is of this chunk
unfoldable pub lacks_record : Fixed → ℕ → ItemKind → ℕ → ℕ → List Packet → Bool
lacks_record fixed f kind i first packets = lacks_item f kind i first packets || nat_le (float_items (Some fixed) (data_packets packets)) (i - first)

-- ---- chunk after chunk, without an index and with a Float field

-- the next chunk is looked at: record i isn't told to be of this one, no fault ended its walk, and it has records
abbrev pub goes_on : ℕ → ℕ → ℕ → Stretch → Bool
goes_on i first items w = not (is_covered i first items w) && (is_none w.fault && not (items == 0))

-- p is a page of the walks for record i from a chunk with this first record and place on, with the fuel of `cover`
unfoldable pub OnCover : List ℕ → Section → Fixed → ℕ → ItemKind → ℕ → ℕ → ℕ → ℕ → ℕ → Type 0
OnCover file s fixed f kind i p zero first q = OnWalk file s (lacks_record fixed f kind i first) q p
OnCover file s fixed f kind i p (suc fuel) first q =
    OnWalk file s (lacks_record fixed f kind i first) q p
    ⊎ ((goes_on i first (float_items (Some fixed) (stretch file s q).packets) (stretch file s q) ≡ true)
    × OnCover file s fixed f kind i p fuel (first + float_items (Some fixed) (stretch file s q).packets) (or_zero (stretch file s q).next))

-- ---- an item

-- p is a page of the walk through the chunk to which the path leads
abbrev pub OnChunk : List ℕ → Section → ℕ → ItemKind → ℕ → ℕ → Result ChunkAt Fault → Type 0
OnChunk file s f kind i p (Ok chunk) = OnWalk file s (lacks_item f kind i chunk.first) chunk.place p
OnChunk file s f kind i p (Err found) = ⊥

abbrev pub OnWalks : List ℕ → Section → Option Fixed → ℕ → ItemKind → ℕ → ℕ → Type 0
OnWalks file s None f kind i p = OnChunk file s f kind i p (path file s i)
OnWalks file s (Some fixed) f kind i p =
    ((s.index ≡ 0) × OnCover file s fixed f kind i p (s.end - s.data_place) 0 s.data_place)
    ⊎ ((s.index ≢ 0) × OnChunk file s f kind i p (path file s i))

-- p is a page on the way to field f of record i. For a constant field no packet is walked.
abbrev pub OnItem : List ℕ → Section → Option Fixed → ℕ → Leaf → ℕ → ℕ → Type 0
OnItem file s fixed f leaf i p = OnPath file s i p ⊎ ((constant_of leaf.kind ≡ None) × OnWalks file s fixed f leaf.kind i p)

-- ---- fields and records of a cloud

-- p is a page of the header of the cloud's section
abbrev pub InSectionHeader : List ℕ → Cloud → ℕ → Type 0
InSectionHeader file c p = IsSomeAnd (place c.offset) (λ q. (q + 32 ≤ logical_size file) × InSpan q 32 p)

-- p is a page of the XML section, which lies in the file and is within its limit
abbrev pub InXml : List ℕ → ℕ → Type 0
InXml file p = (xml_span_fault (header_of file) (logical_size file) ≡ None) × InSpan (xml_start (header_of file)) (header_of file).xml_length p

-- p is a page on the way to one of the asked fields, by their numbers, of one of the n records from record a on
pub record OnRecords (file : List ℕ) (c : Cloud) (asked : List ℕ) (a n p : ℕ) : Type 0 where
  pub f : ℕ
  pub leaf : Leaf
  pub i : ℕ
  pub asks : Contains asked f
  pub is_field : slice_get c.leaves f ≡ Some leaf
  pub after : a ≤ i
  pub before : i < a + n
  pub sound : section_fault file c.node c.offset ≡ None
  pub way : OnItem file (section_of file c) (fixed_of c) f leaf i p

-- The pages that are met for the asked fields of the n records from record a on: page 0, the XML section, and where there
-- is a record, the section's header and what lies on the way to each item.
abbrev pub InMet : List ℕ → Cloud → List ℕ → ℕ → ℕ → ℕ → Type 0
InMet file c asked a n p = (p ≡ 0) ⊎ (InXml file p ⊎ ((0 < n) × (InSectionHeader file c p ⊎ OnRecords file c asked a n p)))
