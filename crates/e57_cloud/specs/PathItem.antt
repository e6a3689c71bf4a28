-- One item of a file by its record number: the item, or the first fault on the way to it. Only what lies on the way is judged.
use Rattle.std.specs.Prelude.{ℕ, zero, suc, ◌+◌, ◌-◌, ◌==◌, ◌&&◌, ◌||◌, min, nat_lt, Bool, if◌then◌else◌, List, [], ◌∷◌, Option, Some, None, is_none, Result, Ok, Err}
use Rattle.std.specs.Option.{option_or}
use Rattle.e57_base.specs.declared.fault.Fault.{Fault}
use Rattle.e57_base.specs.declared.kind.Kind.TheVariants.{RestartUnindexed, StreamShort, ValueRange, StringLimit}
use Rattle.e57_base.specs.Fault.{fault}
use Rattle.e57_layout.specs.Values.{ItemKind, integers, words, strings, Value, whole, Outcome, here, short, over_limit, out_of_range}
use Rattle.e57_layout.specs.Strings.{string_length_at}
use Rattle.e57_layout.specs.Widths.{width}
use Rattle.e57_layout.specs.Items.{item_at}
use Rattle.e57_layout.specs.declared.section.Section.{Section}
use Rattle.e57_layout.specs.declared.packet.Entry.{Entry}
use Rattle.e57_layout.specs.declared.field.Fixed.{Fixed}
use Rattle.e57_cloud.specs.Section.{section_fault, or_zero}
use Rattle.e57_cloud.specs.Walk.{Packet, walk_from}
use Rattle.e57_cloud.specs.Index.{known_place, entries_of, index_packet_fault, target_fault, root_fault, root_level, root_entry}
use Rattle.e57_cloud.specs.Chunks.{data_packets, stream_of, by_chunk, float_items, start_of}
use Rattle.e57_cloud.specs.Cloud.{Leaf, Cloud, fixed_of, section_of}

-- the chunk of a record: its first record, the first record past it, and the place of its first packet
pub record ChunkAt : Type 0 where
  pub first : ℕ
  pub until : ℕ
  pub place : ℕ

abbrev pub unless : {X : Type 0} → Option Fault → Result X Fault → Result X Fault
unless None result = result
unless (Some found) result = Err found

abbrev pub and_then : {X Y : Type 0} → Result X Fault → (X → Result Y Fault) → Result Y Fault
and_then (Ok x) next = next x
and_then (Err found) next = Err found

-- ---- the path through the index

-- the last entry whose record is at most i, and its bound; the entries rise, the first one's record is at most i
unfoldable pub pick : ℕ → ℕ → Entry → List Entry → Entry × ℕ
pick i bound e [] = (e, bound)
pick i bound e (later ∷ es) = if nat_lt i later.first then (e, later.first) else pick i bound later es

-- An index packet without fault has an entry, so the first case doesn't come.
abbrev pub by_entry : (Entry → ℕ → Result ChunkAt Fault) → ℕ → ℕ → List Entry → Result ChunkAt Fault
by_entry f i bound [] = Ok (record { first = 0; until = 0; place = 0 })
by_entry f i bound (e ∷ es) = f (pick i bound e es).0 (pick i bound e es).1

-- what an entry of this height leads to for record i
unfoldable pub descend : List ℕ → Section → ℕ → ℕ → Entry → ℕ → Result ChunkAt Fault
descend file s i zero e bound = unless (target_fault file s e) (Ok (record { first = e.first; until = bound; place = known_place e.place }))
descend file s i (suc level) e bound = unless (index_packet_fault file s level e bound) (by_entry (descend file s i level) i bound (entries_of file e.place))

-- The chunk of record i by the index, or the first fault on the path from the root to it. Without an index, all records
-- from the data on.
unfoldable pub path : List ℕ → Section → ℕ → Result ChunkAt Fault
path file s i =
    if s.index == 0 then Ok (record { first = 0; until = s.count; place = s.data_place })
    else unless (root_fault file s) (descend file s i (suc (root_level file s)) (root_entry s) s.count)

-- ---- the walk through a chunk

-- the data packets of a chunk, the fault that ended the walk, and the start of the next chunk where that ended it
pub record Stretch : Type 0 where
  pub packets : List Packet
  pub fault : Option Fault
  pub next : Option ℕ

-- Where a later chunk is there, its start ends the walk, and what comes after isn't judged.
abbrev pub stretch_of : Option Fault → List (List Packet) → Stretch
stretch_of found [] = record { packets = []; fault = found; next = None }
stretch_of found (chunk ∷ []) = record { packets = chunk; fault = found; next = None }
stretch_of found (chunk ∷ later ∷ more) = record { packets = chunk; fault = None; next = Some (start_of later) }

-- the walk from place q up to a fault, the next chunk, or the section's end
unfoldable pub stretch : List ℕ → Section → ℕ → Stretch
stretch file s q = stretch_of (walk_from file s q).fault (by_chunk (data_packets (walk_from file s q).packets))

abbrev pub reaches_end : Stretch → Bool
reaches_end w = is_none w.fault && is_none w.next

-- ---- chunks without an index, in a cloud with a Float field: chunk after chunk

-- The chunk that begins with this record has record i: it has so many items of the Float field, or no other chunk follows.
abbrev pub is_covered : ℕ → ℕ → ℕ → Stretch → Bool
is_covered i first items w = nat_lt (i - first) items || reaches_end w

-- A later chunk needs records in the one before it. Where neither the walk's end nor a fault was met, a later chunk was.
abbrev pub covered : Section → ℕ → ℕ → ℕ → ℕ → Stretch → (ℕ → Result ChunkAt Fault) → Result ChunkAt Fault
covered s i first q items w go =
    if is_covered i first items w then Ok (record { first = first; until = if reaches_end w then s.count else min s.count (first + items); place = q })
    else unless w.fault (if items == 0 then Err (fault RestartUnindexed s.node (or_zero w.next)) else go (or_zero w.next))

-- The chunk of record i from a chunk with this first record and place on. A later chunk starts at least four bytes later,
-- so this fuel is more than the number of chunks where it is the number of bytes that are left.
unfoldable pub cover : List ℕ → Section → Fixed → ℕ → ℕ → ℕ → ℕ → Result ChunkAt Fault
cover file s fixed i zero first q = Ok (record { first = first; until = s.count; place = q })
cover file s fixed i (suc fuel) first q =
    covered s i first q (float_items (Some fixed) (stretch file s q).packets) (stretch file s q)
    (λ next. cover file s fixed i fuel (first + float_items (Some fixed) (stretch file s q).packets) next)

-- the same, with fuel that is enough
abbrev pub cover_from : List ℕ → Section → Fixed → ℕ → ℕ → ℕ → Result ChunkAt Fault
cover_from file s fixed i first q = cover file s fixed i (s.end - q) first q

-- the chunk of record i of a section whose first Float field is this one
unfoldable pub chunk_at : List ℕ → Section → Option Fixed → ℕ → Result ChunkAt Fault
chunk_at file s None i = path file s i
chunk_at file s (Some fixed) i = if s.index == 0 then cover_from file s fixed i 0 s.data_place else path file s i

-- ---- the item

-- the fault of a short stream: that of the walk, or else its own
abbrev pub or_short : Option Fault → Fault → Result Value Fault
or_short None own = Err own
or_short (Some ended) own = Err ended

-- what is answered for an item of a chunk with this first record, whose walk was ended by this fault
abbrev pub answer : ℕ → ℕ → Option Fault → Outcome → Result Value Fault
answer node first ended (here v) = Ok v
answer node first ended (over_limit k) = Err (fault StringLimit (first + k) node)
answer node first ended (out_of_range k) = Err (fault ValueRange (first + k) node)
answer node first ended (short k) = or_short ended (fault StreamShort (first + k) node)

-- without an index and without a Float field a later chunk is a fault
abbrev pub restart_fault : Section → Option Fixed → Option ℕ → Option Fault
restart_fault s fixed None = None
restart_fault s fixed (Some q) = if s.index == 0 && is_none fixed then Some (fault RestartUnindexed s.node q) else None

abbrev pub ended_by : Section → Option Fixed → Stretch → Option Fault
ended_by s fixed w = option_or w.fault (restart_fault s fixed w.next)

-- what `look` finds for record i in the stream of field f of its chunk
unfoldable pub item_in : List ℕ → Section → Option Fixed → ℕ → ℕ → (List ℕ → ℕ → Outcome) → ℕ → ChunkAt → Result Value Fault
item_in file s fixed f node look i chunk =
    answer node chunk.first (ended_by s fixed (stretch file s chunk.place))
    (look (stream_of f (stretch file s chunk.place).packets) (i - chunk.first))

-- the item of a field whose items take no bits
abbrev pub constant_of : ItemKind → Option Value
constant_of (integers low high) = if width low high == 0 then Some (whole low) else None
constant_of (words w) = None
constant_of strings = None

abbrev pub item_by : List ℕ → Section → Option Fixed → ℕ → Leaf → ℕ → Option Value → Result Value Fault
item_by file s fixed f leaf i (Some v) = and_then (path file s i) (λ chunk. Ok v)
item_by file s fixed f leaf i None = and_then (chunk_at file s fixed i) (item_in file s fixed f leaf.node (item_at leaf.kind) i)

-- Field f of record i of a section whose header has no fault and whose first Float field is this one, or the first fault
-- on the way. For a constant field the index is judged, and no packet.
unfoldable pub item_of : List ℕ → Section → Option Fixed → ℕ → Leaf → ℕ → Result Value Fault
item_of file s fixed f leaf i = item_by file s fixed f leaf i (constant_of leaf.kind)

-- field f of record i of a cloud, or the first fault on the way to it
unfoldable pub path_item : List ℕ → Cloud → ℕ → Leaf → ℕ → Result Value Fault
path_item file c f leaf i = unless (section_fault file c.node c.offset) (item_of file (section_of file c) (fixed_of c) f leaf i)

-- ---- the length of a string

-- the length in bytes of the string of field f at record i, or the first fault on the way to it
unfoldable pub length_of : List ℕ → Section → Option Fixed → ℕ → Leaf → ℕ → Result Value Fault
length_of file s fixed f leaf i = and_then (chunk_at file s fixed i) (item_in file s fixed f leaf.node (string_length_at 0) i)

unfoldable pub path_length : List ℕ → Cloud → ℕ → Leaf → ℕ → Result Value Fault
path_length file c f leaf i = unless (section_fault file c.node c.offset) (length_of file (section_of file c) (fixed_of c) f leaf i)

-- the fault of a result
abbrev pub refusal : Result Value Fault → Option Fault
refusal (Ok v) = None
refusal (Err found) = Some found

-- the first fault of the n records from record i on, each looked for by itself
unfoldable pub first_refusal : (ℕ → Result Value Fault) → ℕ → ℕ → Option Fault
first_refusal look i zero = None
first_refusal look i (suc n) = option_or (refusal (look i)) (first_refusal look (i + 1) n)
