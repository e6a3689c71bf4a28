-- The chunks of a section: its data packets, cut where a packet has the restart flag, and the records of each.
use Rattle.std.specs.Prelude.{ℕ, ◌+◌, ◌/◌, ◌==◌, ◌||◌, ◌&&◌, not, nat_lt, if◌then◌else◌, List, [], ◌∷◌, length, map, get_or, Option, Some, None, filter, flat_map}
use Rattle.std.specs.List.{onto_first}
use Rattle.std.specs.Option.{option_or}
use Rattle.e57_base.specs.declared.fault.Fault.{Fault}
use Rattle.e57_base.specs.declared.kind.Kind.TheVariants.{IndexTarget, RestartUnindexed}
use Rattle.e57_page.specs.Place.{place}
use Rattle.e57_base.specs.Fault.{fault}
use Rattle.e57_layout.specs.declared.section.Section.{Section}
use Rattle.e57_layout.specs.declared.packet.Entry.{Entry}
use Rattle.e57_layout.specs.declared.field.Fixed.{Fixed}
use Rattle.e57_cloud.specs.Walk.{Packet, walk_from}
use Rattle.e57_cloud.specs.Index.{entries}

unfoldable pub data_packets : List Packet → List Packet
data_packets packets = filter (λ (p : Packet). p.is_data) packets

-- the bytes of field f over packets, one after another
unfoldable pub stream_of : ℕ → List Packet → List ℕ
stream_of f packets = flat_map (λ (p : Packet). get_or p.streams f []) packets

-- ---- cutting

-- cut before each packet with restart: what comes before the first such packet, and then the pieces
unfoldable pub cut : List Packet → List (List Packet)
cut [] = [] ∷ []
cut (p ∷ ps) = if p.restart then [] ∷ onto_first p (cut ps) else onto_first p (cut ps)

-- Data packets by chunk: the first one begins a chunk whatever its flag, and each later one with restart another. Without
-- packets there is one chunk, which has none.
unfoldable pub by_chunk : List Packet → List (List Packet)
by_chunk [] = [] ∷ []
by_chunk (p ∷ ps) = onto_first p (cut ps)

-- the packets of a section by chunk
unfoldable pub packets_by_chunk : List ℕ → Section → List (List Packet)
packets_by_chunk file s = by_chunk (data_packets (walk_from file s s.data_place).packets)

-- ---- chunks with an index: entry j and the start of chunk j are compared

-- no chunk is left
abbrev pub entry_left : Section → List Entry → Option Fault
entry_left s [] = None
entry_left s (e ∷ es) = Some (fault IndexTarget s.node e.first)

-- Chunk j starts at place q, and the place of entry j is this. It has one, since the index has no fault.
abbrev pub compared : Section → ℕ → Entry → ℕ → Option ℕ → Option Fault
compared s j e q None = Some (fault IndexTarget s.node e.first)
compared s j e q (Some at) =
    if at == q then None
    else if nat_lt 0 j && nat_lt q at then Some (fault RestartUnindexed s.node q)
    else Some (fault IndexTarget s.node e.first)

-- The first fault of entries and chunks from number j on. A chunk without packets comes alone, where the section has no
-- data packet: then there is no chunk start. Entry 0 is there, since the index has no fault.
unfoldable pub starts_fault : Section → ℕ → List Entry → List (List Packet) → Option Fault
starts_fault s j es [] = entry_left s es
starts_fault s j es ([] ∷ chunks) = entry_left s es
starts_fault s j [] ((p ∷ ps) ∷ chunks) = Some (fault RestartUnindexed s.node p.place)
starts_fault s j (e ∷ es) ((p ∷ ps) ∷ chunks) = option_or (compared s j e p.place (place e.place)) (starts_fault s (j + 1) es chunks)

-- ---- chunks without an index: the first Float field, whose items are whole, tells how many records a chunk has

-- how many whole items the first Float field has over packets; none where no field is a Float
abbrev pub float_items : Option Fixed → List Packet → ℕ
float_items None packets = 0
float_items (Some fixed) packets = length (stream_of fixed.field packets) / fixed.bytes

abbrev pub start_of : List Packet → ℕ
start_of [] = 0
start_of (p ∷ ps) = p.place

-- After a chunk that begins with this record, the first fault of the later ones: before each the chunk has records, and
-- some are left. Each later chunk has a packet.
unfoldable pub restarts_fault : Section → Option Fixed → ℕ → List Packet → List (List Packet) → Option Fault
restarts_fault s fixed first chunk [] = None
restarts_fault s fixed first chunk (next ∷ more) =
    if float_items fixed chunk == 0 || not (nat_lt (first + float_items fixed chunk) s.count) then Some (fault RestartUnindexed s.node (start_of next))
    else restarts_fault s fixed (first + float_items fixed chunk) next more

abbrev pub unindexed_fault : Section → Option Fixed → List (List Packet) → Option Fault
unindexed_fault s fixed [] = None
unindexed_fault s fixed (chunk ∷ chunks) = restarts_fault s fixed 0 chunk chunks

-- the first records of chunks, counted from this one on
unfoldable pub counted : Option Fixed → ℕ → List (List Packet) → List ℕ
counted fixed first [] = []
counted fixed first (chunk ∷ chunks) = first ∷ counted fixed (first + float_items fixed chunk) chunks

-- ---- chunks with their records

-- the data packets of the records from `first` to before `until`
pub record Chunk : Type 0 where
  pub first : ℕ
  pub until : ℕ
  pub packets : List Packet

abbrev pub head_or : ℕ → List ℕ → ℕ
head_or other [] = other
head_or other (n ∷ ns) = n

-- each chunk ends where the next one begins, the last one after so many records
unfoldable pub with_records : ℕ → List ℕ → List (List Packet) → List Chunk
with_records count [] chunks = []
with_records count (first ∷ firsts) [] = []
with_records count (first ∷ firsts) (chunk ∷ chunks) = record { first = first; until = head_or count firsts; packets = chunk } ∷ with_records count firsts chunks

-- the first record of each chunk: that of its entry, or counted by the first Float field where there is no index
unfoldable pub chunk_firsts : List ℕ → Section → Option Fixed → List ℕ
chunk_firsts file s fixed = if s.index == 0 then counted fixed 0 (packets_by_chunk file s) else map (λ (e : Entry). e.first) (entries file s)

-- the chunks of a section, whose first Float field is this one
unfoldable pub chunks : List ℕ → Section → Option Fixed → List Chunk
chunks file s fixed = with_records s.count (chunk_firsts file s fixed) (packets_by_chunk file s)

-- the first fault of the chunks of a section whose index and packets have none
unfoldable pub chunks_fault : List ℕ → Section → Option Fixed → Option Fault
chunks_fault file s fixed = if s.index == 0 then unindexed_fault s fixed (packets_by_chunk file s) else starts_fault s 0 (entries file s) (packets_by_chunk file s)
