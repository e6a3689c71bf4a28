-- Where a reader of a field's stream stands in a chunk.
use Rattle.std.specs.Prelude.{◌≡◌, ℕ, ◌+◌, ◌-◌, ◌*◌, ◌/◌, ◌%◌, ◌<◌, ◌≤◌, ◌⊎◌, min, Bool, true, false, List, [], ◌++◌, length, drop}
use Rattle.e57_layout.specs.declared.section.Section.{Section}
use Rattle.e57_cloud.specs.Walk.{Packet, IsFront}
use Rattle.e57_cloud.specs.Chunks.{data_packets, stream_of, by_chunk}
use Rattle.e57_cloud.specs.PathItem.{ChunkAt}
use Rattle.e57_section.specs.Opening.{most_records}
use Rattle.e57_stream.specs.declared.bytestream.Bytestream.{Bytestream}
use Rattle.e57_stream.specs.declared.chunk.Chunk.{Chunk}

-- how many whole bytes of the window stand before the next item
abbrev pub whole_bytes : Chunk → ℕ
whole_bytes chunk = min (chunk.bit / 8) (length chunk.window)

-- the state without them
unfoldable pub let_gone : Chunk → Chunk
let_gone chunk = record chunk { window = drop (whole_bytes chunk) chunk.window; bit = chunk.bit - 8 * whole_bytes chunk }

-- how many records are read into so many places
abbrev pub wanted : Chunk → ℕ → ℕ
wanted chunk places = min places (chunk.until - chunk.at)

-- how many items of w bits the window has from the next one on
abbrev pub items_held : ℕ → Chunk → ℕ
items_held w chunk = (8 * length chunk.window - chunk.bit) / w

-- the state after m items of w bits
unfoldable pub moved_on : ℕ → ℕ → Chunk → Chunk
moved_on w m chunk = record chunk { at = chunk.at + m; bit = chunk.bit + w * m }

-- an item was read, or a packet was taken
abbrev pub IsOnward : Chunk → Chunk → Type 0
IsOnward before after = (before.at < after.at) ⊎ (before.taken < after.taken)

-- the chunk as the path to an item has it
abbrev pub chunk_at : Chunk → ChunkAt
chunk_at chunk = record { first = chunk.start; until = chunk.until; place = chunk.entry }

-- What holds whatever the file: the next record is one of the chunk or the first one past it, the packets that were taken
-- lie in the section, and the next item of w bits begins in the window or after it, and no later than the records say. An item
-- of whole bytes begins at a whole byte.
pub record IsWithin (s : Section) (w : ℕ) (chunk : Chunk) : Type 0 where
  pub low : chunk.start ≤ chunk.at
  pub high : chunk.at ≤ chunk.until
  pub most : chunk.until ≤ most_records
  pub taken_within : chunk.taken ≤ s.end
  pub begins : chunk.bit ≤ w * (chunk.at - chunk.start)
  pub whole : w % 8 ≡ 0 → chunk.bit % 8 ≡ 0

-- no data packet is among these, or one is
abbrev pub IsFresh : Bool → List Packet → Type 0
IsFresh true packets = data_packets packets ≡ []
IsFresh false packets = 0 < length (data_packets packets)

-- The packets of the chunk that begins at place `entry` were taken up to place `taken`, and these are the bytes of the stream
-- in them. None of the packets has a fault, and none begins another chunk.
pub record HasTaken (file : List ℕ) (b : Bytestream) (entry taken : ℕ) (fresh : Bool) (bytes : List ℕ) : Type 0 where
  pub packets : List Packet
  pub leads : IsFront file b.section entry packets taken
  pub one_chunk : length (by_chunk (data_packets packets)) ≡ 1
  pub freshness : IsFresh fresh packets
  pub stream : stream_of b.field (data_packets packets) ≡ bytes

-- The bytes of the stream in the packets that were taken are those of a front, which are let go, and of the window.
abbrev pub Reaches : List ℕ → Bytestream → Chunk → List ℕ → Type 0
Reaches file b chunk front = HasTaken file b chunk.entry chunk.taken chunk.fresh (front ++ chunk.window)

-- The state is of the file: in the stream of items of w bits, the item of the next record begins where the state says.
pub record Stands (file : List ℕ) (b : Bytestream) (w : ℕ) (chunk : Chunk) : Type 0 where
  pub front : List ℕ
  pub reaches : Reaches file b chunk front
  pub begins : 8 * length front + chunk.bit ≡ w * (chunk.at - chunk.start)
