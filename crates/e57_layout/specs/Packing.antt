-- How records are cut into chunks, chunks into groups, and groups put into packets. How a writer cuts is free in the
-- standard; these rules are ours.
use Rattle.std.specs.Prelude.{ℕ, zero, suc, ◌+◌, ◌-◌, ◌*◌, ◌==◌, nat_le, min, Bool, if◌then◌else◌, List, [], ◌∷◌, ◌++◌, length, map, take, drop, slice_index_or, Option, Some, None}
use Rattle.std.specs.List.{flat_map}
use Rattle.e57_layout.specs.Packets.{total, data_size}
use Rattle.e57_layout.specs.Values.{ItemKind, Value}
use Rattle.e57_layout.specs.Items.{field_bytes}

-- ---- records and blocks of them

-- the first n records of columns, one column for each field
unfoldable pub first_records : ℕ → List (List Value) → List (List Value)
first_records n columns = map (λ (column : List Value). take n column) columns

-- the records after the first n
unfoldable pub later_records : ℕ → List (List Value) → List (List Value)
later_records n columns = map (λ (column : List Value). drop n column) columns

-- records after records, field by field; both have the same fields
unfoldable pub join_columns : List (List Value) → List (List Value) → List (List Value)
join_columns [] later = later
join_columns (column ∷ columns) [] = column ∷ columns
join_columns (column ∷ columns) (more ∷ later) = (column ++ more) ∷ join_columns columns later

-- some records: how many, and a column of items for each field
pub record Block : Type 0 where
  pub count : ℕ
  pub columns : List (List Value)

-- the first `most` of the blocks into which `count` records are cut
unfoldable pub cut_blocks : ℕ → ℕ → ℕ → List (List Value) → List Block
cut_blocks zero n count columns = []
cut_blocks (suc most) n count columns =
    if count == 0 then []
    else record { count = min n count; columns = first_records n columns }
    ∷ cut_blocks most n (count - n) (later_records n columns)

-- `count` records cut into blocks of n, the last one with what is left; there are at most `count` blocks, as each has a
-- record
unfoldable pub blocks : ℕ → ℕ → List (List Value) → List Block
blocks n count columns = cut_blocks count n count columns

-- ---- groups

-- how many records a group has
abbrev pub group_length : ℕ
group_length = 8

-- each field's bytes of some records, which have a column for each field
unfoldable pub group_streams : List ItemKind → List (List Value) → List (List ℕ)
group_streams [] columns = []
group_streams (kind ∷ kinds) [] = [] ∷ group_streams kinds []
group_streams (kind ∷ kinds) (column ∷ columns) = field_bytes kind column ∷ group_streams kinds columns

-- streams after streams, field by field; both have the same fields
unfoldable pub join_streams : List (List ℕ) → List (List ℕ) → List (List ℕ)
join_streams [] later = later
join_streams (s ∷ streams) [] = s ∷ streams
join_streams (s ∷ streams) (t ∷ later) = (s ++ t) ∷ join_streams streams later

-- stream f of packets, or of groups, one after another
abbrev pub stream_over : ℕ → List (List (List ℕ)) → List ℕ
stream_over f parts = flat_map (λ (streams : List (List ℕ)). slice_index_or streams f []) parts

-- ---- packets

-- the most bytes of a packet: its length minus 1 has 16 bits
abbrev pub packet_limit : ℕ
packet_limit = 65536

-- these streams are within one data packet
unfoldable pub fits_packet : List (List ℕ) → Bool
fits_packet streams = nat_le (data_size streams) packet_limit

-- how many bytes of streams one data packet has room for
abbrev pub room_for : ℕ → ℕ
room_for fields = packet_limit - (6 + 2 * fields)

-- of the streams' bytes, those of a stream after those of the streams before it, the first `room`
unfoldable pub front : ℕ → List (List ℕ) → List (List ℕ)
front room [] = []
front room (s ∷ streams) = take room s ∷ front (room - length s) streams

-- and the bytes after those
unfoldable pub behind : ℕ → List (List ℕ) → List (List ℕ)
behind room [] = []
behind room (s ∷ streams) = drop room s ∷ behind (room - length s) streams

-- the first `most` of the runs of `room` bytes into which streams are cut
unfoldable pub pour : ℕ → ℕ → List (List ℕ) → List (List (List ℕ))
pour zero room streams = []
pour (suc most) room streams =
    if total streams == 0 then [] else front room streams ∷ pour most room (behind room streams)

-- The streams of the packets of a group that doesn't fit in one: runs as long as a packet has room for, the last one
-- shorter. There are at most as many as bytes, as each has a byte.
unfoldable pub poured : List (List ℕ) → List (List (List ℕ))
poured group = pour (total group) (room_for (length group)) group

-- the packet of a run of groups, if one is under way
abbrev pub flushed : Option (List (List ℕ)) → List (List (List ℕ))
flushed None = []
flushed (Some run) = run ∷ []

-- The streams of the packets of some groups, after a run of groups that is under way. A group joins the run if both fit
-- in one packet. Else the run is a packet, and the group begins a run if it fits by itself, and is poured if it doesn't.
unfoldable pub packets_of : Option (List (List ℕ)) → List (List (List ℕ)) → List (List (List ℕ))
packets_of run [] = flushed run
packets_of None (group ∷ groups) =
    if fits_packet group then packets_of (Some group) groups else poured group ++ packets_of None groups
packets_of (Some run) (group ∷ groups) =
    if fits_packet (join_streams run group) then packets_of (Some (join_streams run group)) groups
    else (if fits_packet group then run ∷ packets_of (Some group) groups
    else run ∷ (poured group ++ packets_of None groups))

-- the streams of the groups of a chunk
unfoldable pub chunk_groups : List ItemKind → Block → List (List (List ℕ))
chunk_groups kinds chunk =
    map (λ (group : Block). group_streams kinds group.columns) (blocks group_length chunk.count chunk.columns)

-- the streams of the packets of a chunk
unfoldable pub chunk_packets : List ItemKind → Block → List (List (List ℕ))
chunk_packets kinds chunk = packets_of None (chunk_groups kinds chunk)
