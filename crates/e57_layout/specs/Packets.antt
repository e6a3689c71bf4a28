-- The head that all packets have, and data packets (ASTM E2807, packets): how they are spelled, and what is read of the
-- one at place q. Flags other than bit 0, and padding, are spelled as zeros, and mean nothing.
use Rattle.std.specs.Prelude.{ℕ, zero, suc, ◌+◌, ◌-◌, ◌*◌, ◌/◌, ◌==◌, ◌&&◌, Bool, true, false, List, [], ◌∷◌, ◌++◌, length, map, take, drop, replicate}
use Rattle.std.specs.List.{concat, flat_map, sum}
use Rattle.e57_bits.specs.Bits.{number}
use Rattle.e57_layout.specs.declared.packet.PacketHead.{PacketHead}
use Rattle.e57_layout.specs.Bytes.{low_bytes}

-- ---- how a packet is spelled

-- type, flags, length minus 1
unfoldable pub packet_head : PacketHead → List ℕ
packet_head h = low_bytes 1 h.sort ++ (low_bytes 1 h.flags ++ low_bytes 2 (h.length - 1))

-- n rounded up to a multiple of 4
unfoldable pub whole_words : ℕ → ℕ
whole_words n = (n + 3) / 4 * 4

-- the zeros that fill n bytes to a multiple of 4
unfoldable pub padding : ℕ → List ℕ
padding n = replicate (whole_words n - n) 0

-- how many bytes each stream has
abbrev pub lengths : List (List ℕ) → List ℕ
lengths streams = map (λ (stream : List ℕ). length stream) streams

-- how many bytes all streams have
abbrev pub total : List (List ℕ) → ℕ
total streams = sum (lengths streams)

-- how many bytes a data packet has before its padding
unfoldable pub data_size : List (List ℕ) → ℕ
data_size streams = 6 + 2 * length streams + total streams

-- how many streams there are, and how many bytes each has
unfoldable pub stream_lengths : List ℕ → List ℕ
stream_lengths ns = low_bytes 2 (length ns) ++ flat_map (low_bytes 2) ns

abbrev pub flag : Bool → ℕ
flag true = 1
flag false = 0

-- the head of a data packet with these streams
abbrev pub data_head : Bool → List (List ℕ) → PacketHead
data_head restart streams = record { sort = 1; flags = flag restart; length = whole_words (data_size streams) }

-- the head, the stream lengths, the streams, the padding
unfoldable pub data_packet : Bool → List (List ℕ) → List ℕ
data_packet restart streams =
    packet_head (data_head restart streams)
    ++ (stream_lengths (lengths streams) ++ (concat streams ++ padding (data_size streams)))

-- ---- what is read of a packet

-- the packet type: 0 index, 1 data, 2 empty
unfoldable pub sort_at : List ℕ → ℕ → ℕ
sort_at b q = number b (8 * q) 8

-- it is a data packet, and its flag says that a chunk begins here
unfoldable pub restart_at : List ℕ → ℕ → Bool
restart_at b q = sort_at b q == 1 && number b (8 * q + 8) 1 == 1

-- the packet's length in bytes
unfoldable pub length_at : List ℕ → ℕ → ℕ
length_at b q = number b (8 * q + 16) 16 + 1

unfoldable pub packet_head_at : List ℕ → ℕ → PacketHead
packet_head_at b q = record { sort = sort_at b q; flags = number b (8 * q + 8) 8; length = length_at b q }

unfoldable pub stream_count_at : List ℕ → ℕ → ℕ
stream_count_at b q = number b (8 * q + 32) 16

-- n lengths of streams, the first at place q
unfoldable pub lengths_at : List ℕ → ℕ → ℕ → List ℕ
lengths_at b q zero = []
lengths_at b q (suc n) = number b (8 * q) 16 ∷ lengths_at b (q + 2) n

-- streams of these lengths, one after another from place q on
unfoldable pub streams_at : List ℕ → ℕ → List ℕ → List (List ℕ)
streams_at b q [] = []
streams_at b q (n ∷ ns) = take n (drop q b) ∷ streams_at b (q + n) ns

-- the streams of the data packet at place q
unfoldable pub streams_of : List ℕ → ℕ → List (List ℕ)
streams_of b q = streams_at b (q + 6 + 2 * stream_count_at b q) (lengths_at b (q + 6) (stream_count_at b q))
