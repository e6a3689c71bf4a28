-- What the readers of packets refuse, and what they give, of the bytes of one packet (ASTM E2807, packets).
use Rattle.std.specs.Prelude.{◌≡◌, ℕ, ◌+◌, ◌*◌, ◌%◌, ◌==◌, ◌||◌, not, nat_lt, Bool, if◌then◌else◌, List, [], ◌∷◌, ◌++◌, length, take, sum, Option, Some, None}
use Rattle.e57_base.specs.declared.kind.Kind.{Kind}
use Rattle.e57_base.specs.declared.kind.Kind.TheVariants.{PacketType, PacketLength}
use Rattle.e57_layout.specs.declared.packet.IndexHead.{IndexHead}
use Rattle.e57_layout.specs.Packets.{sort_at, length_at, stream_count_at, lengths_at}
use Rattle.e57_layout.specs.IndexPackets.{index_size, entry_count_at, level_at}
use Rattle.e57_layout.specs.Written.{entries_limit}

-- the fault of a packet's first four bytes by themselves: of its type, and then of its length
abbrev pub head_kind : List ℕ → Option Kind
head_kind bytes =
    if nat_lt 2 (sort_at bytes 0) then Some PacketType
    else if not (length_at bytes 0 % 4 == 0) then Some PacketLength
    else None

-- the data packet that these bytes are has as many streams as there are fields, within it
unfoldable pub is_misshapen : List ℕ → ℕ → Bool
is_misshapen packet fields =
    nat_lt (length packet) 6
    || (not (stream_count_at packet 0 == fields)
    || nat_lt (length packet) (6 + 2 * fields + sum (lengths_at packet 6 fields)))

-- where each of the streams of these lengths ends, the first of which begins at `at`
abbrev pub stream_ends : ℕ → List ℕ → List ℕ
stream_ends at [] = []
stream_ends at (n ∷ ns) = (at + n) ∷ stream_ends (at + n) ns

-- the data packet at place q has streams of these lengths
pub record IsLengths (b : List ℕ) (q : ℕ) (ns : List ℕ) : Type 0 where
  pub count : stream_count_at b q ≡ length ns
  pub lengths : lengths_at b (q + 6) (length ns) ≡ ns

-- the first 16 bytes of an index packet by themselves: its type, its length, the number of its entries
unfoldable pub is_misshapen_head : List ℕ → Bool
is_misshapen_head bytes =
    not (sort_at bytes 0 == 0)
    || (not (length_at bytes 0 % 4 == 0)
    || (entry_count_at bytes 0 == 0
    || (nat_lt entries_limit (entry_count_at bytes 0)
    || nat_lt (length_at bytes 0) (index_size (entry_count_at bytes 0)))))

-- the head of the index packet at place q
abbrev pub index_head_at : List ℕ → ℕ → IndexHead
index_head_at b q = record { entries = entry_count_at b q; level = level_at b q }

-- a piece was put into bytes from `at` on: what stood before it stands there still
abbrev pub Puts : List ℕ → ℕ → List ℕ → List ℕ → Type 0
Puts old at piece new = take (at + length piece) new ≡ take at old ++ piece
