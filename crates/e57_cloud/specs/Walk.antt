-- The packets of a section, one after another (ASTM E2807, data packets, index packets, empty packets).
use Rattle.std.specs.Prelude.{ℕ, zero, suc, ◌+◌, ◌-◌, ◌*◌, ◌%◌, ◌==◌, ◌||◌, not, nat_lt, Bool, if◌then◌else◌, List, [], ◌∷◌, Option, Some, None, sum, ◌≡◌, ◌≤◌}
use Rattle.std.specs.Option.{option_or}
use Rattle.e57_base.specs.declared.fault.Fault.{Fault}
use Rattle.e57_base.specs.declared.kind.Kind.TheVariants.{PacketLength, PacketType, DataShape}
use Rattle.e57_base.specs.Fault.{fault}
use Rattle.e57_page.specs.File.{logical, span_fault}
use Rattle.e57_layout.specs.Packets.{sort_at, restart_at, length_at, stream_count_at, lengths_at, streams_of}
use Rattle.e57_layout.specs.declared.section.Section.{Section}
use Rattle.e57_cloud.specs.Section.{when}

-- A packet at a place, with its length in bytes. Only a data packet begins a chunk, and only it has streams.
pub record Packet : Type 0 where
  pub place : ℕ
  pub length : ℕ
  pub is_data : Bool
  pub restart : Bool
  pub streams : List (List ℕ)

abbrev pub is_data_at : List ℕ → ℕ → Bool
is_data_at b q = sort_at b q == 1

-- the packet that is read at place q, where it has no fault
unfoldable pub packet_at : List ℕ → ℕ → Packet
packet_at b q =
    record {
      place = q;
      length = length_at b q;
      is_data = is_data_at b q;
      restart = restart_at b q;
      streams = if is_data_at b q then streams_of b q else [];
    }

-- the first fault of the first four bytes of the packet at place q: their pages, its type, its length
unfoldable pub packet_head_fault : List ℕ → Section → ℕ → Option Fault
packet_head_fault file s q =
    option_or (span_fault file q 4)
    (option_or (when (nat_lt 2 (sort_at (logical file) q)) (fault PacketType s.node q))
    (when (not (length_at (logical file) q % 4 == 0) || nat_lt s.end (q + length_at (logical file) q)) (fault PacketLength s.node q)))

-- the streams of a data packet: as many as the cloud has fields, and within the packet
unfoldable pub is_misshapen_data : List ℕ → ℕ → ℕ → Bool
is_misshapen_data b fields q =
    nat_lt (length_at b q) 6
    || (not (stream_count_at b q == fields)
    || nat_lt (length_at b q) (6 + 2 * stream_count_at b q + sum (lengths_at b (q + 6) (stream_count_at b q))))

-- The first fault of the packet at place q: of its first four bytes, and then, for a data packet, of its pages and shape.
unfoldable pub packet_fault : List ℕ → Section → ℕ → Option Fault
packet_fault file s q =
    option_or (packet_head_fault file s q)
    (if is_data_at (logical file) q then option_or (span_fault file q (length_at (logical file) q)) (when (is_misshapen_data (logical file) s.fields q) (fault DataShape s.node q)) else None)

-- packets one after another, up to the first one that has a fault, or to where fewer than four bytes are left
pub record Walk : Type 0 where
  pub packets : List Packet
  pub fault : Option Fault

abbrev pub onward : Option Fault → Packet → Walk → Walk
onward (Some found) packet rest = record { packets = []; fault = Some found }
onward None packet rest = record { packets = packet ∷ rest.packets; fault = rest.fault }

unfoldable pub walk : List ℕ → Section → ℕ → ℕ → Walk
walk file s zero q = record { packets = []; fault = None }
walk file s (suc fuel) q =
    if nat_lt s.end (q + 4) then record { packets = []; fault = None }
    else onward (packet_fault file s q) (packet_at (logical file) q) (walk file s fuel (q + length_at (logical file) q))

-- The packets of a section from place q on. Each has at least four bytes, so this fuel is never used up before the
-- section's end, and where it is 0 no packet is left.
unfoldable pub walk_from : List ℕ → Section → ℕ → Walk
walk_from file s q = walk file s (s.end - q) q

-- These packets stand one after another from place `at` up to place q, and none has a fault.
unfoldable pub IsFront : List ℕ → Section → ℕ → List Packet → ℕ → Type 0
IsFront file s at [] q = at ≡ q
IsFront file s at (packet ∷ packets) q = (at + 4 ≤ s.end) × (packet_fault file s at ≡ None) × (packet ≡ packet_at (logical file) at) × IsFront file s (at + length_at (logical file) at) packets q
