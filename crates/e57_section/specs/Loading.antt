-- What `load_packet` answers, and what it does to the source and the buffer.
use Rattle.std.specs.Prelude.{◌≡◌, ℕ, ◌+◌, ◌%◌, ◌≤◌, true, false, List, [], length, Option, Some, None, IfSome, IsSomeAnd}
use Rattle.e57_base.specs.Count.{Rose}
use Rattle.e57_base.specs.Source.{SourceView}
use Rattle.e57_base.specs.declared.fault.ReadFault.{ReadFault}
use Rattle.e57_base.specs.declared.fault.ReadFault.TheVariants.{Refused, Source}
use Rattle.e57_page.specs.File.{logical}
use Rattle.e57_layout.specs.declared.section.Section.{Section}
use Rattle.e57_layout.specs.Packets.{sort_at, restart_at, length_at, streams_of, data_size}
use Rattle.e57_cloud.specs.Walk.{Packet, packet_fault}
use Rattle.e57_cloud.specs.Met.{needed_at}
use Rattle.e57_section.specs.declared.load.Loaded.{Loaded}
use Rattle.e57_section.specs.declared.load.Loaded.TheVariants.{Stream, Index, Empty}
use Rattle.e57_section.specs.Asking.{AsksPacket, KeepsSpan, KeepsOnly}
use Rattle.e57_section.specs.Steps.{is_packet_kind}

-- the length of the packet that was loaded
abbrev pub loaded_length : Loaded → ℕ
loaded_length (Stream n restart) = n
loaded_length (Index n) = n
loaded_length (Empty n) = n

-- how many of its bytes were read
abbrev pub needed_by : Loaded → ℕ
needed_by (Stream n restart) = n
needed_by (Index n) = 4
needed_by (Empty n) = 4

-- The buffer holds the streams of a data packet, one for each field and within the packet; else it holds none.
abbrev pub HoldsStreams : Section → Loaded → Option (List (List ℕ)) → Type 0
HoldsStreams s (Stream n restart) held = IsSomeAnd held (λ streams. (length streams ≡ s.fields) × (data_size streams ≤ n))
HoldsStreams s (Index n) held = held ≡ None
HoldsStreams s (Empty n) held = held ≡ None

-- The answer and the buffer are the packet at place q.
abbrev pub IsLoaded : List ℕ → ℕ → Loaded → Option (List (List ℕ)) → Type 0
IsLoaded b q (Stream n restart) held = (sort_at b q ≡ 1) × (n ≡ length_at b q) × (restart ≡ restart_at b q) × (held ≡ Some (streams_of b q))
IsLoaded b q (Index n) held = (sort_at b q ≡ 0) × (n ≡ length_at b q) × (held ≡ None)
IsLoaded b q (Empty n) held = (sort_at b q ≡ 2) × (n ≡ length_at b q) × (held ≡ None)

-- The same as a packet of a walk. A data packet's streams are held, so the case without them doesn't come.
abbrev pub loaded_as : ℕ → Loaded → Option (List (List ℕ)) → Packet
loaded_as q (Stream n restart) None = record { place = q; length = n; is_data = true; restart = restart; streams = [] }
loaded_as q (Stream n restart) (Some streams) = record { place = q; length = n; is_data = true; restart = restart; streams = streams }
loaded_as q (Index n) held = record { place = q; length = n; is_data = false; restart = false; streams = [] }
loaded_as q (Empty n) held = record { place = q; length = n; is_data = false; restart = false; streams = [] }

-- The packet at place q was loaded. Pages of the bytes that it needs alone were asked for.
pub record LoadsPacket (old : SourceView) (kept : List ℕ) (s : Section) (q : ℕ) (answer : Loaded) (held : Option (List (List ℕ))) (new : SourceView) (now : List ℕ) : Type 0 where
  pub source : AsksPacket kept q (needed_by answer) old new
  pub keeps : KeepsSpan kept q (needed_by answer) now
  pub some : 4 ≤ loaded_length answer
  pub whole : loaded_length answer % 4 ≡ 0
  pub within : q + loaded_length answer ≤ s.end
  pub streams : HoldsStreams s answer held
  pub sound : IfSome old.held (λ file. packet_fault file s q ≡ None)
  pub read : IfSome old.held (λ file. IsLoaded (logical file) q answer held)

-- why a packet wasn't loaded: its first fault, or the source failed
abbrev pub IsPacketCause : SourceView → Section → ℕ → ReadFault → SourceView → Type 0
IsPacketCause old s q (Refused found) new = (is_packet_kind found.kind ≡ true) × IfSome old.held (λ file. packet_fault file s q ≡ Some found)
IsPacketCause old s q Source new = Rose old.faults new.faults

-- Pages of n bytes from place q on were asked for, of no more than the packet needs.
pub record LosesPacket (old : SourceView) (kept : List ℕ) (s : Section) (q : ℕ) (found : ReadFault) (held : Option (List (List ℕ))) (new : SourceView) (now : List ℕ) : Type 0 where
  pub n : ℕ
  pub some : 4 ≤ n
  pub within : q + n ≤ s.end
  pub needed : IfSome old.held (λ file. n ≤ needed_at file s q)
  pub source : AsksPacket kept q n old new
  pub keeps : KeepsOnly kept q n now
  pub empty : held ≡ None
  pub cause : IsPacketCause old s q found new
