-- The steps of a packet's reading: its first four bytes, and then the bytes of a data packet.
use Rattle.std.specs.Prelude.{◌≡◌, ℕ, ◌+◌, ◌%◌, ◌≤◌, Bool, true, false, List, take, drop, Option, Some, None, IfSome}
use Rattle.std.specs.Option.{option_or}
use Rattle.e57_base.specs.Count.{Rose}
use Rattle.e57_base.specs.Fault.{fault}
use Rattle.e57_base.specs.Source.{SourceView}
use Rattle.e57_base.specs.declared.fault.Fault.{Fault}
use Rattle.e57_base.specs.declared.fault.ReadFault.{ReadFault}
use Rattle.e57_base.specs.declared.fault.ReadFault.TheVariants.{Refused, Source}
use Rattle.e57_base.specs.declared.kind.Kind.{Kind}
use Rattle.e57_base.specs.declared.kind.Kind.TheVariants.{Page, PacketType, PacketLength, DataShape}
use Rattle.e57_page.specs.File.{logical, span_fault}
use Rattle.e57_layout.specs.declared.section.Section.{Section}
use Rattle.e57_layout.specs.declared.packet.PacketHead.{PacketHead}
use Rattle.e57_layout.specs.Packets.{packet_head_at, lengths_at}
use Rattle.e57_packet.specs.Reading.{is_misshapen, stream_ends}
use Rattle.e57_cloud.specs.Section.{when}
use Rattle.e57_cloud.specs.Walk.{packet_head_fault}
use Rattle.e57_section.specs.Asking.{AsksSpan, KeepsSpan, KeepsOnly}
use Rattle.e57_section.specs.Streams.{first_stream}

-- a kind of fault that a packet can have
abbrev pub is_packet_kind : Kind → Bool
is_packet_kind Page = true
is_packet_kind PacketType = true
is_packet_kind PacketLength = true
is_packet_kind DataShape = true
is_packet_kind _ = false

-- why the n bytes from place q on weren't read: the first of their pages that is wrong, or the source failed
abbrev pub IsSpanCause : SourceView → ℕ → ℕ → ReadFault → SourceView → Type 0
IsSpanCause old q n (Refused found) new = (found.kind ≡ Page) × IfSome old.held (λ file. span_fault file q n ≡ Some found)
IsSpanCause old q n Source new = Rose old.faults new.faults

-- The first four bytes of the packet at place q were read.
pub record ReadsHead (old : SourceView) (kept : List ℕ) (s : Section) (q : ℕ) (head : PacketHead) (new : SourceView) (now : List ℕ) : Type 0 where
  pub source : AsksSpan kept q 4 old new
  pub keeps : KeepsSpan kept q 4 now
  pub sort : head.sort ≤ 2
  pub some : 4 ≤ head.length
  pub most : head.length ≤ 65536
  pub whole : head.length % 4 ≡ 0
  pub within : q + head.length ≤ s.end
  pub sound : IfSome old.held (λ file. packet_head_fault file s q ≡ None)
  pub read : IfSome old.held (λ file. head ≡ packet_head_at (logical file) q)

-- why they weren't: the first fault of these bytes, or the source failed
abbrev pub IsHeadCause : SourceView → Section → ℕ → ReadFault → SourceView → Type 0
IsHeadCause old s q (Refused found) new = (is_packet_kind found.kind ≡ true) × IfSome old.held (λ file. packet_head_fault file s q ≡ Some found)
IsHeadCause old s q Source new = Rose old.faults new.faults

pub record LosesHead (old : SourceView) (kept : List ℕ) (s : Section) (q : ℕ) (found : ReadFault) (new : SourceView) (now : List ℕ) : Type 0 where
  pub source : AsksSpan kept q 4 old new
  pub keeps : KeepsOnly kept q 4 now
  pub cause : IsHeadCause old s q found new

-- All bytes of the data packet at place q were read, and the ends of its streams were set.
pub record ReadsData (old : SourceView) (kept : List ℕ) (q n fields : ℕ) (bytes reached : List ℕ) (new : SourceView) (now : List ℕ) : Type 0 where
  pub source : AsksSpan kept q n old new
  pub keeps : KeepsSpan kept q n now
  pub shape : is_misshapen bytes fields ≡ false
  pub ends : reached ≡ stream_ends (first_stream fields) (lengths_at bytes 6 fields)
  pub right : IfSome old.held (λ file. span_fault file q n ≡ None)
  pub read : IfSome old.held (λ file. bytes ≡ take n (drop q (logical file)))

-- the first fault of the n bytes of a data packet behind its head: of their pages, and then of its shape
abbrev pub data_fault : List ℕ → ℕ → ℕ → ℕ → ℕ → Option Fault
data_fault file node q n fields = option_or (span_fault file q n) (when (is_misshapen (take n (drop q (logical file))) fields) (fault DataShape node q))

abbrev pub IsDataCause : SourceView → ℕ → ℕ → ℕ → ℕ → ReadFault → SourceView → Type 0
IsDataCause old node q n fields (Refused found) new = (is_packet_kind found.kind ≡ true) × IfSome old.held (λ file. data_fault file node q n fields ≡ Some found)
IsDataCause old node q n fields Source new = Rose old.faults new.faults

pub record LosesData (old : SourceView) (kept : List ℕ) (node q n fields : ℕ) (found : ReadFault) (new : SourceView) (now : List ℕ) : Type 0 where
  pub source : AsksSpan kept q n old new
  pub keeps : KeepsOnly kept q n now
  pub cause : IsDataCause old node q n fields found new
