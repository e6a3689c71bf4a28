-- Going on over the packets of a section: what it answers, and what it does to the source.
use Rattle.std.specs.Prelude.{◌≡◌, ℕ, ◌+◌, ◌<◌, ◌≤◌, ◌⊎◌, if◌then◌else◌, List, Option, Some, None, IfSome}
use Rattle.std.specs.Option.{option_or}
use Rattle.e57_base.specs.Count.{Rose}
use Rattle.e57_base.specs.Source.{SourceView}
use Rattle.e57_base.specs.declared.fault.Fault.{Fault}
use Rattle.e57_base.specs.declared.fault.ReadFault.{ReadFault}
use Rattle.e57_base.specs.declared.fault.ReadFault.TheVariants.{Refused, Source}
use Rattle.e57_page.specs.File.{logical}
use Rattle.e57_layout.specs.declared.section.Section.{Section}
use Rattle.e57_cloud.specs.Walk.{Packet, packet_at, packet_fault, walk_from}
use Rattle.e57_cloud.specs.Chunks.{data_packets}
use Rattle.e57_section.specs.Loading.{IsPacketCause}
use Rattle.e57_check.specs.Asking.{AsksPages}
use Rattle.e57_check.specs.Starts.{float_bytes, arrived, rest_fault}
use Rattle.e57_check.specs.declared.starts.Starts.{Starts}
use Rattle.e57_check.specs.declared.starts.Came.{Came}
use Rattle.e57_check.specs.declared.starts.Passed.{Passed}

-- After what came, the first fault of the packets from place q on in order, and then of the chunks.
unfoldable pub fault_from : List ℕ → Section → Starts → ℕ → Came → Option Fault
fault_from file s starts q came = option_or (walk_from file s q).fault (rest_fault s starts came (data_packets (walk_from file s q).packets))

-- Whatever the file: packets were taken in the section, they have at least the bytes that were counted, and at least as many
-- bytes as there were chunks.
pub record IsWithin (s : Section) (r : Passed) : Type 0 where
  pub within : r.taken ≤ s.end
  pub counted : r.came.first + r.came.bytes ≤ r.taken
  pub starts : r.came.starts ≤ r.taken

-- ---- some packets

-- More packets were taken, none of which has a fault.
pub record Walks (count : ℕ) (old : SourceView) (s : Section) (starts : Starts) (r next : Passed) (new : SourceView) : Type 0 where
  pub source : AsksPages count old new
  pub within : IsWithin s next
  pub left : IfSome old.held (λ file. fault_from file s starts r.taken r.came ≡ fault_from file s starts next.taken next.came)

-- they were taken up to this place at least, or up to the last one of the section
abbrev pub IsAsFar : Section → ℕ → Passed → Type 0
IsAsFar s place r = (place ≤ r.taken) ⊎ (s.end < r.taken + 4)

-- no packet that is left has a fault, and the chunks have none
pub record WalksToEnd (count : ℕ) (old : SourceView) (s : Section) (starts : Starts) (r : Passed) (new : SourceView) : Type 0 where
  pub source : AsksPages count old new
  pub sound : IfSome old.held (λ file. fault_from file s starts r.taken r.came ≡ None)

abbrev pub IsWalkCause : SourceView → Section → Starts → Passed → ReadFault → SourceView → Type 0
IsWalkCause old s starts r (Refused found) new = IfSome old.held (λ file. fault_from file s starts r.taken r.came ≡ Some found)
IsWalkCause old s starts r Source new = Rose old.faults new.faults

-- a packet that is left or a chunk has a fault, or the source failed
pub record WalksNot (count : ℕ) (old : SourceView) (s : Section) (starts : Starts) (r : Passed) (found : ReadFault) (new : SourceView) : Type 0 where
  pub source : AsksPages count old new
  pub cause : IsWalkCause old s starts r found new

-- ---- one packet

-- what came, with this packet
abbrev pub came_with : Section → Starts → Came → Packet → Came
came_with s starts came p = if p.is_data then arrived s starts came p.place p.restart (float_bytes starts p.streams) else came

-- One packet more was taken.
pub record Steps (count : ℕ) (old : SourceView) (s : Section) (starts : Starts) (r next : Passed) (new : SourceView) : Type 0 where
  pub source : AsksPages count old new
  pub within : IsWithin s next
  pub forward : r.taken < next.taken
  pub sound : IfSome old.held (λ file. packet_fault file s r.taken ≡ None)
  pub long : IfSome old.held (λ file. next.taken ≡ r.taken + (packet_at (logical file) r.taken).length)
  pub came : IfSome old.held (λ file. next.came ≡ came_with s starts r.came (packet_at (logical file) r.taken))

-- It has a fault, or the source failed.
pub record StepsNot (count : ℕ) (old : SourceView) (s : Section) (r : Passed) (found : ReadFault) (new : SourceView) : Type 0 where
  pub source : AsksPages count old new
  pub cause : IsPacketCause old s r.taken found new
