-- The reading of one index packet: its first 16 bytes, and then its entries.
use Rattle.std.specs.Prelude.{◌≡◌, ℕ, ◌+◌, ◌*◌, ◌<◌, ◌≤◌, Bool, true, false, List, Option, Some, None, IfSome}
use Rattle.e57_base.specs.Count.{Rose}
use Rattle.e57_base.specs.Source.{SourceView}
use Rattle.e57_base.specs.declared.fault.ReadFault.{ReadFault}
use Rattle.e57_base.specs.declared.fault.ReadFault.TheVariants.{Refused, Source}
use Rattle.e57_base.specs.declared.kind.Kind.{Kind}
use Rattle.e57_base.specs.declared.kind.Kind.TheVariants.{Page, IndexShape, IndexOrder, IndexTarget}
use Rattle.e57_page.specs.Place.{place}
use Rattle.e57_page.specs.File.{logical}
use Rattle.e57_layout.specs.IndexPackets.{entry_count_at, level_at, entries_at}
use Rattle.e57_layout.specs.declared.packet.Entry.{Entry}
use Rattle.e57_layout.specs.declared.packet.IndexHead.{IndexHead}
use Rattle.e57_layout.specs.declared.section.Section.{Section}
use Rattle.e57_cloud.specs.Index.{begins_and_rises, index_shape_fault, target_fault, index_packet_fault}
use Rattle.e57_cloud.specs.Met.{InIndexStart, InTarget}
use Rattle.e57_index.specs.declared.start.Start.{Start}
use Rattle.e57_index.specs.Asking.{AsksMet}
use Rattle.e57_index.specs.OnePacket.{level_fits, wanted_fault, OnPacket, IsPacketAt}
use Rattle.e57_base.specs.Fault.{fault}

-- the bytes of the most entries of an index packet
abbrev pub most_entry_bytes : ℕ
most_entry_bytes = 32768

-- a kind of fault that is met in an index
abbrev pub is_index_kind : Kind → Bool
is_index_kind Page = true
is_index_kind IndexShape = true
is_index_kind IndexOrder = true
is_index_kind IndexTarget = true
is_index_kind _ = false

abbrev pub AsksStart : Section → ℕ → SourceView → SourceView → Type 0
AsksStart s offset old new = AsksMet s (λ file p. InIndexStart s offset p) old new

-- These are the first 16 bytes of the index packet at this offset, which have no fault.
pub record IsStartAt (file : List ℕ) (s : Section) (offset : ℕ) (start : Start) : Type 0 where
  pub shape : index_shape_fault file s start.level offset ≡ None
  pub of_level : level_at (logical file) start.place ≡ start.level
  pub counts : entry_count_at (logical file) start.place ≡ start.entries

-- The first 16 bytes of the index packet at this offset were read.
pub record ReadsStart (old : SourceView) (s : Section) (offset : ℕ) (start : Start) (new : SourceView) : Type 0 where
  pub source : AsksStart s offset old new
  pub at : place offset ≡ Some start.place
  pub after : s.start + 32 ≤ start.place
  pub some : 0 < start.entries
  pub few : start.entries ≤ 2048
  pub within : start.place + 16 + 16 * start.entries ≤ s.end
  pub is : IfSome old.held (λ file. IsStartAt file s offset start)

-- why they weren't read: their fault, whatever level is wanted, or the source failed
abbrev pub IsStartCause : SourceView → Section → ℕ → ReadFault → SourceView → Type 0
IsStartCause old s offset (Refused found) new = (is_index_kind found.kind ≡ true) × IfSome old.held (λ file. (level : ℕ) → index_shape_fault file s level offset ≡ Some found)
IsStartCause old s offset Source new = Rose old.faults new.faults

pub record LosesStart (old : SourceView) (s : Section) (offset : ℕ) (found : ReadFault) (new : SourceView) : Type 0 where
  pub source : AsksStart s offset old new
  pub cause : IsStartCause old s offset found new

-- The packet that the entry leads to was read: its entries stand in the bytes, in order.
pub record ReadsIndex (old : SourceView) (s : Section) (wanted : Option ℕ) (e : Entry) (bound : ℕ) (head : IndexHead) (bytes : List ℕ) (new : SourceView) : Type 0 where
  pub source : AsksMet s (OnPacket s wanted e) old new
  pub some : 0 < head.entries
  pub few : head.entries ≤ 2048
  pub fits : level_fits wanted head.level ≡ true
  pub ordered : begins_and_rises e.first bound (entries_at bytes 0 head.entries) ≡ true
  pub read : IfSome old.held (λ file. IsPacketAt file s e.place head.level (entries_at bytes 0 head.entries))

-- why it wasn't: its first fault, or the source failed
abbrev pub IsIndexCause : SourceView → Section → Option ℕ → Entry → ℕ → ReadFault → SourceView → Type 0
IsIndexCause old s wanted e bound (Refused found) new = (is_index_kind found.kind ≡ true) × IfSome old.held (λ file. wanted_fault file s wanted e bound ≡ Some found)
IsIndexCause old s wanted e bound Source new = Rose old.faults new.faults

pub record LosesIndex (old : SourceView) (s : Section) (wanted : Option ℕ) (e : Entry) (bound : ℕ) (found : ReadFault) (new : SourceView) : Type 0 where
  pub source : AsksMet s (OnPacket s wanted e) old new
  pub cause : IsIndexCause old s wanted e bound found new

-- ---- what an entry of height 0 names

abbrev pub AsksTarget : Section → Entry → SourceView → SourceView → Type 0
AsksTarget s e old new = AsksMet s (λ file p. InTarget s e p) old new

-- The four bytes that the entry names were read. They lie among the data.
pub record ReadsTarget (old : SourceView) (s : Section) (e : Entry) (q : ℕ) (new : SourceView) : Type 0 where
  pub source : AsksTarget s e old new
  pub at : place e.place ≡ Some q
  pub after : s.data_place ≤ q
  pub within : q + 4 ≤ s.end
  pub sound : IfSome old.held (λ file. target_fault file s e ≡ None)

-- why they weren't: their first fault, or the source failed
abbrev pub IsTargetCause : SourceView → Section → Entry → ReadFault → SourceView → Type 0
IsTargetCause old s e (Refused found) new = (is_index_kind found.kind ≡ true) × IfSome old.held (λ file. target_fault file s e ≡ Some found)
IsTargetCause old s e Source new = Rose old.faults new.faults

pub record LosesTarget (old : SourceView) (s : Section) (e : Entry) (found : ReadFault) (new : SourceView) : Type 0 where
  pub source : AsksTarget s e old new
  pub cause : IsTargetCause old s e found new

-- A packet of this level that has no fault for one entry has one for an entry with another record.
abbrev pub IsRefusedAgain : List ℕ → Section → ℕ → Entry → Entry → ℕ → ℕ → Type 0
IsRefusedAgain file s level x y a b = index_packet_fault file s level x a ≡ None → y.place ≡ x.place → (y.first ≡ x.first → ⊥) → index_packet_fault file s level y b ≡ Some (fault IndexOrder s.node x.place)
