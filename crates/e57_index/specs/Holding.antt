-- How an index cursor holds a packet, and what its steps do.
use Rattle.std.specs.Prelude.{◌≡◌, ℕ, ◌*◌, ◌==◌, ◌<◌, ◌≤◌, Bool, true, false, List, length, take, Option, Some, None, IfSome}
use Rattle.std.specs.Option.{option_map}
use Rattle.e57_base.specs.Count.{Rose}
use Rattle.e57_base.specs.Source.{SourceView}
use Rattle.e57_base.specs.declared.fault.ReadFault.{ReadFault}
use Rattle.e57_base.specs.declared.fault.ReadFault.TheVariants.{Refused, Source}
use Rattle.e57_layout.specs.IndexPackets.{entries_at}
use Rattle.e57_layout.specs.declared.packet.Entry.{Entry}
use Rattle.e57_layout.specs.declared.section.Section.{Section}
use Rattle.e57_cloud.specs.Index.{begins_and_rises}
use Rattle.e57_index.specs.declared.held.Held.{Held}
use Rattle.e57_index.specs.Asking.{AsksMet}
use Rattle.e57_index.specs.OnePacket.{level_fits, wanted_fault, OnPacket, IsPacketAt}
use Rattle.e57_index.specs.Reading.{most_entry_bytes, is_index_kind}
use Rattle.e57_index.specs.Standing.{HeldPacket, Cursor, StandsIn}

-- so many entries at the front of these bytes
abbrev pub front_entries : ℕ → List ℕ → List Entry
front_entries n bytes = entries_at (take (16 * n) bytes) 0 n

abbrev pub held_packet : List ℕ → Held → HeldPacket
held_packet bytes h = record { place = h.place; level = h.level; first = h.first; bound = h.bound; entries = front_entries h.entries bytes }

abbrev pub held_packets : Option Held → List ℕ → Option HeldPacket
held_packets held bytes = option_map (held_packet bytes) held

-- the held entries begin with the first record, rise, and are below the bound
pub record IsHeld (s : Section) (bytes : List ℕ) (h : Held) : Type 0 where
  pub some : 0 < h.entries
  pub few : h.entries ≤ 2048
  pub below : h.bound ≤ s.count
  pub ordered : begins_and_rises h.first h.bound (front_entries h.entries bytes) ≡ true

pub record IsCursor (s : Section) (held : Option Held) (bytes : List ℕ) : Type 0 where
  pub room : length bytes ≡ most_entry_bytes
  pub indexed : (s.index == 0) ≡ false
  pub sound : IfSome held (IsHeld s bytes)

-- the packet at this offset is held
abbrev pub holds_place : Option HeldPacket → ℕ → Bool
holds_place None offset = false
holds_place (Some h) offset = h.place == offset

-- The packet that the entry leads to is held.
pub record LoadsIndex (old : SourceView) (before : Cursor) (wanted : Option ℕ) (e : Entry) (bound : ℕ) (new : SourceView) (after : Cursor) : Type 0 where
  pub h : HeldPacket
  pub held : after.held ≡ Some h
  pub same_place : h.place ≡ e.place
  pub same_first : h.first ≡ e.first
  pub same_bound : h.bound ≡ bound
  pub fits : level_fits wanted h.level ≡ true
  pub ordered : begins_and_rises e.first bound h.entries ≡ true
  pub source : AsksMet before.section (OnPacket before.section wanted e) old new
  pub is : IfSome old.held (λ file. StandsIn file before → IsPacketAt file before.section e.place h.level h.entries)

-- why it isn't: its first fault, or the source failed
abbrev pub IsLoadCause : SourceView → Cursor → Option ℕ → Entry → ℕ → ReadFault → SourceView → Type 0
IsLoadCause old before wanted e bound (Refused found) new = (is_index_kind found.kind ≡ true) × IfSome old.held (λ file. StandsIn file before → wanted_fault file before.section wanted e bound ≡ Some found)
IsLoadCause old before wanted e bound Source new = Rose old.faults new.faults

-- What is held after a refusal is what was held, or nothing.
pub record LosesLoad (old : SourceView) (before : Cursor) (wanted : Option ℕ) (e : Entry) (bound : ℕ) (found : ReadFault) (new : SourceView) (after : Cursor) : Type 0 where
  pub source : AsksMet before.section (OnPacket before.section wanted e) old new
  pub cause : IsLoadCause old before wanted e bound found new
  pub kept : (file : List ℕ) → StandsIn file before → StandsIn file after
