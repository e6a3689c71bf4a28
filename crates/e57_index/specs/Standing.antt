-- What an index cursor keeps, and that it is of a file.
use Rattle.std.specs.Prelude.{◌≡◌, ℕ, suc, ◌<◌, ◌≤◌, List, Option, IfSome}
use Rattle.e57_layout.specs.declared.packet.Entry.{Entry}
use Rattle.e57_layout.specs.declared.section.Section.{Section}
use Rattle.e57_cloud.specs.PathItem.{descend, path}
use Rattle.e57_cloud.specs.Met.{OnDescent, OnPath}
use Rattle.e57_index.specs.OnePacket.{IsPacketAt}

-- An index packet that is held: its physical offset, its level, the records from the first one up to the bound, its entries.
pub record HeldPacket : Type 0 where
  pub place : ℕ
  pub level : ℕ
  pub first : ℕ
  pub bound : ℕ
  pub entries : List Entry

-- the section of an index, and the packet that was read last
pub record Cursor : Type 0 where
  pub section : Section
  pub held : Option HeldPacket

-- The entry of this height is on the path of record i: what it leads to is what the index leads to.
pub record IsLed (file : List ℕ) (s : Section) (height : ℕ) (e : Entry) (bound i : ℕ) : Type 0 where
  pub leads : path file s i ≡ descend file s i height e bound
  pub pages : (p : ℕ) → OnDescent file s i p height e bound → OnPath file s i p

-- it is on the path of each record from its own up to the bound
abbrev pub AreLed : List ℕ → Section → ℕ → Entry → ℕ → Type 0
AreLed file s height e bound = (i : ℕ) → e.first ≤ i → i < bound → IsLed file s height e bound i

-- the entry that led to a held packet
abbrev pub entry_of : HeldPacket → Entry
entry_of h = record { first = h.first; place = h.place }

-- the held packet is one of this file, on the path of each of its records
pub record IsOfFile (file : List ℕ) (s : Section) (h : HeldPacket) : Type 0 where
  pub is : IsPacketAt file s h.place h.level h.entries
  pub led : AreLed file s (suc h.level) (entry_of h) h.bound

-- The cursor stands in the file: the packet that it holds, if any, is of this file.
abbrev pub StandsIn : List ℕ → Cursor → Type 0
StandsIn file c = IfSome c.held (IsOfFile file c.section)
