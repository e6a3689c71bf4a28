-- One index packet on the way from the root: the root itself, or a packet of a wanted level.
use Rattle.std.specs.Prelude.{◌≡◌, ℕ, ◌+◌, ◌*◌, ◌==◌, ◌⊎◌, not, nat_lt, Bool, List, Option, Some, None}
use Rattle.std.specs.Option.{option_or}
use Rattle.e57_base.specs.declared.fault.Fault.{Fault}
use Rattle.e57_base.specs.declared.kind.Kind.TheVariants.{IndexShape}
use Rattle.e57_base.specs.Fault.{fault}
use Rattle.e57_page.specs.Place.{place}
use Rattle.e57_page.specs.File.{logical, span_fault}
use Rattle.e57_layout.specs.IndexPackets.{entry_count_at, level_at}
use Rattle.e57_layout.specs.declared.packet.Entry.{Entry}
use Rattle.e57_layout.specs.declared.section.Section.{Section}
use Rattle.e57_cloud.specs.Section.{when}
use Rattle.e57_cloud.specs.Index.{highest_level, known_place, entries_of, index_start_fault, index_shape_fault, index_packet_fault}
use Rattle.e57_cloud.specs.Met.{InIndexStart, InEntries}

-- The level is the wanted one; that of a root, for which none is wanted, isn't above the highest.
abbrev pub level_fits : Option ℕ → ℕ → Bool
level_fits None level = not (nat_lt highest_level level)
level_fits (Some wanted) level = level == wanted

-- the wanted level, or that of the root that the entry leads to
abbrev pub level_of : List ℕ → Option ℕ → Entry → ℕ
level_of file None e = level_at (logical file) (known_place e.place)
level_of file (Some wanted) e = wanted

-- of a root, the first fault of its start and its level
abbrev pub start_fault : List ℕ → Section → Option ℕ → Entry → Option Fault
start_fault file s None e = option_or (index_start_fault file s e.place (place e.place)) (when (nat_lt highest_level (level_at (logical file) (known_place e.place))) (fault IndexShape s.node e.place))
start_fault file s (Some wanted) e = None

-- the first fault of the packet that an entry leads to, whose records lie below the bound
abbrev pub wanted_fault : List ℕ → Section → Option ℕ → Entry → ℕ → Option Fault
wanted_fault file s wanted e bound = option_or (start_fault file s wanted e) (index_packet_fault file s (level_of file wanted e) e bound)

-- p is a page of the packet's first 16 bytes, or of its entries where these have no fault
abbrev pub OnPacket : Section → Option ℕ → Entry → List ℕ → ℕ → Type 0
OnPacket s wanted e file p = InIndexStart s e.place p ⊎ ((start_fault file s wanted e ≡ None) × InEntries file s (level_of file wanted e) e.place p)

-- The index packet at this offset has this level and these entries. Its pages and its shape have no fault.
pub record IsPacketAt (file : List ℕ) (s : Section) (offset level : ℕ) (entries : List Entry) : Type 0 where
  pub shape : index_shape_fault file s level offset ≡ None
  pub right : span_fault file (known_place offset + 16) (16 * entry_count_at (logical file) (known_place offset)) ≡ None
  pub of_level : level_at (logical file) (known_place offset) ≡ level
  pub has : entries ≡ entries_of file offset
