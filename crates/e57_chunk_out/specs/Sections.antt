-- How a section is ended, behind its data (ASTM E2807, compressed vector section header and index packets).
use Rattle.std.specs.Prelude.{◌≡◌, ℕ, ◌+◌, ◌-◌, ◌*◌, ◌<◌, List, ◌++◌, length, replicate, Option, Some, None}
use Rattle.std.specs.Option.{option_map}
use Rattle.e57_base.specs.Target.{TargetView}
use Rattle.e57_layout.specs.Written.{index_spelled, most_levels, packets_bytes, physical, root_place}
use Rattle.e57_layout.specs.declared.packet.Entry.{Entry}
use Rattle.e57_layout.specs.declared.section.SectionHeader.{SectionHeader}
use Rattle.e57_page.specs.Place.{payload_length}
use Rattle.e57_page_out.specs.Sealed.{filled, pages_for}
use Rattle.e57_page_out.specs.Writing.{Writing, Writes, IsBeingWritten, most_bytes}
use Rattle.e57_chunk_out.specs.declared.section.Begun.{Begun}

-- the packets of an index with these entries that stands from place q on
abbrev pub index_packets : ℕ → List Entry → List ℕ
index_packets q entries = packets_bytes (index_spelled most_levels 0 q entries)

-- the header of the section that begins on this page, whose data end at place q
abbrev pub header_of : ℕ → ℕ → List Entry → SectionHeader
header_of page q entries = record {
  id = 1;
  length = q + length (index_packets q entries) - payload_length * page;
  data_place = physical (payload_length * page + 32);
  index = physical (root_place most_levels 0 q entries);
}

-- the section is begun on this page: 32 zeros stand where its header will
abbrev pub BeginsOn : {T : Type 0} → (T → TargetView) → Writing T → ℕ → Writing T → Type 0
BeginsOn view old page new = (page ≡ pages_for old.size)
    × Writes view old (option_map (λ b. filled (pages_for old.size) b ++ replicate 32 0) old.told_bytes) (payload_length * pages_for old.size + 32) (Some (pages_for old.size)) new

-- the page of the section, which is begun if it wasn't yet
abbrev pub OpensOn : {T : Type 0} → (T → TargetView) → Option Begun → Writing T → ℕ → Writing T → Type 0
OpensOn view None old page new = BeginsOn view old page new
OpensOn view (Some s) old page new = (page ≡ s.page) × (new ≡ old) × IsBeingWritten view old

-- the section's header would pass the last page
abbrev pub PassesHeader : {T : Type 0} → Option Begun → Writing T → Type 0
PassesHeader None old = most_bytes < payload_length * pages_for old.size + 32
PassesHeader (Some s) old = ⊥

-- the file is as the last call left it
abbrev pub IsAsLeft : {T : Type 0} → Option Begun → Writing T → Type 0
IsAsLeft None out = out.held ≡ None
IsAsLeft (Some s) out = (out.held ≡ Some s.page) × (out.size ≡ s.size)
