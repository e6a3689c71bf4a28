-- The section of a cloud (ASTM E2807, compressed vector section): where it lies, and the first fault of its header.
-- A place is a logical offset and an offset a physical one.
use Rattle.std.specs.Prelude.{ℕ, ◌+◌, ◌==◌, ◌||◌, not, nat_lt, Bool, if◌then◌else◌, List, Option, Some, None}
use Rattle.std.specs.Option.{option_or}
use Rattle.e57_base.specs.declared.fault.Fault.{Fault}
use Rattle.e57_base.specs.declared.kind.Kind.TheVariants.{SectionPlace, SectionId, DataPlace}
use Rattle.e57_page.specs.Place.{place}
use Rattle.e57_base.specs.Fault.{fault}
use Rattle.e57_page.specs.File.{logical, logical_size, span_fault}
use Rattle.e57_layout.specs.Headers.{section_head_at}
use Rattle.e57_layout.specs.declared.section.Section.{Section}
use Rattle.e57_layout.specs.declared.section.SectionHeader.{SectionHeader}

-- this fault where the test holds
abbrev pub when : Bool → Fault → Option Fault
when test found = if test then Some found else None

abbrev pub or_zero : Option ℕ → ℕ
or_zero None = 0
or_zero (Some n) = n

-- The data begin in the section after its header of 32 bytes, or at the section's end.
abbrev pub data_place_fault : ℕ → ℕ → SectionHeader → Option ℕ → Option Fault
data_place_fault node start header None = Some (fault DataPlace node header.data_place)
data_place_fault node start header (Some q) = when (nat_lt q (start + 32) || nat_lt (start + header.length) q) (fault DataPlace node header.data_place)

-- the first fault of a header that stands at place `start` of so many logical bytes, at the offset that the cloud states
unfoldable pub section_header_fault : ℕ → ℕ → ℕ → ℕ → SectionHeader → Option Fault
section_header_fault node offset size start header =
    option_or (when (nat_lt header.length 32 || nat_lt size (start + header.length)) (fault SectionPlace node offset))
    (option_or (when (not (header.id == 1)) (fault SectionId node header.id))
    (data_place_fault node start header (place header.data_place)))

abbrev pub section_fault_from : List ℕ → ℕ → ℕ → Option ℕ → Option Fault
section_fault_from file node offset None = Some (fault SectionPlace node offset)
section_fault_from file node offset (Some start) =
    option_or (when (nat_lt (logical_size file) (start + 32)) (fault SectionPlace node offset))
    (option_or (span_fault file start 32)
    (section_header_fault node offset (logical_size file) start (section_head_at (logical file) start)))

-- The first fault of the section at the offset that the cloud of this node states: its place, the pages of its header,
-- its length, its id, the place of its data.
unfoldable pub section_fault : List ℕ → ℕ → ℕ → Option Fault
section_fault file node offset = section_fault_from file node offset (place offset)

abbrev pub section_with : ℕ → ℕ → ℕ → ℕ → SectionHeader → Section
section_with node count fields start header =
    record {
      node = node;
      fields = fields;
      start = start;
      end = start + header.length;
      data_place = or_zero (place header.data_place);
      index = header.index;
      count = count;
    }

-- The section at this offset. Where it has a fault, this says nothing.
unfoldable pub section_at : List ℕ → ℕ → ℕ → ℕ → ℕ → Section
section_at file node offset count fields = section_with node count fields (or_zero (place offset)) (section_head_at (logical file) (or_zero (place offset)))
