-- Laws of a section whose header has no fault: where it lies.
use Rattle.std.specs.Prelude.{◌≡◌, ℕ, ◌+◌, ◌≤◌, ◌==◌, ◌||◌, not, nat_lt, Bool, true, false, List, Option, Some, None}
use Rattle.std.proofs.Common.{refl}
use Rattle.std.proofs.lemmas.Bool.{ltb-false, or_parts}
use Rattle.e57_base.specs.declared.fault.Fault.{Fault}
use Rattle.e57_base.specs.declared.kind.Kind.TheVariants.{SectionPlace, SectionId, DataPlace}
use Rattle.e57_base.specs.Fault.{fault}
use Rattle.e57_page.specs.Place.{place}
use Rattle.e57_page.specs.File.{logical, logical_size, span_fault}
use Rattle.e57_layout.specs.Headers.{section_head_at}
use Rattle.e57_layout.specs.declared.section.Section.{Section}
use Rattle.e57_layout.specs.declared.section.SectionHeader.{SectionHeader}
use Rattle.e57_cloud.specs.Section.{when, or_zero, data_place_fault, section_header_fault, section_fault_from, section_fault, section_with, section_at}
use Rattle.e57_base.proofs.Options.{option_or_parts}

-- The data begin in the section after its header, or at its end, and the section ends in the file.
pub record Lies (size : ℕ) (s : Section) : Type 0 where
  pub data_after : s.start + 32 ≤ s.data_place
  pub data_inside : s.data_place ≤ s.end
  pub inside : s.end ≤ size

pub when-none : (test : Bool) (found : Fault) → when test found ≡ None → test ≡ false
when-none true found none = cc
when-none false found none = refl

data-lies : (node start : ℕ) (header : SectionHeader) (at : Option ℕ) → data_place_fault node start header at ≡ None → (start + 32 ≤ or_zero at) × (or_zero at ≤ start + header.length)
data-lies node start header None none = cc
data-lies node start header (Some q) none =
    let tests = or_parts (nat_lt q (start + 32)) (nat_lt (start + header.length) q) (when-none (nat_lt q (start + 32) || nat_lt (start + header.length) q) (fault DataPlace node header.data_place) none) in
    (ltb-false q (start + 32) tests.0, ltb-false (start + header.length) q tests.1)

header-lies : (node offset size count fields start : ℕ) (header : SectionHeader) → section_header_fault node offset size start header ≡ None → Lies size (section_with node count fields start header)
unfolding section_header_fault
header-lies node offset size count fields start header none =
    let first = option_or_parts (when (nat_lt header.length 32 || nat_lt size (start + header.length)) (fault SectionPlace node offset)) _ none in
    let second = option_or_parts (when (not (header.id == 1)) (fault SectionId node header.id)) _ first.1 in
    let tests = or_parts (nat_lt header.length 32) (nat_lt size (start + header.length)) (when-none (nat_lt header.length 32 || nat_lt size (start + header.length)) (fault SectionPlace node offset) first.0) in
    let lies = data-lies node start header (place header.data_place) second.1 in
    record { data_after = lies.0; data_inside = lies.1; inside = ltb-false size (start + header.length) tests.1 }

from-lies : (file : List ℕ) (node offset count fields : ℕ) (at : Option ℕ) → section_fault_from file node offset at ≡ None → Lies (logical_size file) (section_with node count fields (or_zero at) (section_head_at (logical file) (or_zero at)))
from-lies file node offset count fields None none = cc
from-lies file node offset count fields (Some start) none =
    let first = option_or_parts (when (nat_lt (logical_size file) (start + 32)) (fault SectionPlace node offset)) _ none in
    let second = option_or_parts (span_fault file start 32) _ first.1 in
    header-lies node offset (logical_size file) count fields start (section_head_at (logical file) start) second.1

-- a section whose header has no fault lies in the file
pub section-lies : (file : List ℕ) (node offset count fields : ℕ) → section_fault file node offset ≡ None → Lies (logical_size file) (section_at file node offset count fields)
unfolding section_fault section_at
section-lies file node offset count fields none = from-lies file node offset count fields (place offset) none
