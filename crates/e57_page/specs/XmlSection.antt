-- The XML section of a file (ASTM E2807, XML section): its place, its limit, its pages and its text.
use Rattle.std.specs.Prelude.{ℕ, ◌+◌, ◌^◌, nat_lt, if◌then◌else◌, List, take, drop, Option, Some, None}
use Rattle.std.specs.Option.{option_or}
use Rattle.e57_base.specs.Fault.{fault}
use Rattle.e57_base.specs.declared.fault.Fault.{Fault}
use Rattle.e57_base.specs.declared.kind.Kind.TheVariants.{XmlPlace, XmlLimit}
use Rattle.e57_page.specs.declared.header.Header.{Header}
use Rattle.e57_page.specs.Place.{place}
use Rattle.e57_page.specs.File.{logical, logical_size, span_fault}

-- the most logical bytes that the section has
abbrev pub xml_limit : ℕ
xml_limit = 2 ^ 26

-- the fault of the section's place in a file of so many logical bytes: it has none, or the section passes the file
unfoldable pub xml_place_fault : Header → ℕ → Option Fault
xml_place_fault header count = judged (place header.xml_place) where
  judged : Option ℕ → Option Fault
  judged None = Some (fault XmlPlace header.xml_place header.xml_length)
  judged (Some start) = if nat_lt count (start + header.xml_length) then Some (fault XmlPlace header.xml_place header.xml_length) else None

-- the fault of the section's length
unfoldable pub xml_limit_fault : Header → Option Fault
xml_limit_fault header = if nat_lt xml_limit header.xml_length then Some (fault XmlLimit header.xml_length xml_limit) else None

-- the logical place of the section's first byte
abbrev pub xml_start : Header → ℕ
xml_start header = started (place header.xml_place) where
  started : Option ℕ → ℕ
  started None = 0
  started (Some start) = start

-- the first fault of the section's pages
abbrev pub xml_pages_fault : Header → List ℕ → Option Fault
xml_pages_fault header file = span_fault file (xml_start header) header.xml_length

-- the first fault that can be judged without the section's bytes: of its place, and then of its length
abbrev pub xml_span_fault : Header → ℕ → Option Fault
xml_span_fault header count = option_or (xml_place_fault header count) (xml_limit_fault header)

-- the first fault before the text: of the section's place, its length, its pages
abbrev pub xml_section_fault : Header → List ℕ → Option Fault
xml_section_fault header file = option_or (xml_place_fault header (logical_size file)) (option_or (xml_limit_fault header) (xml_pages_fault header file))

-- the text of the section
abbrev pub xml_text : Header → List ℕ → List ℕ
xml_text header file = take header.xml_length (drop (xml_start header) (logical file))
