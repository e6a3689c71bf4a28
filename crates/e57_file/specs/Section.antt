-- Where the XML section of a file lies.
use Rattle.std.specs.Prelude.{◌≡◌, ℕ, ◌+◌, ◌≤◌, None}
use Rattle.e57_page.specs.declared.header.Header.{Header}
use Rattle.e57_page.specs.XmlSection.{xml_limit, xml_start, xml_span_fault}

-- The section lies in so many logical bytes, from this place on, and is within its limit.
pub record IsSectionPlace (header : Header) (count start : ℕ) : Type 0 where
  pub placed : xml_span_fault header count ≡ None
  pub start_is : start ≡ xml_start header
  pub inside : start + header.xml_length ≤ count
  pub few : header.xml_length ≤ xml_limit
