-- The written form of a content: one file for each content and each length of chunks (ASTM E2807, file structure).
-- A place is a logical offset and an offset a physical one.
use Rattle.std.specs.Prelude.{ℕ, ◌+◌, ◌*◌, ◌/◌, ◌<◌, ◌≤◌, ◌==◌, List, [], ◌∷◌, ◌++◌, length, map, decimal, if◌then◌else◌}
use Rattle.e57_base.specs.Source.{page_length}
use Rattle.e57_page.specs.declared.header.Header.{Header}
use Rattle.e57_page.specs.File.{longest_file}
use Rattle.e57_page.specs.Place.{payload_length}
use Rattle.e57_page.specs.XmlSection.{xml_limit}
use Rattle.e57_page_out.specs.Sealed.{sealed, filled, pages_for}
use Rattle.e57_page_out.specs.HeaderBytes.{header_bytes}
use Rattle.e57_elements.specs.Tree.{Element}
use Rattle.e57_elements.specs.Spelling.{spelling}
use Rattle.e57_layout.specs.Written.{physical, section_spelled, blob_spelled}
use Rattle.e57_nodes.specs.Items.{StatedItem, stated_cloud, stated_blob}
use Rattle.e57_nodes.specs.Places.{with_places}
use Rattle.e57_verdict.specs.Things.{Body, records_body, bytes_body}
use Rattle.e57_verdict.specs.Content.{Content}
use Rattle.e57_plain.specs.Valid.{kinds_in, items_in, IsValid}

-- ---- a file of some sections and a text

-- some bytes, and zeros up to a whole number of pages' payloads
unfoldable pub whole_pages : List ℕ → List ℕ
whole_pages bytes = filled (pages_for (length bytes)) bytes

-- the page with which the XML section begins, where the sections have so many whole pages: it follows them and page 0
unfoldable pub xml_page : List ℕ → ℕ
xml_page sections = 1 + length sections / payload_length

-- how many pages the file has
unfoldable pub page_count : List ℕ → List ℕ → ℕ
page_count sections text = xml_page sections + pages_for (length text)

-- its header
unfoldable pub file_header : List ℕ → List ℕ → Header
file_header sections text = record {
  length = page_length * page_count sections text;
  xml_place = physical (payload_length * xml_page sections);
  xml_length = length text;
}

-- its logical bytes: the header in a page of its own, the whole pages of the sections, the whole pages of the text
unfoldable pub finished_bytes : List ℕ → List ℕ → List ℕ
finished_bytes sections text = whole_pages (header_bytes (file_header sections text)) ++ (sections ++ whole_pages text)

-- the file with these whole pages of sections and this text as its XML section
unfoldable pub finished : List ℕ → List ℕ → List ℕ
finished sections text = sealed (page_count sections text) (finished_bytes sections text)

-- ---- the sections of clouds and blobs

-- The section at place q of a cloud or blob that holds this body, where chunks have n records. A cloud of no records has none.
-- A body of the other sort doesn't come.
unfoldable pub body_section : ℕ → ℕ → StatedItem → Body → List ℕ
body_section n q (stated_cloud node count fields) (records_body columns) = if count == 0 then [] else section_spelled q (kinds_in fields) n count columns
body_section n q (stated_cloud node count fields) (bytes_body bytes) = []
body_section n q (stated_blob node size) (records_body columns) = []
body_section n q (stated_blob node size) (bytes_body bytes) = blob_spelled bytes

-- the offset of a section that begins with page p; 0 where there is none
abbrev pub section_offset : ℕ → List ℕ → ℕ
section_offset p [] = 0
section_offset p (b ∷ bytes) = physical (payload_length * p)

-- the page that follows a section which begins with page p
abbrev pub page_behind : ℕ → List ℕ → ℕ
page_behind p bytes = p + pages_for (length bytes)

-- the sections one after another, each from a fresh page on, the first from page p on
unfoldable pub sections_from : ℕ → ℕ → List StatedItem → List Body → List ℕ
sections_from n p [] bodies = []
sections_from n p (item ∷ items) [] = []
sections_from n p (item ∷ items) (body ∷ bodies) =
    whole_pages (body_section n (payload_length * p) item body)
    ++ sections_from n (page_behind p (body_section n (payload_length * p) item body)) items bodies

-- the offset of each
unfoldable pub offsets_from : ℕ → ℕ → List StatedItem → List Body → List ℕ
offsets_from n p [] bodies = []
offsets_from n p (item ∷ items) [] = []
offsets_from n p (item ∷ items) (body ∷ bodies) =
    section_offset p (body_section n (payload_length * p) item body)
    ∷ offsets_from n (page_behind p (body_section n (payload_length * p) item body)) items bodies

-- ---- the written form

-- The sections of a content stand from page 1 on.
abbrev pub sections_of : ℕ → Content → List ℕ
sections_of n content = sections_from n 1 (items_in content) content.bodies

abbrev pub offsets_of : ℕ → Content → List ℕ
offsets_of n content = offsets_from n 1 (items_in content) content.bodies

-- the tree with the offsets of its sections, in decimal
unfoldable pub written_tree : ℕ → Content → Element
written_tree n content = with_places (map decimal (offsets_of n content)) content.tree

-- the text of its XML section
unfoldable pub written_text : ℕ → Content → List ℕ
written_text n content = spelling (written_tree n content)

-- the written form with chunks of n records
unfoldable pub plain : ℕ → Content → List ℕ
plain n content = finished (sections_of n content) (written_text n content)

-- The written form is within the format's limits: its text, and the whole file.
pub record Fits (n : ℕ) (content : Content) : Type 0 where
  pub text : length (written_text n content) ≤ xml_limit
  pub file : length (plain n content) ≤ longest_file

-- A content that can be written with chunks of n records.
pub record IsWritable (n : ℕ) (content : Content) : Type 0 where
  pub chunk : 0 < n
  pub valid : IsValid content
  pub fits : Fits n content
