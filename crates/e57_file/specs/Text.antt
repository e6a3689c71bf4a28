-- What the opening of a file's text answers, and what it does to the source.
use Rattle.std.specs.Prelude.{◌≡◌, ℕ, ◌*◌, ◌/◌, min, ◌⊎◌, Bool, true, false, List, Option, Some, None, IfSome, MatchOption, Result, IfErr, Err}
use Rattle.e57_base.specs.Count.{Rose}
use Rattle.e57_base.specs.Source.{SourceView, page_length}
use Rattle.e57_base.specs.declared.fault.Fault.{Fault}
use Rattle.e57_base.specs.declared.fault.OpenFault.{OpenFault}
use Rattle.e57_base.specs.declared.fault.OpenFault.TheVariants.{Refused, Source, Memory}
use Rattle.e57_base.specs.declared.kind.Kind.{Kind}
use Rattle.e57_base.specs.declared.kind.Kind.TheVariants.{XmlPlace, XmlLimit, Page, XmlUtf8, Piece, Nest, TreeLimit}
use Rattle.e57_page.specs.Place.{payload_length, span_end}
use Rattle.e57_page.specs.Header.{header_of}
use Rattle.e57_page.specs.Pages.{Reading, AsksUnkept}
use Rattle.e57_page.specs.XmlSection.{xml_start, xml_span_fault, xml_section_fault, xml_text}
use Rattle.e57_elements.specs.declared.tree.RawNode.{RawNode}
use Rattle.e57_elements.specs.Spells.{Reads}
use Rattle.e57_elements.specs.Fault.{IsFirstFault}

-- the first fault of a file's XML section before its text: of its place, its length, its pages
abbrev pub xml_fault : List ℕ → Option Fault
xml_fault file = xml_section_fault (header_of file) file

-- the text of a file's XML section
abbrev pub section_text : List ℕ → List ℕ
section_text file = xml_text (header_of file) file

-- The first fault of the section, its text included.
abbrev pub IsTextFault : List ℕ → Fault → Type 0
IsTextFault file found = (xml_fault file ≡ Some found) ⊎ ((xml_fault file ≡ None) × IsFirstFault (section_text file) found)

-- Pages of the section that the file has, and no other, were asked for, in ascending order, each at most once, and none
-- that was kept.
abbrev pub AsksForXml : {S : Type 0} → Reading S → SourceView → SourceView → Type 0
AsksForXml now old new =
    AsksUnkept now.kept (xml_start now.header / payload_length) (min (span_end (xml_start now.header) now.header.xml_length) (now.length / page_length)) old new

-- a kind of fault of the section's place and length
abbrev pub is_place_kind : Kind → Bool
is_place_kind XmlPlace = true
is_place_kind XmlLimit = true
is_place_kind _ = false

-- a kind of fault that the section can have
abbrev pub is_text_kind : Kind → Bool
is_text_kind XmlPlace = true
is_text_kind XmlLimit = true
is_text_kind Page = true
is_text_kind XmlUtf8 = true
is_text_kind Piece = true
is_text_kind Nest = true
is_text_kind TreeLimit = true
is_text_kind _ = false

-- no fault of the section's place and length
abbrev pub IsPastPlace : OpenFault → Type 0
IsPastPlace (Refused found) = is_place_kind found.kind ≡ false
IsPastPlace Source = Unit {0}
IsPastPlace Memory = Unit {0}

-- Where the section has no place in the file or is too long, this is the answer, nothing was asked for, and the open
-- file is as before. Else this is no answer.
abbrev pub JudgesPlace : {S T : Type 0} → Reading S → Result T OpenFault → Reading S → Type 0
JudgesPlace old result new =
    MatchOption (xml_span_fault old.header (old.length / page_length * payload_length)) (IfErr result IsPastPlace) (λ found. (result ≡ Err (Refused found)) × (new ≡ old))

-- The text was read, and these are the nodes of the lawful tree that it spells.
pub record IsTextRead (old : SourceView) (nodes : List RawNode) : Type 0 where
  pub sound : IfSome old.held (λ file. xml_fault file ≡ None)
  pub tree : IfSome old.held (λ file. Reads (section_text file) nodes)

-- why the text was not read: its first fault, or the source failed, or memory ran out
abbrev pub IsTextCause : SourceView → OpenFault → SourceView → Type 0
IsTextCause old (Refused found) new = (is_text_kind found.kind ≡ true) × IfSome old.held (λ file. IsTextFault file found)
IsTextCause old Source new = Rose old.faults new.faults
IsTextCause old Memory new = Unit {0}
