-- The verdict on a file: its first fault over all that is judged, in one order, or that it has none.
use Rattle.std.specs.Prelude.{◌≡◌, ℕ, ◌/◌, ◌⊎◌, List, length, Option, Some, None}
use Rattle.std.specs.Option.{option_or}
use Rattle.e57_base.specs.Source.{page_length}
use Rattle.e57_base.specs.declared.fault.Fault.{Fault}
use Rattle.e57_page.specs.Header.{header_fault, header_of}
use Rattle.e57_page.specs.File.{length_fault, pages_fault, logical_size}
use Rattle.e57_page.specs.XmlSection.{xml_span_fault, xml_text}
use Rattle.e57_elements.specs.Tree.{Element}
use Rattle.e57_elements.specs.Lawful.{IsLawful}
use Rattle.e57_elements.specs.Spells.{Spells}
use Rattle.e57_elements.specs.Fault.{IsFirstFault}
use Rattle.e57_nodes.specs.Shape.{shape_of}
use Rattle.e57_nodes.specs.Typed.{typed_fault}
use Rattle.e57_nodes.specs.Items.{StatedItem, stated_items}
use Rattle.e57_verdict.specs.Things.{things_in, things_fault, cloud_count, blob_count, record_count}

-- the first fault of all pages
abbrev pub all_pages_fault : List ℕ → Option Fault
all_pages_fault file = pages_fault file 0 (length file / page_length)

-- The first fault before the text: of the length, the header, the pages by number, the place of the XML section, its length.
unfoldable pub fault_before_text : List ℕ → Option Fault
fault_before_text file =
    option_or (length_fault (length file))
    (option_or (header_fault file (length file))
    (option_or (all_pages_fault file) (xml_span_fault (header_of file) (logical_size file))))

-- the text of the XML section
abbrev pub xml_text_of : List ℕ → List ℕ
xml_text_of file = xml_text (header_of file) file

-- There is no fault before the text, and it spells this lawful tree.
pub record HasTree (file : List ℕ) (tree : Element) : Type 0 where
  pub sound : fault_before_text file ≡ None
  pub spells : Spells (xml_text_of file) tree
  pub is_lawful : IsLawful tree

-- The first fault behind the text: of the nodes, and then of each cloud and blob in document order.
unfoldable pub fault_behind_text : List ℕ → Element → Option Fault
fault_behind_text file tree = option_or (typed_fault (shape_of tree)) (things_fault file (things_in tree))

-- The file has no fault, and this tree.
pub record IsSoundFile (file : List ℕ) (tree : Element) : Type 0 where
  pub has_tree : HasTree file tree
  pub sound : fault_behind_text file tree ≡ None

-- The first fault of a file: before its text, or of its text, or behind it.
abbrev pub IsFileFault : List ℕ → Fault → Type 0
IsFileFault file found =
    (fault_before_text file ≡ Some found)
    ⊎ ((fault_before_text file ≡ None) × IsFirstFault (xml_text_of file) found)
    ⊎ ((tree : Element) × HasTree file tree × (fault_behind_text file tree ≡ Some found))

-- A file is accepted, with the numbers of its clouds, of its blobs and of all records; or it is refused for its first fault.
pub data Verdict : Type 0 where
  accepted : ℕ → ℕ → ℕ → Verdict
  refused : Fault → Verdict

-- the verdict that accepts a file with these clouds and blobs
abbrev pub accepted_with : List StatedItem → Verdict
accepted_with items = accepted (cloud_count items) (blob_count items) (record_count items)

abbrev pub IsVerdict : List ℕ → Verdict → Type 0
IsVerdict file (accepted clouds blobs records) =
    (tree : Element) × IsSoundFile file tree × (accepted clouds blobs records ≡ accepted_with (stated_items (shape_of tree)))
IsVerdict file (refused found) = IsFileFault file found
