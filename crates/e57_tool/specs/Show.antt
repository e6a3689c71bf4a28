-- `info FILE`, `list FILE`: the file is opened and shown.
use Rattle.std.specs.Prelude.{◌≡◌, ◌⊎◌, ℕ, ◌/◌, ◌≤◌, max, true, ◌||◌, List, [], ◌∷◌, length, Some, None, IfSome}
use Rattle.e57_base.specs.Source.{SourceView, Asks, page_length}
use Rattle.e57_base.specs.declared.fault.Fault.{Fault}
use Rattle.e57_page.specs.declared.header.Header.{Header}
use Rattle.e57_page.specs.Place.{payload_length, RisesWithin, span_end}
use Rattle.e57_page.specs.Header.{header_of}
use Rattle.e57_page.specs.File.{logical_size, opening_fault}
use Rattle.e57_page.specs.Pages.{is_opening_kind}
use Rattle.e57_page.specs.XmlSection.{xml_start, xml_span_fault}
use Rattle.e57_show.specs.Showing.{Shown}
use Rattle.e57_show.specs.Info.{info_shown}
use Rattle.e57_show.specs.Listing.{list_shown}
use Rattle.e57_tool.specs.PagesAsked.{StopsAtOpening}
use Rattle.e57_tool.specs.FileAnswer.{FileAnswer, PageRule, reading}
use Rattle.e57_tool.specs.Run.{Promise}

-- the first fault of the length, the header, page 0, and then of what is shown
abbrev pub IsShowFault : Shown → List ℕ → Fault → Type 0
IsShowFault shown file found = (opening_fault file ≡ Some found) ⊎ ((opening_fault file ≡ None) × shown.is_faulty file found)

abbrev pub HasNoShowFault : Shown → List ℕ → Type 0
HasNoShowFault shown file = (found : Fault) → IsShowFault shown file found → ⊥

-- The file was opened, and its XML section has a place in it and is not too long.
abbrev pub HasTextPlace : List ℕ → Type 0
HasTextPlace file = (opening_fault file ≡ None) × (xml_span_fault (header_of file) (logical_size file) ≡ None)

-- what is shown of the file; memory may run out once the section has its place
abbrev pub show_answer : Shown → FileAnswer
show_answer shown =
    record {
      is_faulty = IsShowFault shown;
      is_named = λ kind. is_opening_kind kind || shown.is_named kind;
      is_sound = HasNoShowFault shown;
      is_output = shown.is_output;
      takes_memory = true;
      may_run_out = HasTextPlace;
    }

-- nothing, or page 0 and then pages from `low` on and below `high`, in ascending order, each once
abbrev pub IsFirstAndThen : ℕ → ℕ → List ℕ → Type 0
IsFirstAndThen low high pages = (pages ≡ []) ⊎ ((rest : List ℕ) × (pages ≡ 0 ∷ rest) × RisesWithin low high rest)

-- nothing, or page 0 and then pages of the XML section
abbrev pub IsTextAsk : Header → List ℕ → Type 0
IsTextAsk header = IsFirstAndThen (max 1 (xml_start header / payload_length)) (span_end (xml_start header) header.xml_length)

-- No other pages were asked for.
pub record AsksForText (old new : SourceView) : Type 0 where
  pub pages : List ℕ
  pub asks : Asks old.asked pages new.asked
  pub stops : StopsAtOpening pages new
  -- pages of the file, told or not
  pub of_file : (pages ≡ []) ⊎ IfSome new.size (λ size. IsFirstAndThen 1 (size / page_length) pages)
  pub of_text : IfSome new.held (λ file. IsTextAsk (header_of file) pages)
  -- page 0 at most, where the section has no place in the file or is too long
  pub by_place : IfSome new.held (λ file. IfSome (xml_span_fault (header_of file) (logical_size file)) (λ _. length pages ≤ 1))

abbrev pub text_rule : PageRule
text_rule old new ending = AsksForText old new

abbrev pub showing : Shown → List ℕ → Promise
showing shown = reading (show_answer shown) text_rule

-- the written spelling of the element tree, and a line feed
abbrev pub info_promise : List ℕ → Promise
info_promise = showing info_shown

-- the clouds with their fields, and the blobs, one a line
abbrev pub list_promise : List ℕ → Promise
list_promise = showing list_shown
