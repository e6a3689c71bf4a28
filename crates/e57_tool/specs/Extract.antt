-- `extract FILE CLOUD`: the file is opened, and rows of its records are put.
use Rattle.std.specs.Prelude.{◌≡◌, ◌⊎◌, ℕ, ◌/◌, ◌≤◌, max, List, [], ◌∷◌, ◌++◌, length, IfSome}
use Rattle.std.specs.List.{AllByRecursion}
use Rattle.e57_base.specs.Source.{SourceView, Asks, page_length}
use Rattle.e57_page.specs.Place.{payload_length, RisesWithin, span_end}
use Rattle.e57_page.specs.Header.{header_of}
use Rattle.e57_page.specs.File.{logical_size}
use Rattle.e57_page.specs.XmlSection.{xml_start, xml_span_fault}
use Rattle.e57_cloud.specs.Met.{InXml, InMet}
use Rattle.e57_show.specs.Extract.{Asked, Selection, Selects, stated, AreRowsPages, rows_streamed}
use Rattle.e57_tool.specs.PagesAsked.{StopsAtOpening}
use Rattle.e57_tool.specs.FileAnswer.{PageRule}
use Rattle.e57_tool.specs.InPieces.{streaming}
use Rattle.e57_tool.specs.Run.{Promise}

-- page p is met for what is asked: where the file doesn't have that, it is page 0 or one of the XML section
abbrev pub IsMetFor : Asked → List ℕ → ℕ → Type 0
IsMetFor asked file p =
    (p ≡ 0) ⊎ (InXml file p ⊎ ((s : Selection) × Selects asked file s × InMet file (stated s) s.numbers s.from s.count p))

-- page 0, and then pages of the XML section, in ascending order and each at most once, and then those on the way to what is
-- asked: none if the file doesn't have it, or no record is asked for
pub record AreFileRowsPages (asked : Asked) (file text rows : List ℕ) : Type 0 where
  pub of_text : RisesWithin (max 1 (xml_start (header_of file) / payload_length)) (span_end (xml_start (header_of file)) (header_of file).xml_length) text
  pub of_rows : (rows ≡ []) ⊎ AreRowsPages asked file rows

-- these pages in three parts, told or not
pub record HasRowsParts (asked : Asked) (pages : List ℕ) (source : SourceView) : Type 0 where
  pub text : List ℕ
  pub rows : List ℕ
  pub all : pages ≡ 0 ∷ (text ++ rows)
  pub of_file : IfSome source.size (λ size. RisesWithin 1 (size / page_length) text)
  pub of_rows : IfSome source.held (λ file. AreFileRowsPages asked file text rows)

-- No other pages were asked for.
pub record AsksForRowsPages (asked : Asked) (old new : SourceView) : Type 0 where
  pub pages : List ℕ
  pub asks : Asks old.asked pages new.asked
  pub stops : StopsAtOpening pages new
  pub parts : (pages ≡ []) ⊎ HasRowsParts asked pages new
  -- page 0 at most, where the section has no place in the file or is too long
  pub by_place : IfSome new.held (λ file. IfSome (xml_span_fault (header_of file) (logical_size file)) (λ _. length pages ≤ 1))
  -- each of them is met for what is asked
  pub met : IfSome new.held (λ file. AllByRecursion (IsMetFor asked file) pages)

abbrev pub rows_rule : Asked → PageRule
rows_rule asked old new ending = AsksForRowsPages asked old new

-- rows of the asked fields of the asked records
abbrev pub extract_promise : List ℕ → Asked → Promise
extract_promise name asked = streaming (rows_streamed asked) (rows_rule asked) name
