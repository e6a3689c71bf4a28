-- `blob FILE K`: the file is opened, and the bytes of one blob are put.
use Rattle.std.specs.Prelude.{◌≡◌, ◌⊎◌, ℕ, ◌/◌, ◌≤◌, max, List, [], ◌∷◌, ◌++◌, length, IfSome}
use Rattle.e57_base.specs.Source.{SourceView, Asks, page_length}
use Rattle.e57_page.specs.Place.{payload_length, RisesWithin, span_end}
use Rattle.e57_page.specs.Header.{header_of}
use Rattle.e57_page.specs.File.{logical_size}
use Rattle.e57_page.specs.XmlSection.{xml_start, xml_span_fault}
use Rattle.e57_show.specs.Blob.{AreBlobPages, blob_streamed}
use Rattle.e57_tool.specs.PagesAsked.{StopsAtOpening}
use Rattle.e57_tool.specs.FileAnswer.{PageRule}
use Rattle.e57_tool.specs.InPieces.{streaming}
use Rattle.e57_tool.specs.Run.{Promise}

-- page 0, then pages of the XML section, and then those of the blob, each part in ascending order and each page of it at
-- most once
pub record AreFileBlobPages (k : ℕ) (file text bytes : List ℕ) : Type 0 where
  pub of_text : RisesWithin (max 1 (xml_start (header_of file) / payload_length)) (span_end (xml_start (header_of file)) (header_of file).xml_length) text
  pub of_blob : (bytes ≡ []) ⊎ AreBlobPages k file bytes

-- these pages in three parts, told or not
pub record HasParts (k : ℕ) (pages : List ℕ) (source : SourceView) : Type 0 where
  pub text : List ℕ
  pub bytes : List ℕ
  pub all : pages ≡ 0 ∷ (text ++ bytes)
  pub of_file : IfSome source.size (λ size. RisesWithin 1 (size / page_length) text × RisesWithin 0 (size / page_length) bytes)
  pub of_blob : IfSome source.held (λ file. AreFileBlobPages k file text bytes)

-- No other pages were asked for.
pub record AsksForBlobPages (k : ℕ) (old new : SourceView) : Type 0 where
  pub pages : List ℕ
  pub asks : Asks old.asked pages new.asked
  pub stops : StopsAtOpening pages new
  pub parts : (pages ≡ []) ⊎ HasParts k pages new
  -- page 0 at most, where the section has no place in the file or is too long
  pub by_place : IfSome new.held (λ file. IfSome (xml_span_fault (header_of file) (logical_size file)) (λ _. length pages ≤ 1))

abbrev pub blob_rule : ℕ → PageRule
blob_rule k old new ending = AsksForBlobPages k old new

-- the bytes of blob k
abbrev pub blob_promise : List ℕ → ℕ → Promise
blob_promise name k = streaming (blob_streamed k) (blob_rule k) name
