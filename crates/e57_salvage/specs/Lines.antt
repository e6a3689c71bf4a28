-- The lines of what is lost of a file, and of what is kept.
use Rattle.std.specs.Prelude.{ℕ, ◌+◌, List, [], ◌∷◌, ◌++◌, codes, decimal, Option, Some, None, is_none, if◌then◌else◌}
use Rattle.e57_base.specs.Kind.{kind_name}
use Rattle.e57_base.specs.declared.fault.Fault.{Fault}
use Rattle.e57_spans.specs.Spans.{Span}
use Rattle.e57_spans.specs.Judged.{spans_of}
use Rattle.e57_spans.specs.Lost.{kept_count}
use Rattle.e57_elements.specs.Tree.{Element}
use Rattle.e57_verdict.specs.Things.{Thing, cloud_thing, blob_thing, things_in}
use Rattle.e57_salvage.specs.Blobs.{blob_loss}

-- ---- what is lost

-- `KIND A B` and the line's end, after a space
abbrev pub fault_end : Fault → List ℕ
fault_end found = codes " " ++ kind_name found.kind ++ codes " " ++ decimal found.a ++ codes " " ++ decimal found.b ++ codes "\n"

-- `lost cloud K FIRST END KIND A B`, where END is the record past the last one; nothing of a span without fault
abbrev pub span_line : ℕ → ℕ → ℕ → Option Fault → List ℕ
span_line k first until None = []
span_line k first until (Some found) = codes "lost cloud " ++ decimal k ++ codes " " ++ decimal first ++ codes " " ++ decimal until ++ fault_end found

abbrev pub span_lines : ℕ → List Span → List ℕ
span_lines k [] = []
span_lines k (x ∷ xs) = span_line k x.first x.until x.fault ++ span_lines k xs

-- `lost blob K KIND A B`; nothing of a blob without fault
abbrev pub blob_line : ℕ → Option Fault → List ℕ
blob_line k None = []
blob_line k (Some found) = codes "lost blob " ++ decimal k ++ fault_end found

-- of clouds and blobs in document order, the first of each kind with these numbers
abbrev pub lost_lines : List ℕ → ℕ → ℕ → List Thing → List ℕ
lost_lines file clouds blobs [] = []
lost_lines file clouds blobs (cloud_thing c ∷ things) = span_lines clouds (spans_of file c) ++ lost_lines file (clouds + 1) blobs things
lost_lines file clouds blobs (blob_thing b ∷ things) = blob_line blobs (blob_loss file b) ++ lost_lines file clouds (blobs + 1) things

-- ---- what is kept

-- how many records of all clouds
abbrev pub records_kept : List ℕ → List Thing → ℕ
records_kept file [] = 0
records_kept file (cloud_thing c ∷ things) = kept_count file c + records_kept file things
records_kept file (blob_thing b ∷ things) = records_kept file things

-- how many blobs
abbrev pub blobs_kept : List ℕ → List Thing → ℕ
blobs_kept file [] = 0
blobs_kept file (cloud_thing c ∷ things) = blobs_kept file things
blobs_kept file (blob_thing b ∷ things) = (if is_none (blob_loss file b) then 1 else 0) + blobs_kept file things

-- `kept RECORDS BLOBS`
abbrev pub kept_line : ℕ → ℕ → List ℕ
kept_line records blobs = codes "kept " ++ decimal records ++ codes " " ++ decimal blobs ++ codes "\n"

-- ---- of a file with this tree

unfoldable pub salvage_lines : List ℕ → Element → List ℕ
salvage_lines file tree = lost_lines file 0 0 (things_in tree) ++ kept_line (records_kept file (things_in tree)) (blobs_kept file (things_in tree))
