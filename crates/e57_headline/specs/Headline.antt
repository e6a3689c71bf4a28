-- What is put of an accepted file, as a slice of its content.
use Rattle.std.specs.Prelude.{◌≡◌, ℕ, ◌+◌, ◌<◌, ◌≤◌, List, [], ◌∷◌, ◌++◌, length, slice_get, slice_index_or, pos, Some, None, Result, Ok}
use Rattle.std.specs.List.{AllByRecursion}
use Rattle.e57_base.specs.declared.fault.Fault.{Fault}
use Rattle.e57_layout.specs.Values.{Value, whole}
use Rattle.e57_cloud.specs.Cloud.{Leaf}
use Rattle.e57_elements.specs.Tree.{Element}
use Rattle.e57_tree.specs.Held.{clouds_of, cloud_fields}
use Rattle.e57_verdict.specs.Content.{Content}
use Rattle.e57_verdict.specs.Things.{Body, records_body, bytes_body}
use Rattle.e57_blocks.specs.Fields.{asked_of}
use Rattle.e57_rows.specs.Rows.{heading_text, row_of, rows_text}
use Rattle.e57_rows.specs.Shown.{show_of}
use Rattle.e57_show.specs.Blob.{HasSoundTree}
use Rattle.e57_show.specs.Extract.{Selection, selected_text, selected_fault}

-- ---- the records of a content

-- those of each cloud among these, in order
abbrev pub records_among : List Body → List (List (List Value))
records_among [] = []
records_among (records_body columns ∷ bodies) = columns ∷ records_among bodies
records_among (bytes_body bytes ∷ bodies) = records_among bodies

-- those of cloud k, a column of items for each field
abbrev pub cloud_records : Content → ℕ → List (List Value)
cloud_records content k = slice_index_or (records_among content.bodies) k []

-- the item of field f of record i; past the last one, which doesn't come, 0
abbrev pub record_item : List (List Value) → ℕ → ℕ → Value
record_item columns i f = slice_index_or (slice_index_or columns f []) i (whole (pos 0))

-- ---- rows

-- the row of the asked fields of record i, of items as they are shown
unfoldable pub record_row : (ℕ → Value → Value) → List (List Value) → List (ℕ × Leaf) → ℕ → Result (List ℕ) Fault
record_row show columns asked i = row_of (λ f leaf. Ok (show f (record_item columns i f))) asked

-- the heading, and the rows of the asked records of cloud k of a content
abbrev pub records_text : Content → ℕ → Selection → List ℕ
records_text content k s =
    heading_text s.fields s.numbers
    ++ rows_text (record_row (show_of s.decimal s.fields) (cloud_records content k) (asked_of s.fields s.numbers)) s.from s.count

-- ---- what is asked

-- The file's tree has this cloud with these fields as its cloud k, the numbers are of its fields, and the records are there.
pub record IsAsked (file : List ℕ) (k : ℕ) (s : Selection) : Type 0 where
  pub tree : Element
  pub has : HasSoundTree file tree
  pub cloud : slice_get (clouds_of tree) k ≡ Some s.cloud
  pub fields : slice_get (cloud_fields tree) k ≡ Some s.fields
  pub numbers : AllByRecursion (λ f. f < length s.fields) s.numbers
  pub range : s.from + s.count ≤ s.cloud.count

-- No asked item has a fault, and what `extract` puts are the rows of the content's records.
pub record ShowsRecords (file : List ℕ) (content : Content) (k : ℕ) (s : Selection) : Type 0 where
  pub sound : selected_fault file s ≡ None
  pub text : selected_text file s ≡ records_text content k s
