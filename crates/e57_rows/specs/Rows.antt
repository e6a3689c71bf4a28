-- The rows of some records: of each the items of the asked fields, in the asked order.
use Rattle.std.specs.Prelude.{ℕ, zero, suc, ◌+◌, List, [], ◌∷◌, ◌++◌, map, Option, Some, None, Result, Ok, Err}
use Rattle.e57_base.specs.declared.fault.Fault.{Fault}
use Rattle.e57_layout.specs.declared.field.Field.{Field}
use Rattle.e57_layout.specs.declared.field.Fixed.{Fixed}
use Rattle.e57_layout.specs.declared.section.Section.{Section}
use Rattle.e57_layout.specs.Values.{Value}
use Rattle.e57_cloud.specs.Cloud.{Leaf}
use Rattle.e57_cloud.specs.PathItem.{and_then, item_of}
use Rattle.e57_blocks.specs.Fields.{field_at}
use Rattle.e57_rows.specs.Cells.{cell, csv_row}

-- ---- the asked fields

-- the row of their paths
abbrev pub heading_text : List Field → List ℕ → List ℕ
heading_text fields numbers = csv_row (map (λ (f : ℕ). (field_at fields f).path) numbers)

-- ---- one record

-- the cells of the asked fields, or the first fault of them, where each has an item or a fault
unfoldable pub cells_of : (ℕ → Leaf → Result Value Fault) → List (ℕ × Leaf) → Result (List (List ℕ)) Fault
cells_of item [] = Ok []
cells_of item ((f, leaf) ∷ asked) = and_then (item f leaf) (λ v. and_then (cells_of item asked) (λ cells. Ok (cell leaf.kind v ∷ cells)))

-- the row of the asked fields, or the first fault of them
abbrev pub row_of : (ℕ → Leaf → Result Value Fault) → List (ℕ × Leaf) → Result (List ℕ) Fault
row_of item asked = and_then (cells_of item asked) (λ cells. Ok (csv_row cells))

-- the item of field f as it is shown, or its fault
abbrev pub shown : (ℕ → Value → Value) → ℕ → Result Value Fault → Result Value Fault
shown show f (Ok v) = Ok (show f v)
shown show f (Err found) = Err found

-- the row of record i of a section, of items as they are shown
unfoldable pub shown_row : (ℕ → Value → Value) → List ℕ → Section → Option Fixed → List (ℕ × Leaf) → ℕ → Result (List ℕ) Fault
shown_row show file s fixed asked i = row_of (λ f leaf. shown show f (item_of file s fixed f leaf i)) asked

-- the row of record i of a section, of items as they are
unfoldable pub section_row : List ℕ → Section → Option Fixed → List (ℕ × Leaf) → ℕ → Result (List ℕ) Fault
section_row file s fixed asked i = row_of (λ f leaf. item_of file s fixed f leaf i) asked

-- ---- records one after another, where each has a row or a fault

abbrev pub text_before : Result (List ℕ) Fault → List ℕ → List ℕ
text_before (Ok text) rest = text ++ rest
text_before (Err found) rest = []

-- the rows of the n records from record i on, up to the first record with a fault
unfoldable pub rows_text : (ℕ → Result (List ℕ) Fault) → ℕ → ℕ → List ℕ
rows_text row i zero = []
rows_text row i (suc n) = text_before (row i) (rows_text row (i + 1) n)

abbrev pub fault_before : Result (List ℕ) Fault → Option Fault → Option Fault
fault_before (Ok text) later = later
fault_before (Err found) later = Some found

-- the fault of the first of these records that has one
unfoldable pub rows_fault : (ℕ → Result (List ℕ) Fault) → ℕ → ℕ → Option Fault
rows_fault row i zero = None
rows_fault row i (suc n) = fault_before (row i) (rows_fault row (i + 1) n)
