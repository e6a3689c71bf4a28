-- The rows of a text, and why they aren't rows of the columns that are asked for.
use Rattle.std.specs.Prelude.{ℕ, ◌+◌, ◌==◌, List, [], ◌∷◌, length, drop, Option, Some, None, option_map, is_some, if◌then◌else◌}
use Rattle.std.specs.Option.{option_or}
use Rattle.std.specs.Str.{bytes_eq}
use Rattle.csv.specs.Reading.{default_config, records, strip_bom}
use Rattle.e57_base.specs.declared.fault.AskFault.{AskFault}
use Rattle.e57_base.specs.declared.fault.AskFault.TheVariants.{Header, Width, Cell}
use Rattle.e57_import.specs.Cells.{cell_value}
use Rattle.e57_import.specs.Columns.{Column, names_of}

-- a row is its cells
abbrev pub Row : Type 0
Row = List (List ℕ)

-- the rows of a text of comma-separated values, without a byte order mark in front
abbrev pub rows_of : List ℕ → List Row
rows_of text = records default_config (strip_bom text)

-- the first one; no cells where there is no row
abbrev pub first_row : List Row → Row
first_row [] = []
first_row (row ∷ rows) = row

-- those behind it
abbrev pub later_rows : List Row → List Row
later_rows rows = drop 1 rows

-- ---- the first row

-- the number of the first column whose name differs, or that is absent in one, where the first one has number k
unfoldable pub difference_from : ℕ → List (List ℕ) → Row → Option ℕ
difference_from k [] [] = None
difference_from k [] (cell ∷ cells) = Some k
difference_from k (name ∷ names) [] = Some k
difference_from k (name ∷ names) (cell ∷ cells) = if bytes_eq name cell then difference_from (k + 1) names cells else Some k

-- the first row isn't the list of names
abbrev pub header_fault : List Column → Row → Option AskFault
header_fault columns row = option_map (λ k. Header k (length row)) (difference_from 0 (names_of columns) row)

-- ---- the rows behind it

-- The first cell of row i that isn't of its column's form, where the first of these columns has number k. The columns are as
-- many as the cells.
unfoldable pub cells_fault : ℕ → ℕ → List Column → Row → Option AskFault
cells_fault i k [] cells = None
cells_fault i k (column ∷ columns) [] = None
cells_fault i k (column ∷ columns) (cell ∷ cells) =
    if is_some (cell_value column.kind cell) then cells_fault i (k + 1) columns cells else Some (Cell i k)

-- row i has another number of cells, or such a cell
unfoldable pub row_fault : List Column → ℕ → Row → Option AskFault
row_fault columns i row = if length row == length columns then cells_fault i 0 columns row else Some (Width i (length row))

-- the fault of the first row that has one, where the first of these rows has number i
unfoldable pub rows_fault : List Column → ℕ → List Row → Option AskFault
rows_fault columns i [] = None
rows_fault columns i (row ∷ rows) = option_or (row_fault columns i row) (rows_fault columns (i + 1) rows)

-- ---- the text

-- its first row, and then the others in their order
abbrev pub text_fault : List Column → List ℕ → Option AskFault
text_fault columns text = option_or (header_fault columns (first_row (rows_of text))) (rows_fault columns 0 (later_rows (rows_of text)))
