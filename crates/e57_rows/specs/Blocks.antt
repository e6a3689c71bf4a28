-- The rows of records that blocks of the asked fields hold.
use Rattle.std.specs.Prelude.{ℕ, zero, suc, ◌+◌, ◌-◌, List, [], ◌++◌, map}
use Rattle.e57_layout.specs.Values.{Value}
use Rattle.e57_column.specs.Column.{kind_of}
use Rattle.e57_blocks.specs.Block.{Block, held_item}
use Rattle.e57_rows.specs.Cells.{cell, csv_row}

-- the cell of record i, of the item as it is shown
abbrev pub cell_at : (ℕ → Value → Value) → ℕ → Block → List ℕ
cell_at show i b = cell (kind_of b.column.items) (show b.column.stream.field (held_item b (i - b.first)))

-- the row of record i
abbrev pub held_row : (ℕ → Value → Value) → List Block → ℕ → List ℕ
held_row show blocks i = csv_row (map (cell_at show i) blocks)

-- the rows of the n records from record i on
unfoldable pub held_rows : (ℕ → Value → Value) → List Block → ℕ → ℕ → List ℕ
held_rows show blocks i zero = []
held_rows show blocks i (suc n) = held_row show blocks i ++ held_rows show blocks (i + 1) n
