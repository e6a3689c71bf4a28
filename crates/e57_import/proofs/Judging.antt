-- Rows judged cell by cell, and row by row.
use Rattle.std.proofs.Common.{◌≡◌, ℕ, suc, zero, ◌+◌, ◌<◌, ◌≤◌, Bool, true, false, List, [], ◌∷◌, length, drop, Option, Some, None, refl, sym, ap, subst, ◌∙◌, arith, cond, get_or}
use Rattle.std.specs.Prelude.{is_some, option_map, not, pos}
use Rattle.std.specs.Option.{option_or}
use Rattle.std.specs.Str.{bytes_eq}
use Rattle.std.proofs.lemmas.List.{drop_more, drop_all}
use Rattle.std.specs.Borrow.{Bor}
use Rattle.csv.specs.Records.{field_at}
use Rattle.csv.specs.declared.reader.Reader.{Reader}
use Rattle.e57_base.specs.declared.fault.AskFault.{AskFault}
use Rattle.e57_base.specs.declared.fault.AskFault.TheVariants.{Header, Width, Cell}
use Rattle.e57_import.specs.declared.columns.ColumnAsk.{ColumnAsk}
use Rattle.e57_import.specs.Cells.{cell_value}
use Rattle.e57_import.specs.declared.columns.ColumnKind.TheVariants as asked
use Rattle.e57_import.specs.Columns.{Column, columns_asked, kind_asked, names_of}
use Rattle.e57_import.specs.Rows.{Row, cells_fault, difference_from, rows_fault, row_fault}
use Rattle.e57_import.specs.Walking.{rows_left, IsAtRow, TakesRow}

-- ---- the cell at a place

pub at_place : (cells : Row) (k : ℕ) (cell : List ℕ) → field_at cells k ≡ Some cell → (k < length cells) × (get_or cells k [] ≡ cell)
unfolding field_at
at_place [] k cell e = absurd (cc e)
at_place (first ∷ rest) zero cell e = (omega arith, some_is first cell e)
  where
    some_is : (x y : List ℕ) → Some x ≡ Some y → x ≡ y
    some_is x y e = cc e
at_place (first ∷ rest) (suc k) cell e = let more = at_place rest k cell e in let less = more.0 in (omega (arith, less), more.1)

pub past_end : (cells : Row) (k : ℕ) → field_at cells k ≡ None → length cells ≤ k
unfolding field_at
past_end [] k e = omega arith
past_end (first ∷ rest) zero e = absurd (cc e)
past_end (first ∷ rest) (suc k) e = let more = past_end rest k e in omega (arith, more)

pub cell_there : (cells : Row) (k : ℕ) (cell : List ℕ) → field_at cells k ≡ Some cell → drop k cells ≡ cell ∷ drop (k + 1) cells
cell_there cells k cell e = let at = at_place cells k cell e in drop_more cells k [] at.0 ∙ ap (λ (x : List ℕ). x ∷ drop (k + 1) cells) at.1

-- ---- the cells of a row

pub cell_passes : (i k : ℕ) (columns rest : List ColumnAsk) (column : ColumnAsk) (cells more : Row) (cell : List ℕ) → columns ≡ column ∷ rest → cells ≡ cell ∷ more
    → is_some (cell_value (kind_asked column.kind) cell) ≡ true → cells_fault i k (columns_asked columns) cells ≡ cells_fault i (k + 1) (columns_asked rest) more
unfolding cells_fault
cell_passes i k columns rest column cells more cell e f is = rw (e, f, is) refl

pub cell_fails : (i k : ℕ) (columns rest : List ColumnAsk) (column : ColumnAsk) (cells more : Row) (cell : List ℕ) → columns ≡ column ∷ rest → cells ≡ cell ∷ more
    → is_some (cell_value (kind_asked column.kind) cell) ≡ false → cells_fault i k (columns_asked columns) cells ≡ Some (Cell i k)
unfolding cells_fault
cell_fails i k columns rest column cells more cell e f is = rw (e, f, is) refl

pub no_cell : (i k : ℕ) (columns rest : List ColumnAsk) (column : ColumnAsk) (cells : Row) → columns ≡ column ∷ rest → cells ≡ [] → cells_fault i k (columns_asked columns) cells ≡ None
unfolding cells_fault
no_cell i k columns rest column cells e f = rw (e, f) refl

pub no_column : (i k : ℕ) (columns : List ColumnAsk) (cells : Row) → columns ≡ [] → cells_fault i k (columns_asked columns) cells ≡ None
unfolding cells_fault
no_column i k columns cells e = rw e refl

-- ---- the cells of the first row

pub name_passes : (k : ℕ) (columns rest : List ColumnAsk) (column : ColumnAsk) (cells more : Row) (cell : List ℕ) → columns ≡ column ∷ rest → cells ≡ cell ∷ more
    → bytes_eq column.name.now cell ≡ true → difference_from k (names_of (columns_asked columns)) cells ≡ difference_from (k + 1) (names_of (columns_asked rest)) more
unfolding difference_from
name_passes k columns rest column cells more cell e f is = rw (e, f, is) refl

pub name_differs : (k : ℕ) (columns rest : List ColumnAsk) (column : ColumnAsk) (cells more : Row) (cell : List ℕ) → columns ≡ column ∷ rest → cells ≡ cell ∷ more
    → bytes_eq column.name.now cell ≡ false → difference_from k (names_of (columns_asked columns)) cells ≡ Some k
unfolding difference_from
name_differs k columns rest column cells more cell e f is = rw (e, f, is) refl

pub name_absent : (k : ℕ) (columns rest : List ColumnAsk) (column : ColumnAsk) (cells : Row) → columns ≡ column ∷ rest → cells ≡ [] → difference_from k (names_of (columns_asked columns)) cells ≡ Some k
unfolding difference_from
name_absent k columns rest column cells e f = rw (e, f) refl

pub cell_over : (k : ℕ) (columns : List ColumnAsk) (cells more : Row) (cell : List ℕ) → columns ≡ [] → cells ≡ cell ∷ more → difference_from k (names_of (columns_asked columns)) cells ≡ Some k
unfolding difference_from
cell_over k columns cells more cell e f = rw (e, f) refl

pub none_left : (k : ℕ) (columns : List ColumnAsk) (cells : Row) → columns ≡ [] → cells ≡ [] → difference_from k (names_of (columns_asked columns)) cells ≡ None
unfolding difference_from
none_left k columns cells e f = rw (e, f) refl

-- ---- the column at a place

-- what stands past the end, which doesn't come
abbrev pub no_ask : ColumnAsk
no_ask = record { name = record { ref_ptr = (0, 0); now = [] }; kind = asked.Int (pos 0) (pos 0) }

abbrev pub ask_at : List ColumnAsk → ℕ → ColumnAsk
ask_at columns k = get_or columns k no_ask

pub same_name : (column : ColumnAsk) (name cell : List ℕ) → name ≡ column.name.now → not (bytes_eq name cell) ≡ false → bytes_eq column.name.now cell ≡ true
same_name column name cell is same = subst (λ (x : List ℕ). bytes_eq x cell ≡ true) is (by (bytes_eq name cell) same)
  where
    by : (b : Bool) → not b ≡ false → b ≡ true
    by true e = refl
    by false e = absurd (cc e)

pub other_name : (column : ColumnAsk) (name cell : List ℕ) → name ≡ column.name.now → not (bytes_eq name cell) ≡ true → bytes_eq column.name.now cell ≡ false
other_name column name cell is differs = subst (λ (x : List ℕ). bytes_eq x cell ≡ false) is (by (bytes_eq name cell) differs)
  where
    by : (b : Bool) → not b ≡ true → b ≡ false
    by true e = absurd (cc e)
    by false e = refl

-- ---- rows

-- one row without a fault
pub row_passes : (columns : List Column) (i : ℕ) (rows rest : List Row) (row : Row) → rows ≡ row ∷ rest → row_fault columns i row ≡ None → rows_fault columns i rows ≡ rows_fault columns (i + 1) rest
unfolding rows_fault
row_passes columns i rows rest row e none = rw (e, none) refl

pub row_fails : (columns : List Column) (i : ℕ) (rows rest : List Row) (row : Row) (why : AskFault) → rows ≡ row ∷ rest → row_fault columns i row ≡ Some why → rows_fault columns i rows ≡ Some why
unfolding rows_fault
row_fails columns i rows rest row why e some = rw (e, some) refl

pub no_rows : (columns : List Column) (i : ℕ) (rows : List Row) → rows ≡ [] → rows_fault columns i rows ≡ None
unfolding rows_fault
no_rows columns i rows e = rw e refl

-- no first row
pub no_header : (columns : List ColumnAsk) → 0 < length columns → option_map (λ k. Header k 0) (difference_from 0 (names_of (columns_asked columns)) []) ≡ Some (Header 0 0)
unfolding difference_from
no_header [] some = absurd (omega arith)
no_header (column ∷ columns) some = refl

-- ---- what was read

pub took_none : (found : Bool) (cells : Row) (old new : Reader (Bor (List ℕ))) → found ≡ false → TakesRow found cells old new → rows_left old ≡ []
took_none false cells old new is took = took
took_none true cells old new is took = absurd (cc is)

pub took_row : (found : Bool) (cells : Row) (old new : Reader (Bor (List ℕ))) → found ≡ true → TakesRow found cells old new → IsAtRow new × (rows_left old ≡ cells ∷ rows_left new)
took_row true cells old new is took = took
took_row false cells old new is took = absurd (cc is)
