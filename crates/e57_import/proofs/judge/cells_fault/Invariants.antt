use Rattle.std.proofs.Common.{◌≡◌, drop}
use Rattle.csv.specs.Records.{fields_of}
use Rattle.e57_import.specs.Columns.{columns_asked}
use Rattle.e57_import.specs.Rows.{cells_fault}
use Rattle.e57_import.proofs.judge.cells_fault.Given as goal

abbrev pub invariant-loop-k : goal.invariant-loop-k
invariant-loop-k l = cells_fault l.i l.k (columns_asked (drop l.k l.columns)) (drop l.k (fields_of l.row)) ≡ cells_fault l.i 0 (columns_asked l.columns) (fields_of l.row)
