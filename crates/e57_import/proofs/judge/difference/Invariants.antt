use Rattle.std.proofs.Common.{◌≡◌, ◌≤◌, drop, length}
use Rattle.csv.specs.Records.{fields_of}
use Rattle.e57_import.specs.Columns.{columns_asked, names_of}
use Rattle.e57_import.specs.Rows.{difference_from}
use Rattle.e57_import.proofs.judge.difference.Given as goal

abbrev pub invariant-loop-k : goal.invariant-loop-k
invariant-loop-k l = record {
  same : difference_from l.k (names_of (columns_asked (drop l.k l.columns))) (drop l.k (fields_of l.row)) ≡ difference_from 0 (names_of (columns_asked l.columns)) (fields_of l.row);
  there : l.k ≤ length (fields_of l.row);
}
