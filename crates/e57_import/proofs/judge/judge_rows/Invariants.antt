use Rattle.std.proofs.Common.{◌≡◌, ◌+◌, length}
use Rattle.e57_import.specs.Columns.{columns_asked}
use Rattle.e57_import.specs.Rows.{rows_fault}
use Rattle.e57_import.specs.Walking.{rows_left, IsAtRow}
use Rattle.e57_import.proofs.judge.judge_rows.Given as goal

abbrev pub invariant-loop-i : goal.invariant-loop-i
invariant-loop-i l = record {
  at : IsAtRow l.reader;
  same : rows_fault (columns_asked l.columns) l.i (rows_left l.reader) ≡ rows_fault (columns_asked l.columns) 0 (rows_left l.fn.reader);
  count : l.i + length (rows_left l.reader) ≡ length (rows_left l.fn.reader);
}
