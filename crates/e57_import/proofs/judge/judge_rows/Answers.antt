use Rattle.std.proofs.Common.{◌≡◌, ◌+◌, ◌∙◌, sym, ap, length, List, arith}
use Rattle.e57_import.specs.Columns.{columns_asked}
use Rattle.e57_import.specs.Rows.{Row}
use Rattle.e57_import.specs.Walking.{rows_left}
use Rattle.e57_import.proofs.Judging.{no_rows, row_fails, row_passes, took_none, took_row}
use Rattle.e57_import.proofs.judge.judge_rows.Goals as goal

pub returns-in-Ok-false : goal.returns-in-Ok-false
returns-in-Ok-false c =
    let none = took_none c.in-Ok-false.field-0 _ c.loop-i.reader c.next_row.new.reader c.in-Ok-false.field-0-test c.in-Ok-false.ensures in
    let long = ap (λ (rows : List Row). length rows) none in
    let count = c.loop-i.invariant.count in (
      sym c.loop-i.invariant.same ∙ no_rows (columns_asked c.args.columns.now) c.loop-i.i (rows_left c.loop-i.reader) none,
      omega (arith, long, count),
    )

pub returns-in-Some : goal.returns-in-Some
returns-in-Some c =
    let row = took_row c.in-Ok-true.field-0 _ c.loop-i.reader c.next_row.new.reader c.in-Ok-true.field-0-test c.in-Ok-true.ensures in
    sym c.loop-i.invariant.same ∙ row_fails (columns_asked c.args.columns.now) c.loop-i.i (rows_left c.loop-i.reader) (rows_left c.next_row.new.reader) _ c.in-Some.fault row.1 (sym c.in-Some.ensures)

pub loop-i-preserved : goal.loop-i-preserved
loop-i-preserved c =
    let row = took_row c.in-Ok-true.field-0 _ c.loop-i.reader c.next_row.new.reader c.in-Ok-true.field-0-test c.in-Ok-true.ensures in
    let long = ap (λ (rows : List Row). length rows) row.1 in
    let count = c.loop-i.invariant.count in
    record {
      at = row.0;
      same = sym (row_passes (columns_asked c.args.columns.now) c.loop-i.i (rows_left c.loop-i.reader) (rows_left c.next_row.new.reader) _ row.1 (sym c.row_fault.ensures ∙ c.in_default.is)) ∙ c.loop-i.invariant.same;
      count = omega (arith, long, count);
    }
