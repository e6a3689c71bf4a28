use Rattle.std.proofs.Common.{◌≡◌, ◌∙◌, ap, List, ℕ}
use Rattle.e57_import.specs.Columns.{columns_asked}
use Rattle.e57_import.specs.Rows.{Row, first_row, header_fault}
use Rattle.e57_import.proofs.Judging.{no_header, took_none}
use Rattle.e57_import.proofs.judge.judge_header.Goals as goal

pub returns-in-Ok-false : goal.returns-in-Ok-false
returns-in-Ok-false c =
    let none = took_none c.in-Ok-false.field-0 _ c.args.reader.now c.next_row.new.reader c.in-Ok-false.field-0-test c.in-Ok-false.ensures in
    ap (λ (rows : List Row). header_fault (columns_asked c.args.columns.now) (first_row rows)) none ∙ no_header c.args.columns.now c.requires.some
