use Rattle.std.proofs.Common.{◌+◌, ◌∙◌, sym, drop}
use Rattle.csv.specs.Records.{fields_of}
use Rattle.std.proofs.lemmas.List.{drop_more, drop_all}
use Rattle.e57_import.proofs.Judging.{ask_at, cell_there, cell_passes, cell_fails, no_ask, no_cell, no_column, past_end}
use Rattle.e57_import.proofs.judge.cells_fault.Goals as goal

pub returns-in_err-cell : goal.returns-in_err-cell
returns-in_err-cell c =
    let column = drop_more c.args.columns.now c.loop-k.k no_ask c.loop-k-test.true in
    let none = past_end (fields_of c.args.row.now) c.loop-k.k (sym c.in_err-cell.ensures.value) in
    c.from_residual.ensures
    ∙ sym (no_cell c.args.i c.loop-k.k (drop c.loop-k.k c.args.columns.now) (drop (c.loop-k.k + 1) c.args.columns.now) (ask_at c.args.columns.now c.loop-k.k) (drop c.loop-k.k (fields_of c.args.row.now)) column
    (drop_all c.loop-k.k (fields_of c.args.row.now) none))
    ∙ c.loop-k.invariant

pub returns-then-not-is_of_kind : goal.returns-then-not-is_of_kind
returns-then-not-is_of_kind c =
    let column = drop_more c.args.columns.now c.loop-k.k no_ask c.loop-k-test.true in
    let cell = cell_there (fields_of c.args.row.now) c.loop-k.k c.in_ok-cell.cell.now (sym c.in_ok-cell.ensures.value) in
    sym (cell_fails c.args.i c.loop-k.k (drop c.loop-k.k c.args.columns.now) (drop (c.loop-k.k + 1) c.args.columns.now) (ask_at c.args.columns.now c.loop-k.k) (drop c.loop-k.k (fields_of c.args.row.now))
    (drop (c.loop-k.k + 1) (fields_of c.args.row.now)) c.in_ok-cell.cell.now column cell (sym c.is_of_kind.ensures ∙ c.if-not-is_of_kind.true))
    ∙ c.loop-k.invariant

pub loop-k-preserved : goal.loop-k-preserved
loop-k-preserved c =
    let column = drop_more c.args.columns.now c.loop-k.k no_ask c.loop-k-test.true in
    let cell = cell_there (fields_of c.args.row.now) c.loop-k.k c.in_ok-cell.cell.now (sym c.in_ok-cell.ensures.value) in
    sym (cell_passes c.args.i c.loop-k.k (drop c.loop-k.k c.args.columns.now) (drop (c.loop-k.k + 1) c.args.columns.now) (ask_at c.args.columns.now c.loop-k.k) (drop c.loop-k.k (fields_of c.args.row.now))
    (drop (c.loop-k.k + 1) (fields_of c.args.row.now)) c.in_ok-cell.cell.now column cell (sym c.is_of_kind.ensures ∙ c.if-not-is_of_kind.false))
    ∙ c.loop-k.invariant

pub returns : goal.returns
returns c =
    sym (no_column c.args.i c.loop-k.k (drop c.loop-k.k c.args.columns.now) (drop c.loop-k.k (fields_of c.args.row.now)) (drop_all c.loop-k.k c.args.columns.now c.loop-k-test.false))
    ∙ c.loop-k.invariant
