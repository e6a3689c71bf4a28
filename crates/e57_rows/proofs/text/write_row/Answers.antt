use Rattle.std.proofs.Common.{◌+◌, ◌^◌, ◌<◌, map, take, arith, rules}
use Rattle.csv.specs.Writing.{text_written}
use Rattle.e57_rows.specs.Shown.{as_it_is}
use Rattle.e57_rows.specs.Blocks.{cell_at, held_row}
use Rattle.std.proofs.lemmas.Result.{on_ok_weaker}
use Rattle.e57_rows.proofs.Cells.{all_cells, cell_more, few_cells}
use Rattle.e57_rows.proofs.Writing.{row_begins, rows_more}
use Rattle.e57_rows.proofs.text.write_row.Goals as goal

pub loop-j-init : goal.loop-j-init
loop-j-init g c = λ base text at_row. row_begins g.W.Write.contents base text c.args.writer.now at_row

pub loop-j-preserved : goal.loop-j-preserved
loop-j-preserved g c = λ base text at_row.
    let blocks = c.args.blocks.now in
    let first = text_written g.W.Write.contents c.args.writer.now in
    let fits : c.loop-j.j + 1 < 2 ^ 64 = search rules in
    cell_more g.W.Write.contents first blocks c.args.i c.loop-j.j c.index-blocks-j.result c.item.result c.write_item.new.writer c.loop-j-test.true c.index-blocks-j.is c.item.ensures.item c.item.ensures.of_kind
    (c.in_ok-write_item.ensures first (map (cell_at as_it_is c.args.i) (take c.loop-j.j blocks)) (few_cells (cell_at as_it_is c.args.i) blocks c.loop-j.j fits) (c.loop-j.invariant base text at_row))

pub returns : goal.returns
returns g c = λ base text at_row.
    let blocks = c.args.blocks.now in
    let first = text_written g.W.Write.contents c.args.writer.now in
    on_ok_weaker c.end_row.result (λ row. rows_more g.W.Write.contents base text (held_row as_it_is blocks c.args.i) c.args.writer.now c.end_row.new.writer at_row row)
    (c.end_row.ensures first (map (cell_at as_it_is c.args.i) blocks)
    (all_cells g.W.Write.contents first (cell_at as_it_is c.args.i) blocks c.loop-j.j c.loop-j.writer (omega (arith, c.loop-j-test.false)) (c.loop-j.invariant base text at_row)))
