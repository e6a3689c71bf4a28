use Rattle.std.proofs.Common.{◌+◌, ◌^◌, ◌<◌, map, take, arith, rules}
use Rattle.csv.specs.Writing.{text_written}
use Rattle.e57_rows.specs.Blocks.{cell_at, held_row}
use Rattle.std.proofs.lemmas.Result.{on_ok_weaker}
use Rattle.e57_rows.proofs.Cells.{all_cells, line_more, few_cells}
use Rattle.e57_rows.proofs.Lines.{lines_length, on_row}
use Rattle.e57_rows.proofs.Writing.{row_begins, rows_more}
use Rattle.e57_rows.proofs.shown.write_row.Goals as goal

pub loop-j-init : goal.loop-j-init
loop-j-init g c = λ show shown base text at_row. row_begins g.W.Write.contents base text c.args.writer.now at_row

pub bounds-lines-j : goal.bounds-lines-j
bounds-lines-j g c =
    let below = c.loop-j-test.true in
    let long = lines_length c.args.lines.now c.args.blocks.now c.requires.lines in
    omega (arith, below, long)

pub write_on_line-requires : goal.write_on_line-requires
write_on_line-requires g c =
    on_row c.args.lines.now c.args.blocks.now c.loop-j.j c.index-lines-j.result c.index-blocks-j.result c.item.result _ c.loop-j-test.true c.requires.lines c.index-lines-j.is c.index-blocks-j.is c.item.ensures.item c.item.ensures.kept

pub loop-j-preserved : goal.loop-j-preserved
loop-j-preserved g c = λ show shown base text at_row.
    let blocks = c.args.blocks.now in
    let first = text_written g.W.Write.contents c.args.writer.now in
    let fits : c.loop-j.j + 1 < 2 ^ 64 = search rules in
    line_more g.W.Write.contents first show c.args.lines.now blocks c.args.i c.loop-j.j c.index-lines-j.result c.index-lines-j.result c.index-blocks-j.result c.item.result c.write_on_line.new.writer c.loop-j-test.true shown c.index-lines-j.is c.index-blocks-j.is c.item.ensures.item c.item.ensures.of_kind
    (c.in_ok-write_on_line.ensures first (map (cell_at show c.args.i) (take c.loop-j.j blocks)) (few_cells (cell_at show c.args.i) blocks c.loop-j.j fits) (c.loop-j.invariant show shown base text at_row))

pub returns : goal.returns
returns g c = λ show shown base text at_row.
    let blocks = c.args.blocks.now in
    let first = text_written g.W.Write.contents c.args.writer.now in
    on_ok_weaker c.end_row.result (λ row. rows_more g.W.Write.contents base text (held_row show blocks c.args.i) c.args.writer.now c.end_row.new.writer at_row row)
    (c.end_row.ensures first (map (cell_at show c.args.i) blocks)
    (all_cells g.W.Write.contents first (cell_at show c.args.i) blocks c.loop-j.j c.loop-j.writer (omega (arith, c.loop-j-test.false)) (c.loop-j.invariant show shown base text at_row)))
