use Rattle.std.proofs.Common.{ℕ, ◌+◌, ◌^◌, ◌<◌, map, take, arith, rules}
use Rattle.e57_blocks.specs.Fields.{field_at}
use Rattle.e57_rows.proofs.Cells.{all_cells, few_cells, path_more}
use Rattle.e57_rows.proofs.Writing.{row_first}
use Rattle.e57_rows.proofs.paths.write_paths.Goals as goal

pub loop-k-init : goal.loop-k-init
loop-k-init g c = λ base at_row. row_first g.W.Write.contents base c.args.writer.now at_row

pub loop-k-preserved : goal.loop-k-preserved
loop-k-preserved g c = λ base at_row.
    let fields = c.args.fields.now in
    let asked = c.args.asked.now in
    let k = c.loop-k.k in
    let fits : c.loop-k.k + 1 < 2 ^ 64 = search rules in
    path_more g.W.Write.contents base fields asked k c.index-fields-asked.result c.as_slice.result.now c.write_text.new.writer c.loop-k-test.true c.requires c.as_slice.ensures
    (c.in_ok-write_text.ensures base (map (λ (f : ℕ). (field_at fields f).path) (take k asked)) (few_cells (λ (f : ℕ). (field_at fields f).path) asked k fits) (c.loop-k.invariant base at_row))

pub returns : goal.returns
returns g c = λ base at_row.
    let fields = c.args.fields.now in
    c.end_row.ensures base (map (λ (f : ℕ). (field_at fields f).path) c.args.asked.now)
    (all_cells g.W.Write.contents base (λ (f : ℕ). (field_at fields f).path) c.args.asked.now c.loop-k.k c.loop-k.writer (omega (arith, c.loop-k-test.false)) (c.loop-k.invariant base at_row))
