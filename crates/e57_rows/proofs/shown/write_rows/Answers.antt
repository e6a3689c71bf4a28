use Rattle.std.proofs.Common.{◌≡◌, subst, arith}
use Rattle.e57_rows.specs.Blocks.{held_rows}
use Rattle.e57_rows.specs.Writing.{AtRow}
use Rattle.e57_rows.proofs.Held.{all_records, rows_last}
use Rattle.e57_rows.proofs.shown.write_rows.Goals as goal

pub loop-k-init : goal.loop-k-init
unfolding held_rows
loop-k-init g c = λ show shown base at_row. at_row

pub write_row-requires-clause-have : goal.write_row-requires-clause-have
write_row-requires-clause-have g c = all_records c.args.i c.args.n c.loop-k.k c.args.blocks.now c.loop-k-test.true c.requires.have

pub loop-k-preserved : goal.loop-k-preserved
loop-k-preserved g c = λ show shown base at_row.
    rw (rows_last show c.args.blocks.now c.args.i c.loop-k.k) (c.in_ok-write_row.ensures show shown base (held_rows show c.args.blocks.now c.args.i c.loop-k.k) (c.loop-k.invariant show shown base at_row))

pub returns : goal.returns
returns g c = λ show shown base at_row.
    let past = c.loop-k-test.false in
    let far = c.loop-k.far-k in
    let same : c.loop-k.k ≡ c.args.n = omega (arith, past, far) in
    subst (λ k. AtRow g.W.Write.contents base (held_rows show c.args.blocks.now c.args.i k) c.loop-k.writer) same (c.loop-k.invariant show shown base at_row)
