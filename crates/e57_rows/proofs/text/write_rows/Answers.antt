use Rattle.e57_rows.specs.Shown.{as_it_is}
use Rattle.e57_rows.specs.Blocks.{held_rows}
use Rattle.e57_rows.proofs.Held.{all_records, rows_last}
use Rattle.e57_rows.proofs.text.write_rows.Goals as goal

pub loop-k-init : goal.loop-k-init
unfolding held_rows
loop-k-init g c = λ base at_row. at_row

pub write_row-requires : goal.write_row-requires
write_row-requires g c = record { have = all_records c.args.i c.args.n c.loop-k.k c.args.blocks.now c.loop-k-test.true c.requires.have }

pub loop-k-preserved : goal.loop-k-preserved
loop-k-preserved g c = λ base at_row. rw (rows_last as_it_is c.args.blocks.now c.args.i c.loop-k.k) (c.in_ok-write_row.ensures base (held_rows as_it_is c.args.blocks.now c.args.i c.loop-k.k) (c.loop-k.invariant base at_row))
