use Rattle.std.proofs.Common.{refl, Some}
use Rattle.e57_rows.specs.Shown.{as_it_is}
use Rattle.e57_rows.specs.Blocks.{held_rows}
use Rattle.e57_rows.proofs.Writing.{whole_text}
use Rattle.e57_rows.proofs.text.rows_of.Goals as goal

pub returns-in-Ok : goal.returns-in-Ok
returns-in-Ok c =
    let from = c.from_writer-writer.ensures in
    whole_text (λ v. Some v.items) c.from_writer-writer.result c.write_rows.new.writer c.in-Ok.text.items (held_rows as_it_is c.args.blocks.now c.args.i c.args.n) from.cfg from.fields from.wrote (rw (from.wtr, from.empty, c.clear.ensures.items) refl) (λ base at_row. c.in_ok-write_rows.ensures base at_row) c.in-Ok.ensures.ok
