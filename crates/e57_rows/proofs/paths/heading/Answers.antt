use Rattle.std.proofs.Common.{refl, Some}
use Rattle.e57_rows.specs.Rows.{heading_text}
use Rattle.e57_rows.proofs.Writing.{whole_text}
use Rattle.e57_rows.proofs.paths.heading.Goals as goal

pub returns-in-Ok : goal.returns-in-Ok
returns-in-Ok c =
    let from = c.from_writer-writer.ensures in
    whole_text (λ v. Some v.items) c.from_writer-writer.result c.write_paths.new.writer c.in-Ok.text.items (heading_text c.args.fields.now c.args.asked.now) from.cfg from.fields from.wrote (rw (from.wtr, from.empty, c.new.ensures.items) refl) (λ base at_row. c.in_ok-write_paths.ensures base at_row) c.in-Ok.ensures.ok
