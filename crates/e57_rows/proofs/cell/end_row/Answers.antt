use Rattle.e57_rows.proofs.Writing.{row_ends}
use Rattle.e57_rows.proofs.cell.end_row.Goals as goal

pub returns-in-Ok : goal.returns-in-Ok
returns-in-Ok g c = λ base cells row.
    let ends = c.in-Ok.ensures in
    row_ends g.W.Write.contents c.args.writer.now c.end_record.new.self ends.bytes ends.fields ends.wrote ends.same base cells row
