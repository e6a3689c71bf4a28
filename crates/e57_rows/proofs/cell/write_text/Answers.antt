use Rattle.e57_rows.proofs.Writing.{text_more}
use Rattle.e57_rows.proofs.cell.write_text.Goals as goal

pub returns-in-Ok : goal.returns-in-Ok
returns-in-Ok g c = λ base cells few row.
    let wrote = c.in-Ok.ensures in
    text_more g.W.Write.contents c.args.writer.now c.write_field.new.self c.args.text.now wrote.text wrote.same wrote.count wrote.wrote wrote.stays base cells few row
