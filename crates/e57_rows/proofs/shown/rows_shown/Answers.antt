use Rattle.e57_rows.proofs.Lines.{plain_text}
use Rattle.e57_rows.proofs.shown.rows_shown.Goals as goal

pub returns-else-numbers : goal.returns-else-numbers
returns-else-numbers c = λ show shown. plain_text show c.args.lines.now c.args.blocks.now c.args.i c.args.n _ c.rows_of.result shown (c.requires.none c.if-numbers.false) c.rows_of.ensures
