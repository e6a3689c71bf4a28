use Rattle.e57_pieces.proofs.Loops.{none_of_empty, none_of_other}
use Rattle.e57_pieces.proofs.text.reference.Goals as goal

pub returns-in_default : goal.returns-in_default
returns-in_default c = none_of_empty c.args.text.now c.in_default.len_below

pub returns-then-first-ne38 : goal.returns-then-first-ne38
returns-then-first-ne38 c = none_of_other c.args.text.now c.if-first-ne38.true
