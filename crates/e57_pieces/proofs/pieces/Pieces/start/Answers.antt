use Rattle.e57_pieces.proofs.Laws.Start.{after_mark_le, body_is}
use Rattle.e57_pieces.proofs.pieces.Pieces.start.Goals as goal

pub overflow_sub-place : goal.overflow_sub-place
overflow_sub-place c = rw c.skip_mark.ensures (after_mark_le c.args.text.now)

pub returns-in-Ok-clause-exact : goal.returns-in-Ok-clause-exact
returns-in-Ok-clause-exact c = body_is c.args.text.now c.in-Ok.text.now c.requires c.in-Ok.ensures.0
