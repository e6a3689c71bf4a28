use Rattle.std.proofs.Common.{sym}
use Rattle.e57_pieces.proofs.Fronts.{plain_to}
use Rattle.e57_pieces.proofs.text.split_plain.Goals as goal

pub returns-clause-front : goal.returns-clause-front
returns-clause-front c = rw (c.split_at.ensures.front, c.unwrap_or-place.ensures) (sym (plain_to c.args.quote c.args.text.now c.memchr3.result c.memchr3.ensures).0)

pub returns-clause-rest : goal.returns-clause-rest
returns-clause-rest c = rw (c.split_at.ensures.back, c.unwrap_or-place.ensures) (sym (plain_to c.args.quote c.args.text.now c.memchr3.result c.memchr3.ensures).1)
