use Rattle.e57_pieces.proofs.Laws.Cut.{some_cut, one_cut}
use Rattle.e57_pieces.proofs.theorems.one_cut.Goals as goal

pub returns-clause-some : goal.returns-clause-some
returns-clause-some c = λ text utf8. let has = some_cut text utf8 in (has.pieces, has.rest, has.is_cut)

pub returns-clause-one : goal.returns-clause-one
returns-clause-one c = λ text utf8 xs ys r s a b. one_cut xs ys text r s utf8 a b
