use Rattle.std.proofs.Common.{◌≡◌, get_or, true, arith, sym}
use Rattle.e57_pieces.specs.Words.{begins_name}
use Rattle.e57_pieces.proofs.Fronts.{name_is}
use Rattle.e57_pieces.proofs.words.name.Goals as goal

pub returns : goal.returns
returns c =
    let holds : begins_name (get_or c.args.text.now 0 0) ≡ true = cc in
    rw (c.split_front.ensures.front, c.split_front.ensures.rest) (sym (name_is c.args.text.now (omega arith) holds))
