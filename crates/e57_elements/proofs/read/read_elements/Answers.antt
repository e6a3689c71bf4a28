use Rattle.e57_elements.proofs.Reached.{body_shorter}
use Rattle.e57_elements.proofs.read.read_elements.Goals as goal

pub read_pieces-requires : goal.read_pieces-requires
read_pieces-requires c = body_shorter c.args.text.now c.in_ok-pieces.pieces c.in_ok-pieces.ensures.begins
