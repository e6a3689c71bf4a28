use Rattle.e57_pieces.proofs.Fronts.{strip_is}
use Rattle.e57_pieces.proofs.words.after_word.Goals as goal

pub returns : goal.returns
returns c = strip_is c.args.word.now c.args.text.now c.strip_prefix.result c.strip_prefix.ensures.cases
