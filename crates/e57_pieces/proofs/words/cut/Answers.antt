use Rattle.std.proofs.Common.{Some, None}
use Rattle.std.proofs.lemmas.List.{drop-drop}
use Rattle.e57_pieces.proofs.Fronts.{cut_is}
use Rattle.e57_pieces.proofs.words.cut.Goals as goal

pub returns-in_default : goal.returns-in_default
returns-in_default c = cut_is c.args.word.now c.args.text.now None c.requires c.in_default.ensures

pub returns : goal.returns
returns c = rw (c.split_at.ensures.front, c.split_at-2.ensures.back, c.split_at.ensures.back, drop-drop) (cut_is c.args.word.now c.args.text.now (Some c.in-Some.place) c.requires c.in-Some.ensures)
