use Rattle.e57_salvage.proofs.Laws.Sound.{none-lost, sound-lines}
use Rattle.e57_salvage.proofs.theorems.sound_file.Goals as goal

pub returns-clause-lost : goal.returns-clause-lost
returns-clause-lost c file tree is = (none-lost file tree is).0

pub returns-clause-bodies : goal.returns-clause-bodies
returns-clause-bodies c file tree is = (none-lost file tree is).1

pub returns-clause-lines : goal.returns-clause-lines
returns-clause-lines c = sound-lines
