use Rattle.e57_spans.proofs.Laws.Sound.{none-is-lost, all-kept, all-saved}
use Rattle.e57_spans.proofs.theorems.sound_cloud.Goals as goal

pub returns-clause-lost : goal.returns-clause-lost
returns-clause-lost c = none-is-lost

pub returns-clause-kept : goal.returns-clause-kept
returns-clause-kept c = all-kept

pub returns-clause-saved : goal.returns-clause-saved
returns-clause-saved c = all-saved
