use Rattle.e57_elements.proofs.OneAnswer.{one_spelled, one_first_fault, never_both}
use Rattle.e57_elements.proofs.SomeAnswer.{some_answer}
use Rattle.e57_elements.proofs.read.one_answer.Goals as goal

pub returns-clause-some : goal.returns-clause-some
returns-clause-some c = some_answer

pub returns-clause-tree : goal.returns-clause-tree
returns-clause-tree c = one_spelled

pub returns-clause-fault : goal.returns-clause-fault
returns-clause-fault c = one_first_fault

pub returns-clause-either : goal.returns-clause-either
returns-clause-either c = never_both
