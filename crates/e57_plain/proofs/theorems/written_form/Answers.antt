use Rattle.e57_plain.proofs.Laws.Whole.{plain-content, plain-accepted, plain-determines}
use Rattle.e57_plain.proofs.theorems.written_form.Goals as goal

pub returns-clause-content : goal.returns-clause-content
returns-clause-content c = plain-content c.spelling_spells.ensures

pub returns-clause-accepted : goal.returns-clause-accepted
returns-clause-accepted c = plain-accepted c.spelling_spells.ensures

pub returns-clause-determines : goal.returns-clause-determines
returns-clause-determines c =
    plain-determines c.spelling_spells.ensures
    (record { some = c.one_answer.ensures.some; tree = c.one_answer.ensures.tree; fault = c.one_answer.ensures.fault; either = c.one_answer.ensures.either })
