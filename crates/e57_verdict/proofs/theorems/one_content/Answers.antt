use Rattle.e57_verdict.proofs.Laws.Verdicts.{some-content, content-accepted, one-content}
use Rattle.e57_verdict.proofs.theorems.one_content.Goals as goal

pub returns-clause-some : goal.returns-clause-some
returns-clause-some c = some-content

pub returns-clause-accepted : goal.returns-clause-accepted
returns-clause-accepted c = content-accepted

pub returns-clause-one : goal.returns-clause-one
returns-clause-one c =
    one-content (record { some = c.one_answer.ensures.some; tree = c.one_answer.ensures.tree; fault = c.one_answer.ensures.fault; either = c.one_answer.ensures.either })
