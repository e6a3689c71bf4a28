use Rattle.e57_verdict.proofs.Laws.Verdicts.{some-verdict, one-verdict}
use Rattle.e57_verdict.proofs.theorems.one_verdict.Goals as goal

pub returns-clause-some : goal.returns-clause-some
returns-clause-some c =
    some-verdict (record { some = c.one_answer.ensures.some; tree = c.one_answer.ensures.tree; fault = c.one_answer.ensures.fault; either = c.one_answer.ensures.either })

pub returns-clause-one : goal.returns-clause-one
returns-clause-one c =
    one-verdict (record { some = c.one_answer.ensures.some; tree = c.one_answer.ensures.tree; fault = c.one_answer.ensures.fault; either = c.one_answer.ensures.either })
