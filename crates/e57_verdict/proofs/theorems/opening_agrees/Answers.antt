use Rattle.e57_verdict.proofs.Laws.Opening.{before-opening, before-section}
use Rattle.e57_verdict.proofs.theorems.opening_agrees.Goals as goal

pub returns-clause-opening : goal.returns-clause-opening
returns-clause-opening c = before-opening

pub returns-clause-section : goal.returns-clause-section
returns-clause-section c = before-section
