use Rattle.e57_plain.proofs.Laws.Tight.{tight-valid, tight-twice}
use Rattle.e57_plain.proofs.theorems.narrow_limits.Goals as goal

pub returns-clause-valid : goal.returns-clause-valid
returns-clause-valid c = tight-valid

pub returns-clause-twice : goal.returns-clause-twice
returns-clause-twice c = tight-twice
