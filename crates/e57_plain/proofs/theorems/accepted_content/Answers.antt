use Rattle.e57_plain.proofs.Laws.Accepted.{content-valid}
use Rattle.e57_plain.proofs.theorems.accepted_content.Goals as goal

pub returns : goal.returns
returns c = content-valid
