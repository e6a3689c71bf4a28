use Rattle.e57_plain.proofs.Laws.Kept.{kept-valid}
use Rattle.e57_plain.proofs.theorems.kept_records.Goals as goal

pub returns : goal.returns
returns c = kept-valid
