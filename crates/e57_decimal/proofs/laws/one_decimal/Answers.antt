use Rattle.e57_decimal.proofs.Same.{same_decimal}
use Rattle.e57_decimal.proofs.laws.one_decimal.Goals as goal

pub returns : goal.returns
returns c = same_decimal
