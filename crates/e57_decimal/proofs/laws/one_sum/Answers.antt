use Rattle.e57_decimal.proofs.Same.{same_sum}
use Rattle.e57_decimal.proofs.laws.one_sum.Goals as goal

pub returns : goal.returns
returns c = same_sum
