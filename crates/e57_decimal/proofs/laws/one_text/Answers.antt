use Rattle.e57_decimal.proofs.Same.{same_text}
use Rattle.e57_decimal.proofs.laws.one_text.Goals as goal

pub returns : goal.returns
returns c = same_text
