use Rattle.e57_decimal.proofs.Spelled.{text_read}
use Rattle.e57_decimal.proofs.laws.text_is_read.Goals as goal

pub returns : goal.returns
returns c = text_read
