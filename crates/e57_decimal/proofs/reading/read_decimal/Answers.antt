use Rattle.e57_decimal.proofs.Decided.{read_is}
use Rattle.e57_decimal.proofs.reading.read_decimal.Goals as goal

pub returns-clause-decimal : goal.returns-clause-decimal
returns-clause-decimal c = read_is c.args.text.now c.decimal_read.result c.decimal_read.ensures
