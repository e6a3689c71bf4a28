use Rattle.std.proofs.Common.{◌/◌, ◌^◌}
use Rattle.e57_rows.proofs.Digits.{pair_high, pair_low}
use Rattle.e57_rows.proofs.hexadecimal.pair.Goals as goal

pub returns-clause-high : goal.returns-clause-high
returns-clause-high c = pair_high c.args.word c.args.at

pub returns-clause-low : goal.returns-clause-low
returns-clause-low c = pair_low (c.args.word / 2 ^ c.args.at)
