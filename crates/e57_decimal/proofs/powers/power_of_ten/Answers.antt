use Rattle.std.proofs.Common.{arith}
use Rattle.e57_decimal.proofs.Tens.{pow_wide}
use Rattle.e57_decimal.proofs.powers.power_of_ten.Goals as goal

pub returns-then-k-gt38 : goal.returns-then-k-gt38
returns-then-k-gt38 c = λ h. let wide = pow_wide c.args.k (omega arith) in absurd (omega arith)
