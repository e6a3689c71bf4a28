use Rattle.e57_trial.proofs.Sums.{same-sum}
use Rattle.e57_trial.proofs.sum.add_run.Goals as goal

pub returns-in_default : goal.returns-in_default
returns-in_default c = same-sum c.args.total c.args.run c.ranges.total.fits c.in_default.not-Ints
