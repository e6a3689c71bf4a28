use Rattle.e57_lanes.proofs.Vectors.{all_within, when_false}
use Rattle.e57_lanes.proofs.eight.any_above.Goals as goal

pub returns : goal.returns
returns c = when_false _ _ (λ e. all_within c.args.span c.args.numbers c.fits-numbers.0 e)
