use Rattle.std.proofs.Common.{◌∙◌}
use Rattle.e57_copy.proofs.Putting.{next_number}
use Rattle.e57_trial.proofs.sum.all_numbers.Goals as goal

pub loop-f-preserved : goal.loop-f-preserved
loop-f-preserved c = c.in_ok-push.ensures.items ∙ next_number c.loop-f.f c.loop-f.numbers.items c.loop-f.invariant
