use Rattle.std.proofs.Common.{◌∙◌}
use Rattle.e57_filter.proofs.Chosen.{next-flag}
use Rattle.e57_filter.proofs.select.flags_of.Goals as goal

pub loop-f-preserved : goal.loop-f-preserved
loop-f-preserved c = c.in_ok-push.ensures.items ∙ next-flag c.args.numbers.now c.loop-f.f c.loop-f.flags.items c.is_among.result c.loop-f.invariant c.is_among.ensures
