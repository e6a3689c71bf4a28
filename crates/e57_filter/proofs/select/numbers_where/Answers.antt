use Rattle.std.proofs.Common.{◌∙◌, ℕ, false, get_or}
use Rattle.e57_filter.proofs.Chosen.{next-number, skip-number}
use Rattle.e57_filter.proofs.select.numbers_where.Goals as goal

pub loop-f-preserved-then-not-chosen-f : goal.loop-f-preserved-then-not-chosen-f
loop-f-preserved-then-not-chosen-f c = skip-number (λ (f : ℕ). get_or c.args.chosen.now f false) c.loop-f.f c.loop-f.numbers.items c.loop-f.invariant c.if-not-chosen-f.true

pub loop-f-preserved : goal.loop-f-preserved
loop-f-preserved c = c.in_ok-push.ensures.items ∙ next-number (λ (f : ℕ). get_or c.args.chosen.now f false) c.loop-f.f c.loop-f.numbers.items c.loop-f.invariant c.if-not-chosen-f.false
