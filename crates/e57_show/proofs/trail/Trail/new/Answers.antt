use Rattle.std.proofs.Common.{[], ◌∷◌, ◌++◌, refl, ap, ◌∙◌}
use Rattle.e57_show.specs.declared.trail.Mark.{Mark}
use Rattle.e57_show.proofs.Walking.{root_trail}
use Rattle.e57_show.proofs.trail.Trail.new.Goals as goal

pub returns-clause-trail : goal.returns-clause-trail
returns-clause-trail c =
    root_trail c.args.raw.now (record { node = 0; path = c.new.result; marks = c.push.new.self }) c.len-count.ensures.nodes c.len-count.ensures.some refl c.new.ensures.items
    (c.in_ok-push.ensures.items ∙ ap (λ xs. xs ++ c.mark_of.result ∷ []) c.new-marks.ensures.items ∙ ap (λ (m : Mark). m ∷ []) c.mark_of.ensures)
