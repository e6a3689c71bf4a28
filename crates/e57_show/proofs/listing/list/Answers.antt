use Rattle.std.proofs.Common.{◌∙◌}
use Rattle.e57_show.proofs.Showing.{lists}
use Rattle.e57_show.proofs.listing.list.Goals as goal

pub returns-in-Ok-clause-ends : goal.returns-in-Ok-clause-ends
returns-in-Ok-clause-ends g c =
    let shown = lists (g.S.Source.view c.args.pages.now.source) c.in_ok-file.file c.deref.result.now c.one_answer.ensures.either c.one_answer.ensures.tree c.in_ok-file.ensures.opened
    (λ e same. c.deref.ensures.value ∙ c.in_ok-text.ensures e (c.tree.ensures ∙ same)) in
    (c.deref.result.now, shown, c.in-Ok.ensures.written)

pub returns-clause-ends : goal.returns-clause-ends
returns-clause-ends g c =
    let shown = lists (g.S.Source.view c.args.pages.now.source) c.in_ok-file.file c.deref.result.now c.one_answer.ensures.either c.one_answer.ensures.tree c.in_ok-file.ensures.opened
    (λ e same. c.deref.ensures.value ∙ c.in_ok-text.ensures e (c.tree.ensures ∙ same)) in
    (c.deref.result.now, shown, c.in-Err.ensures.cause, c.in-Err.ensures.written)
