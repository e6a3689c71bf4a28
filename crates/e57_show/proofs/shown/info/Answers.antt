use Rattle.std.proofs.Common.{◌∙◌}
use Rattle.e57_show.proofs.Showing.{shows}
use Rattle.e57_show.proofs.shown.info.Goals as goal

pub returns-in-Ok-clause-ends : goal.returns-in-Ok-clause-ends
returns-in-Ok-clause-ends g c =
    let shown = shows (g.S.Source.view c.args.pages.now.source) c.in_ok-tree.tree c.in_ok-text.text.items c.deref.result.now c.one_answer.ensures.either c.in_ok-tree.ensures.text c.in_ok-text.ensures.spelling (c.deref.ensures.value ∙ c.in_ok-push.ensures.items) in
    (c.deref.result.now, shown, c.in-Ok.ensures.written)

pub returns-clause-ends : goal.returns-clause-ends
returns-clause-ends g c =
    let shown = shows (g.S.Source.view c.args.pages.now.source) c.in_ok-tree.tree c.in_ok-text.text.items c.deref.result.now c.one_answer.ensures.either c.in_ok-tree.ensures.text c.in_ok-text.ensures.spelling (c.deref.ensures.value ∙ c.in_ok-push.ensures.items) in
    (c.deref.result.now, shown, c.in-Err.ensures.cause, c.in-Err.ensures.written)
