use Rattle.std.proofs.Common.{take, Ok, Err, refl, ap, subst, ◌∙◌}
use Rattle.e57_base.specs.Target.{PutsPage}
use Rattle.e57_page_out.specs.Sealed.{page_bytes, pages_for}
use Rattle.e57_page_out.proofs.Closing.{head_page, ready_to_close, head_not_put, not_ended, is_closed}
use Rattle.e57_page_out.proofs.pages_out.PagesOut.close.Goals as goal

pub returns-in-Err : goal.returns-in-Err
returns-in-Err g c =
    let view = g.T.Target.view in
    let inside = c.self.inside in
    let header = c.args.header.now in
    let page = c.seal.ensures ∙ ap (λ p. page_bytes (take 1020 p)) c.write_header.ensures.bytes ∙ head_page header in
    let puts = subst (λ p. PutsPage {T = Unit {0}} (view inside.target) 0 p (Err c.in-Err.field-0) (view c.put_page.new.self)) page c.in-Err.ensures in
    let ready = ready_to_close view c.args.self.now c.fresh_page.new.self inside.target inside.buffer inside.is_spent c.size.ensures.state c.requires.free c.in_ok-fresh_page.ensures.ended c.self.view_is c.self.invariant in
    (refl, head_not_put view c.args.self.now header inside.target c.put_page.new.self inside.buffer.number ready inside.buffer c.in-Err.field-0 puts)

pub returns-in-Err-finish : goal.returns-in-Err-finish
returns-in-Err-finish g c =
    let view = g.T.Target.view in
    let inside = c.self.inside in
    let header = c.args.header.now in
    let page = c.seal.ensures ∙ ap (λ p. page_bytes (take 1020 p)) c.write_header.ensures.bytes ∙ head_page header in
    let puts = subst (λ p. PutsPage {T = Unit {0}} (view inside.target) 0 p (Ok c.in_default.field-0) (view c.put_page.new.self)) page c.in_default.ensures in
    let ready = ready_to_close view c.args.self.now c.fresh_page.new.self inside.target inside.buffer inside.is_spent c.size.ensures.state c.requires.free c.in_ok-fresh_page.ensures.ended c.self.view_is c.self.invariant in
    (refl, not_ended view c.args.self.now header inside.target c.put_page.new.self inside.buffer.number ready c.in_default.field-0 puts c.finish.new.self inside.buffer c.in-Err-finish.field-0 c.in-Err-finish.ensures)

pub returns : goal.returns
returns g c =
    let view = g.T.Target.view in
    let inside = c.self.inside in
    let header = c.args.header.now in
    let page = c.seal.ensures ∙ ap (λ p. page_bytes (take 1020 p)) c.write_header.ensures.bytes ∙ head_page header in
    let puts = subst (λ p. PutsPage {T = Unit {0}} (view inside.target) 0 p (Ok c.in_default.field-0) (view c.put_page.new.self)) page c.in_default.ensures in
    let ready = ready_to_close view c.args.self.now c.fresh_page.new.self inside.target inside.buffer inside.is_spent c.size.ensures.state c.requires.free c.in_ok-fresh_page.ensures.ended c.self.view_is c.self.invariant in
    is_closed view c.args.self.now header inside.target c.put_page.new.self inside.buffer.number ready c.in_default.field-0 puts c.finish.new.self inside.buffer c.in_default-finish.field-0 c.page_count-pages.result (c.page_count-pages.ensures ∙ ap pages_for c.size.ensures.size) c.in_default-finish.ensures
