use Rattle.std.proofs.Common.{◌*◌}
use Rattle.std.specs.Option.{option_map}
use Rattle.e57_page_out.specs.Sealed.{filled, pages_for}
use Rattle.e57_page_out.specs.Writing.{Writes}
use Rattle.e57_page_out.proofs.Steps.{by_sound, page_still}
use Rattle.e57_page_out.proofs.pages_out.PagesOut.fresh_page.Goals as goal

pub returns-then-self-eq0-clause-ended : goal.returns-then-self-eq0-clause-ended
returns-then-self-eq0-clause-ended g c =
    let view = g.T.Target.view in
    let inside = c.self.inside in
    by_sound view inside.target inside.buffer inside.is_spent c.args.self.now
    (λ now spent. Writes view now (option_map (filled (pages_for now.size)) now.told_bytes) (1020 * pages_for now.size) now.held now)
    c.self.view_is c.requires.unspent c.self.invariant
    (λ sound. page_still view inside.target inside.buffer sound c.if-self-eq0.true)
