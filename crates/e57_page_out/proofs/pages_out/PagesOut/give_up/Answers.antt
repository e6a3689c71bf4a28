use Rattle.std.proofs.Common.{false}
use Rattle.e57_page_out.specs.Buffer.{writing}
use Rattle.e57_page_out.specs.Sequences.{Leaves}
use Rattle.e57_page_out.proofs.Sequences.{leaves_still}
use Rattle.e57_page_out.proofs.States.{sound_state}
use Rattle.e57_page_out.proofs.Steps.{by_sound}
use Rattle.e57_page_out.proofs.pages_out.PagesOut.give_up.Goals as goal

pub returns-clause-left : goal.returns-clause-left
returns-clause-left g c =
    let view = g.T.Target.view in
    let inside = c.self.inside in
    by_sound view inside.target inside.buffer inside.is_spent c.args.self.now
    (λ now spent. Leaves view now (view inside.target))
    c.self.view_is c.requires.unspent c.self.invariant
    (λ sound. leaves_still view (writing view inside.target inside.buffer false) (sound_state view inside.target inside.buffer sound))
