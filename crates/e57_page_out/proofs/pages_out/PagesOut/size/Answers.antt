use Rattle.e57_page_out.specs.Writing.{IsBeingWritten}
use Rattle.e57_page_out.proofs.States.{sound_state}
use Rattle.e57_page_out.proofs.Steps.{by_sound}
use Rattle.e57_page_out.proofs.pages_out.PagesOut.size.Goals as goal

pub returns-clause-state : goal.returns-clause-state
returns-clause-state g c =
    let view = g.T.Target.view in
    let inside = c.self.inside in
    by_sound view inside.target inside.buffer inside.is_spent c.args.self.now (λ now spent. IsBeingWritten view now) c.self.view_is c.requires.unspent c.self.invariant (λ sound. sound_state view inside.target inside.buffer sound)
