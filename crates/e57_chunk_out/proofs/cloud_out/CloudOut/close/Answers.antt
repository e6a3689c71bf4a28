use Rattle.std.proofs.Common.{List, Option, Some, false, refl, sym, ap, subst, ◌∙◌, ◌≡◌}
use Rattle.e57_chunk_out.specs.Waiting.{Waiting}
use Rattle.e57_chunk_out.specs.Going.{LosesRecords}
use Rattle.e57_chunk_out.specs.Clouds.{cloud_of}
use Rattle.e57_chunk_out.specs.CloudCalls.{HasStrings, PassesSection}
use Rattle.e57_chunk_out.specs.Standing.{Cloud}
use Rattle.e57_chunk_out.specs.declared.section.Begun.{Begun}
use Rattle.e57_chunk_out.proofs.cloud_out.CloudOut.close.Goals as goal

pub returns : goal.returns
returns g c =
    let spent : c.self.inside.is_spent ≡ false = ap (λ (x : Cloud). x.is_spent) c.self.view_is ∙ c.requires.unspent in
    let is = ap (λ (fs : List Waiting). cloud_of fs c.self.inside.chunks c.self.inside.count (Some c.in-Some.begun) false) c.deref_mut.ensures.value
    ∙ ap (λ (s : Option Begun). cloud_of c.self.inside.fields.items c.self.inside.chunks c.self.inside.count s false) (sym c.in-Some.is)
    ∙ ap (λ b. cloud_of c.self.inside.fields.items c.self.inside.chunks c.self.inside.count c.self.inside.section b) (sym spent) ∙ c.self.view_is in (
      c.in-Err.ensures.0,
      subst (λ (x : Cloud). LosesRecords g.T.Target.view c.args.out.now (PassesSection x c.args.out.now) (HasStrings x.kinds) c.in-Err.fault (g.T.Target.view c.put_rest.new.out.target)) is c.in-Err.ensures.1,
    )
