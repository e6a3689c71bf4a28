use Rattle.std.proofs.Common.{ℕ, Err, subst, refl, ◌∙◌, arith}
use Rattle.e57_pieces.specs.declared.piece.Piece.TheVariants.{Start}
use Rattle.e57_elements.specs.Builder.{Admits}
use Rattle.e57_elements.proofs.Builds.{refusal_on, start_refused, start_takes}
use Rattle.e57_elements.proofs.builder.Builder.start.Goals as goal

pub returns-in_err-admit : goal.returns-in_err-admit
returns-in_err-admit c s h =
    refusal_on s (Start c.args.name c.args.attrs) c.from_residual.result c.in_err-admit.field-0.0 c.args.self.now c.from_residual.ensures.1
    (start_refused s c.args.name c.args.attrs c.in_err-admit.field-0.0 c.args.self.now (subst (λ (n : ℕ). Admits {T = Unit {0}} s n (Err c.in_err-admit.field-0.0)) c.len.ensures (c.in_err-admit.ensures s h)))

pub returns : goal.returns
returns c s h =
    start_takes s c.args.self.now (record { nodes = c.push.new.self; marks = c.push-2.new.self; done = c.args.self.now.done }) c.args.name c.args.attrs
    c.len.result c.len-place.result c.new-2.result c.new-3.result h (c.in_ok-admit.ensures s h) c.len.ensures (omega arith) (c.new-2.ensures ∙ c.new.ensures.items) c.new-3.ensures
    c.in_ok-push.ensures.items c.in_ok-push-2.ensures.items refl
