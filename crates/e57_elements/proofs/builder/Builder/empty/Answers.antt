use Rattle.std.proofs.Common.{ℕ, Err, ap, subst, refl, ◌∙◌, eqb, arith}
use Rattle.e57_pieces.specs.declared.piece.Piece.TheVariants.{Empty}
use Rattle.e57_elements.specs.Builder.{Admits}
use Rattle.e57_elements.proofs.Builds.{refusal_on, empty_refused, empty_takes}
use Rattle.e57_elements.proofs.builder.Builder.empty.Goals as goal

pub returns-in_err-admit : goal.returns-in_err-admit
returns-in_err-admit c s h =
    refusal_on s (Empty c.args.name c.args.attrs) c.from_residual.result c.in_err-admit.field-0.0 c.args.self.now c.from_residual.ensures.1
    (empty_refused s c.args.name c.args.attrs c.in_err-admit.field-0.0 c.args.self.now (subst (λ (n : ℕ). Admits {T = Unit {0}} s n (Err c.in_err-admit.field-0.0)) c.len.ensures (c.in_err-admit.ensures s h)))

pub returns : goal.returns
returns c s h =
    empty_takes s c.args.self.now (record { nodes = c.push.new.self; marks = c.args.self.now.marks; done = c.is_empty-self.result }) c.args.name c.args.attrs
    c.len.result c.new-2.result h (c.in_ok-admit.ensures s h) c.len.ensures (c.new-2.ensures ∙ c.new.ensures.items)
    c.in_ok-push.ensures.items refl (c.is_empty-self.ensures ∙ ap (λ n. eqb n 0) (omega arith))
