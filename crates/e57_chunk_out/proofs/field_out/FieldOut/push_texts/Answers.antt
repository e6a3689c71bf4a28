use Rattle.std.proofs.Common.{ℕ, ◌+◌, length, take, ap, sym, ◌∙◌, subst, arith}
use Rattle.e57_chunk_out.specs.Waiting.{Waiting, IsPending, with_more}
use Rattle.e57_chunk_out.specs.Texts.{strings_at}
use Rattle.e57_chunk_out.proofs.Kept.{pending-length, length-strings}
use Rattle.e57_chunk_out.proofs.Pushed.{view-pushed}
use Rattle.e57_chunk_out.proofs.field_out.FieldOut.push_texts.Goals as goal

pub push_texts-requires-clause-few : goal.push_texts-requires-clause-few
push_texts-requires-clause-few c =
    let size = ap (λ (w : Waiting). length w.items) (sym c.self.view_is) ∙ pending-length c.self.inside.pending c.self.inside.until c.self.invariant.pending in
    omega (arith, size, c.requires.few)

pub invariant_of-self-2 : goal.invariant_of-self-2
invariant_of-self-2 c =
    let count = length-strings c.args.bytes.now c.args.begin c.args.ends.now in
    record { pending = subst (λ (k : ℕ). IsPending c.push_texts.new.pending (c.self.inside.until + k)) count c.in_ok-push_texts.ensures.pending; used = c.self.invariant.used }

pub returns : goal.returns
returns c =
    let given = strings_at c.args.bytes.now c.args.begin c.args.ends.now in
    view-pushed c.self.inside.pending c.push_texts.new.pending c.self.inside.until (length c.args.ends.now) (length c.self.inside.run.items) given (take c.self.inside.used c.self.inside.run.items)
    (length-strings c.args.bytes.now c.args.begin c.args.ends.now) c.in_ok-push_texts.ensures
    ∙ ap (with_more given) c.self.view_is
