use Rattle.std.proofs.Common.{length, ap, sym, ◌∙◌, arith}
use Rattle.e57_chunk_out.specs.Waiting.{Waiting}
use Rattle.e57_chunk_out.proofs.Kept.{pending-length}
use Rattle.e57_chunk_out.proofs.field_out.FieldOut.push_words.Goals as goal

pub push_words-requires-clause-few : goal.push_words-requires-clause-few
push_words-requires-clause-few c =
    let size = ap (λ (w : Waiting). length w.items) (sym c.self.view_is) ∙ pending-length c.self.inside.pending c.self.inside.until c.self.invariant.pending in
    omega (arith, size, c.requires.few)
