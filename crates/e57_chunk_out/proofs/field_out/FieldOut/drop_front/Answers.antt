use Rattle.std.proofs.Common.{length, ap, sym, ◌∙◌, arith}
use Rattle.e57_chunk_out.specs.Waiting.{Waiting}
use Rattle.e57_chunk_out.proofs.Kept.{pending-length}
use Rattle.e57_chunk_out.proofs.field_out.FieldOut.drop_front.Goals as goal

pub drop_front-requires-clause-there : goal.drop_front-requires-clause-there
drop_front-requires-clause-there c =
    let size = ap (λ (w : Waiting). length w.items) (sym c.self.view_is) ∙ pending-length c.self.inside.pending c.self.inside.until c.self.invariant.pending in
    omega (arith, size, c.requires)

pub overflow_sub-self : goal.overflow_sub-self
overflow_sub-self c =
    let size = ap (λ (w : Waiting). length w.items) (sym c.self.view_is) ∙ pending-length c.self.inside.pending c.self.inside.until c.self.invariant.pending in
    omega (arith, size, c.requires)
