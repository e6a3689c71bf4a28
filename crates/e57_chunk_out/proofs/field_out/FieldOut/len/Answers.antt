use Rattle.std.proofs.Common.{length, sym, ap, ◌∙◌, subst, take}
use Rattle.e57_chunk_out.specs.Waiting.{Waiting, IsWaiting, room_in}
use Rattle.e57_chunk_out.proofs.Kept.{pending-length, is-waiting}
use Rattle.e57_chunk_out.proofs.field_out.FieldOut.len.Goals as goal

pub returns-clause-len : goal.returns-clause-len
returns-clause-len c = sym (ap (λ (w : Waiting). length w.items) (sym c.self.view_is) ∙ pending-length c.self.inside.pending c.self.inside.until c.self.invariant.pending)

pub returns-clause-state : goal.returns-clause-state
returns-clause-state c =
    subst IsWaiting c.self.view_is (is-waiting c.self.inside.pending c.self.inside.until (take c.self.inside.used c.self.inside.run.items) (room_in c.self.inside.pending (length c.self.inside.run.items)) c.self.invariant.pending)
