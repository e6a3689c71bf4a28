use Rattle.std.proofs.Common.{◌+◌, ◌%◌, ◌==◌, ℕ, ap, ◌∙◌, arith}
use Rattle.std.proofs.lemmas.List.{length-set}
use Rattle.e57_filter.proofs.Marks.{phase_next, set_more}
use Rattle.e57_filter.proofs.mark.mark_each.Goals as goal

pub loop-k-preserved : goal.loop-k-preserved
loop-k-preserved c =
    let inv = c.loop-k.invariant in
    record {
      long = length-set c.loop-k.flags c.loop-k.k (c.loop-k.phase == 0) ∙ inv.long;
      below = c.next_phase-phase.ensures.below;
      phase_is = phase_next c.args.first c.loop-k.k c.args.every c.loop-k.phase c.next_phase-phase.result inv.phase_is c.next_phase-phase.ensures.next;
      marks = set_more (λ (t : ℕ). (c.args.first + t) % c.args.every == 0) c.loop-k.flags c.loop-k.k (c.loop-k.phase == 0) (let below = c.loop-k-test.true in let long = inv.long in omega (arith, below, long)) inv.marks
          (ap (λ (p : ℕ). p == 0) inv.phase_is);
    }
