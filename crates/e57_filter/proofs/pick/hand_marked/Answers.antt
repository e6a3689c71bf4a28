use Rattle.std.proofs.Common.{◌+◌, ◌-◌, ◌≤◌, ℕ, true, false, take, get_or, ap, ◌∙◌, arith, refl}
use Rattle.e57_filter.proofs.Picking.{chosen-few, count_more, have_part, AreAll}
use Rattle.e57_filter.proofs.Handed.{alike_now, fit_now, handed_more, handed_none, is_false, is_true, length-take_few, pending_now, room_now}
use Rattle.e57_filter.proofs.pick.hand_marked.Goals as goal

pub loop-k-init : goal.loop-k-init
loop-k-init c = record {
  within = omega arith;
  is = handed_none c.args.cloud.now c.args.blocks.now c.args.i c.args.n c.args.flags.now c.requires.kinds c.requires.fit c.requires.long c.requires.pending;
  number = refl;
}

pub overflow_add-i : goal.overflow_add-i
overflow_add-i c =
    let inside = c.next_of-a.ensures.inside in
    let long = c.requires.long in
    let last = c.requires.last in
    record { fits = omega (arith, inside, long, last) }

pub copy_run-requires-clause-have : goal.copy_run-requires-clause-have
copy_run-requires-clause-have c =
    let inside = c.next_of-b.ensures.inside in
    let after = c.next_of-b.ensures.after in
    let long = c.requires.long in
    have_part c.args.blocks.now c.args.i c.args.n c.next_of-a.result (c.next_of-b.result - c.next_of-a.result) (omega (arith, inside, after, long)) c.requires.have

pub copy_run-requires-clause-alike : goal.copy_run-requires-clause-alike
copy_run-requires-clause-alike c =
    alike_now c.args.cloud.now c.args.blocks.now c.args.i c.args.n c.args.flags.now c.requires.kinds c.requires.fit c.requires.long c.requires.pending c.loop-k.k c.loop-k.cloud c.loop-k.invariant.is

pub copy_run-requires-clause-fit : goal.copy_run-requires-clause-fit
copy_run-requires-clause-fit c =
    let inside = c.next_of-b.ensures.inside in
    let long = c.requires.long in
    fit_now c.args.cloud.now c.args.blocks.now c.args.i c.args.n c.args.flags.now c.requires.kinds c.requires.fit c.requires.long c.requires.pending c.loop-k.k c.loop-k.cloud c.loop-k.invariant.is
    c.next_of-a.result c.next_of-b.result c.requires.have c.next_of-a.ensures.after c.next_of-b.ensures.after (omega (arith, inside, long))

pub copy_run-requires-clause-pending : goal.copy_run-requires-clause-pending
copy_run-requires-clause-pending c =
    pending_now c.args.cloud.now c.args.blocks.now c.args.i c.args.n c.args.flags.now c.requires.kinds c.requires.fit c.requires.long c.requires.pending c.loop-k.k c.loop-k.cloud c.loop-k.invariant.is

pub copy_run-requires-clause-room : goal.copy_run-requires-clause-room
copy_run-requires-clause-room c =
    let low = c.next_of-a.ensures.after in
    let after = c.next_of-b.ensures.after in
    let inside = c.next_of-b.ensures.inside in
    let long = c.requires.long in
    let few = c.requires.few in
    room_now c.args.cloud.now c.args.blocks.now c.args.i c.args.n c.args.flags.now c.requires.kinds c.requires.fit c.requires.long c.requires.pending c.loop-k.k c.loop-k.cloud c.loop-k.invariant.is
    c.requires.between (c.next_of-b.result - c.next_of-a.result) (omega (arith, low, after, inside, long, few))

pub overflow_add-handed : goal.overflow_add-handed
overflow_add-handed c =
    let low = c.next_of-a.ensures.after in
    let after = c.next_of-b.ensures.after in
    let inside = c.next_of-b.ensures.inside in
    let long = c.requires.long in
    let few = c.requires.few in
    let number = c.loop-k.invariant.number in
    let most = chosen-few (take c.loop-k.k c.args.flags.now) c.args.flags.now in
    let less = length-take_few c.loop-k.k c.args.flags.now in
    record { fits = omega (arith, low, after, inside, long, few, number, most, less) }

pub loop-k-preserved : goal.loop-k-preserved
loop-k-preserved c =
    let low = c.next_of-a.ensures.after in
    let after = c.next_of-b.ensures.after in
    let inside = c.next_of-b.ensures.inside in
    let long = c.requires.long in
    let high : c.next_of-b.result ≤ c.args.n = omega (arith, inside, long) in
    let off : AreAll false c.loop-k.k c.next_of-a.result c.args.flags.now = λ j from under. is_false (get_or c.args.flags.now j false) (c.next_of-a.ensures.before j from under) in
    let on : AreAll true c.next_of-a.result c.next_of-b.result c.args.flags.now = λ j from under. is_true (get_or c.args.flags.now j false) (c.next_of-b.ensures.before j from under) in
    record {
      within = high;
      is = handed_more c.args.cloud.now c.args.blocks.now c.args.i c.args.n c.args.flags.now c.requires.kinds c.requires.fit c.requires.long c.requires.pending c.loop-k.k c.loop-k.cloud c.loop-k.invariant.is
          c.next_of-a.result c.next_of-b.result c.requires.have low after high c.copy_run.new.cloud off on c.in_default.ensures;
      number = ap (λ (x : ℕ). x + (c.next_of-b.result - c.next_of-a.result)) c.loop-k.invariant.number
          ∙ count_more c.args.n c.loop-k.k c.next_of-a.result c.next_of-b.result c.args.flags.now c.requires.long low after high off on;
    }
