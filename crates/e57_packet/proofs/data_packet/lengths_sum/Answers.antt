use Rattle.std.proofs.Common.{◌*◌, ◌≤◌, refl, arith}
use Rattle.std.specs.Prelude.{sum}
use Rattle.e57_layout.specs.Packets.{lengths_at}
use Rattle.e57_packet.proofs.Lengths.{sum-lengths, sum-lengths-le}
use Rattle.e57_packet.proofs.data_packet.lengths_sum.Goals as goal

pub loop-k-init : goal.loop-k-init
unfolding lengths_at
loop-k-init c = refl

pub overflow_add-total : goal.overflow_add-total
overflow_add-total c =
    let small : sum (lengths_at c.args.packet.now 6 c.loop-k.k) ≤ 65535 * c.loop-k.k = sum-lengths-le c.args.packet.now 6 c.loop-k.k in
    omega arith

pub loop-k-preserved : goal.loop-k-preserved
loop-k-preserved c =
    let more = sum-lengths c.args.packet.now 6 c.loop-k.k in
    rw (more, c.u16_at.ensures, c.loop-k.invariant) refl
