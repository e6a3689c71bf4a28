use Rattle.std.proofs.Common.{arith, refl, w64, to_z, of_z}
use Rattle.e57_lanes.proofs.Items.{Written-block}
use Rattle.e57_lanes.proofs.near.blocks_near.Goals as goal

pub loop-block-preserved : goal.loop-block-preserved
loop-block-preserved c =
    Written-block c.args.bytes.now c.args.phase c.args.width (to_z w64 (of_z w64 c.args.min)) c.args.span c.loop-block.block c.args.out.now c.loop-block.out
    c.put_eight.new.out c.eight_near-numbers.result _ c.loop-block.invariant c.eight_near-numbers.ensures refl (omega arith) c.if-not-put_eight.ensures.0 c.if-not-put_eight.ensures.1
