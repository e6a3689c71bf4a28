use Rattle.std.proofs.Common.{arith}
use Rattle.e57_trial.proofs.Putting.{puts_none, puts_not, puts_on, standing_on}
use Rattle.e57_trial.proofs.records.put_records.Goals as goal

pub loop-at-init : goal.loop-at-init
loop-at-init g c =
    let r = c.requires in
    record { within = omega arith; adds = puts_none g.T.Target.view c.args.start c.args.count c.args.out.now c.args.cloud.now r.fresh r.chunk r.count c.size-size.ensures.state r.free r.begun }

pub put_block-requires-clause-standing : goal.put_block-requires-clause-standing
put_block-requires-clause-standing g c =
    let r = c.requires in
    standing_on g.T.Target.view c.args.start c.args.count c.args.out.now c.args.cloud.now r.fresh r.chunk r.count c.size-size.ensures.state r.free r.begun c.loop-at.at c.loop-at.cloud c.loop-at.out c.loop-at.invariant.adds

pub returns-in-Err : goal.returns-in-Err
returns-in-Err g c =
    let r = c.requires in
    let few = c.block_length-n.ensures.few in
    let below = c.loop-at-test.true in
    puts_not g.T.Target.view c.args.start c.args.count c.args.out.now c.args.cloud.now r.fresh r.chunk r.count c.size-size.ensures.state r.free r.begun c.loop-at.at c.loop-at.cloud c.loop-at.out c.loop-at.invariant.adds c.block_length-n.result c.in-Err.fault c.put_block.new.cloud c.put_block.new.out
    (omega (arith, few, below)) c.in-Err.ensures

pub loop-at-preserved : goal.loop-at-preserved
loop-at-preserved g c =
    let r = c.requires in
    let few = c.block_length-n.ensures.few in
    let below = c.loop-at-test.true in
    record {
      within = omega (arith, few, below);
      adds = puts_on g.T.Target.view c.args.start c.args.count c.args.out.now c.args.cloud.now r.fresh r.chunk r.count c.size-size.ensures.state r.free r.begun c.loop-at.at c.loop-at.cloud c.loop-at.out c.loop-at.invariant.adds c.block_length-n.result c.put_block.new.cloud c.put_block.new.out c.in_default.ensures;
    }
