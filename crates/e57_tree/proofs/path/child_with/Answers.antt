use Rattle.e57_tree.proofs.Leading.{leading_goes_on, leading_ends}
use Rattle.e57_tree.proofs.path.child_with.Goals as goal

pub loop-next-preserved : goal.loop-next-preserved
loop-next-preserved c =
    leading_goes_on c.args.raw.now c.args.n c.end_of-end.result c.args.wanted c.loop-next.child c.loop-next.position c.loop-next.next c.end_of-next-in-loop-next.result
    c.loop-next.invariant c.loop-next-test.true c.end_of-next-in-loop-next.ensures.end

pub returns : goal.returns
returns c =
    leading_ends c.args.raw.now c.args.n c.end_of-end.result c.args.wanted c.loop-next.child c.loop-next.position c.loop-next.next
    c.loop-next.invariant c.end_of-end.ensures.end c.requires.below c.loop-next-test.false
