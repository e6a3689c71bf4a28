use Rattle.std.proofs.Common.{get_or}
use Rattle.e57_copy.specs.Adding.{held_columns}
use Rattle.e57_filter.proofs.Marks.{each_here, limits_same, no_limits, tested_next}
use Rattle.e57_filter.proofs.mark.mark_run.Goals as goal

pub loop-j-init : goal.loop-j-init
loop-j-init c = each_here c.args.n c.args.past c.args.every (held_columns c.args.blocks.now c.args.i c.args.n) c.mark_each.new.flags (rw c.requires.long at c.mark_each.ensures)

pub loop-j-preserved : goal.loop-j-preserved
loop-j-preserved c =
    let t = get_or c.args.tests.now c.loop-j.j no_limits in
    tested_next c.args.n c.args.past c.args.every (held_columns c.args.blocks.now c.args.i c.args.n) c.args.tests.now c.loop-j.j t c.loop-j.flags c.mark_by.new.flags
    c.loop-j-test.true (limits_same c.args.tests.now c.loop-j.j c.loop-j-test.true) c.loop-j.invariant c.mark_by.ensures
