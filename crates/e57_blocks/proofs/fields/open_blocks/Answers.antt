use Rattle.e57_blocks.proofs.Openings.{opens_more}
use Rattle.e57_blocks.proofs.fields.open_blocks.Goals as goal

pub loop-k-preserved : goal.loop-k-preserved
loop-k-preserved c = record {
  some = c.loop-k.invariant.some;
  few = c.loop-k.invariant.few;
  opened = rw c.in_default.ensures.items (opens_more c.args.section.now c.args.fixed c.args.fields.now c.args.asked.now c.loop-k.k c.records_at_a_time-places.result c.index-fields-f.result c.loop-k.blocks.items c.in_ok-block.block c.loop-k-test.true c.requires.are_fields c.index-fields-f.is c.loop-k.invariant.opened c.in_ok-block.ensures);
}
