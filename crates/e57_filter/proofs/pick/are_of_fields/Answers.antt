use Rattle.e57_filter.proofs.Fields.{items_all}
use Rattle.e57_filter.proofs.pick.are_of_fields.Goals as goal

pub returns : goal.returns
returns c = items_all c.args.blocks.now c.args.i c.args.n c.loop-j.j c.loop-j-test.false c.loop-j.invariant
