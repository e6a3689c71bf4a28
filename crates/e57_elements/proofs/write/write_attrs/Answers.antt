use Rattle.std.proofs.Common.{arith}
use Rattle.e57_elements.proofs.Writing.{attrs_more}
use Rattle.e57_elements.proofs.write.write_attrs.Goals as goal

pub loop-i-preserved : goal.loop-i-preserved
loop-i-preserved c =
    attrs_more c.args.attrs.now c.loop-i.i c.get.result.now c.args.out.now.items c.loop-i.out.items c.write_attr.new.out.items
    (omega arith) c.get.ensures c.loop-i.invariant c.in_ok-write_attr.ensures
