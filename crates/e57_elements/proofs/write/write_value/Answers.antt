use Rattle.std.proofs.Common.{arith}
use Rattle.e57_elements.specs.Spelling.{value_byte}
use Rattle.e57_elements.proofs.Writing.{written_more}
use Rattle.e57_elements.proofs.write.write_value.Goals as goal

pub loop-b-preserved : goal.loop-b-preserved
loop-b-preserved c =
    written_more value_byte c.args.value.now c.loop-b.b-index c.args.out.now.items c.loop-b.out.items c.write_value_byte.new.out.items
    (omega arith) c.loop-b.invariant c.in_ok-write_value_byte.ensures
