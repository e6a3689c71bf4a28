use Rattle.std.proofs.Common.{arith}
use Rattle.e57_elements.specs.Spelling.{text_byte}
use Rattle.e57_elements.proofs.Writing.{written_more}
use Rattle.e57_elements.proofs.write.write_text.Goals as goal

pub loop-b-preserved : goal.loop-b-preserved
loop-b-preserved c =
    written_more text_byte c.args.text.now c.loop-b.b-index c.args.out.now.items c.loop-b.out.items c.write_text_byte.new.out.items
    (omega arith) c.loop-b.invariant c.in_ok-write_text_byte.ensures
