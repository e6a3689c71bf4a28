use Rattle.e57_blocks.proofs.Holding.{opens}
use Rattle.e57_blocks.proofs.block.FieldBlock.open.Goals as goal

pub returns : goal.returns
returns c = opens c.args.section.now c.args.f c.args.field.now c.args.fixed c.args.places c.in_ok-column.column c.in_ok-buffer.buffer c.in_ok-column.ensures c.in_ok-buffer.ensures.places c.in_ok-buffer.ensures.room
