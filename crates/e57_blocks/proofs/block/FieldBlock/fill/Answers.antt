use Rattle.std.proofs.Common.{sym, subst}
use Rattle.e57_blocks.specs.Block.{Block}
use Rattle.e57_blocks.specs.Filling.{IsNextOf}
use Rattle.e57_blocks.proofs.Holding.{still_next}
use Rattle.e57_blocks.proofs.block.FieldBlock.fill.Goals as goal

pub read_block-answer-requires-clause-still : goal.read_block-answer-requires-clause-still
read_block-answer-requires-clause-still g c =
    let before : Block = record { column = c.self.inside.column; buffer = c.self.inside.buffer; first = c.self.inside.first; count = c.self.inside.count; fault = c.self.inside.fault } in
    still_next before c.args.i c.self.invariant (subst (λ (b : Block). IsNextOf b c.args.i) (sym c.self.view_is) c.requires.next)
