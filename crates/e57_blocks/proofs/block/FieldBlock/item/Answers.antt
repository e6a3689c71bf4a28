use Rattle.std.proofs.Common.{subst}
use Rattle.e57_blocks.specs.Block.{IsBlock}
use Rattle.e57_blocks.proofs.Holding.{kept_at}
use Rattle.e57_blocks.proofs.block.FieldBlock.item.Goals as goal

pub returns-in-Ints-clause-kept : goal.returns-in-Ints-clause-kept
returns-in-Ints-clause-kept c = kept_at c.args.self.now c.args.i (subst IsBlock c.self.view_is c.self.invariant) c.requires
