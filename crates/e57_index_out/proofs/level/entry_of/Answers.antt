use Rattle.e57_index_out.proofs.LevelLaws.{entry-above}
use Rattle.e57_index_out.proofs.level.entry_of.Goals as goal

pub returns : goal.returns
returns c = entry-above c.args.chunks.now c.args.level.now c.args.k c.physical_of.result c.if-level-eq0.false c.physical_of.ensures
