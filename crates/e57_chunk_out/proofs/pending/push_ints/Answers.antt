use Rattle.e57_chunk_out.proofs.Pushed.{none-pushed}
use Rattle.e57_chunk_out.proofs.pending.push_ints.Goals as goal

pub returns-in_default : goal.returns-in_default
returns-in_default c = none-pushed c.args.pending.now c.args.until c.args.values.now c.in_default.not-Ints c.requires.items c.requires.pending
