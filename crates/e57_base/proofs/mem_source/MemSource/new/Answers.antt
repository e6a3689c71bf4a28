use Rattle.e57_base.proofs.SourceLaws.{absent_at_first}
use Rattle.e57_base.proofs.mem_source.MemSource.new.Goals as goal

pub returns-clause-absent : goal.returns-clause-absent
returns-clause-absent c = rw c.new.ensures.items (absent_at_first c.args.log_room)
