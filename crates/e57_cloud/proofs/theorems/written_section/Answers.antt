use Rattle.e57_cloud.proofs.Laws.Written.{written-cloud}
use Rattle.e57_cloud.proofs.theorems.written_section.Goals as goal

pub returns : goal.returns
returns c = written-cloud
