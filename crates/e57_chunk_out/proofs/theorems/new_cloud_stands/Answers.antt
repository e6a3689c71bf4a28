use Rattle.e57_chunk_out.proofs.Adding.{new_stands}
use Rattle.e57_chunk_out.proofs.theorems.new_cloud_stands.Goals as goal

pub returns : goal.returns
returns g c = λ kinds n most before start out long told size held. new_stands kinds n most before start out long told size held
