use Rattle.e57_chunk_out.proofs.Adding.{items_stand}
use Rattle.e57_chunk_out.proofs.theorems.items_stand.Goals as goal

pub returns : goal.returns
returns g c = λ cloud f values before start cs out there stands. items_stand cloud f values before start cs out there stands
