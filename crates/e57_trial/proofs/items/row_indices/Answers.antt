use Rattle.std.proofs.Common.{pos}
use Rattle.std.proofs.lemmas.List.{get_or-replicate}
use Rattle.e57_trial.proofs.items.row_indices.Goals as goal

pub returns : goal.returns
returns c = λ k below. get_or-replicate 1024 k (pos 0) (pos 0) below
