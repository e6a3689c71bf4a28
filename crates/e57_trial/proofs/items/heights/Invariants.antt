use Rattle.std.proofs.Common.{◌≡◌, ℕ, ◌+◌, ◌<◌, length, get_or}
use Rattle.e57_trial.specs.Content.{z_at}
use Rattle.e57_trial.proofs.items.heights.Given as goal

abbrev pub invariant-loop-k : goal.invariant-loop-k
invariant-loop-k l = (length l.bits ≡ 1024) × ((j : ℕ) → j < l.k → get_or l.bits j 0 ≡ z_at (l.first + j))
