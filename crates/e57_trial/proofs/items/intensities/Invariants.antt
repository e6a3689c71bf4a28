use Rattle.std.proofs.Common.{◌≡◌, ℕ, ◌+◌, ◌<◌, length, get_or, pos}
use Rattle.e57_trial.specs.Content.{intensity_at}
use Rattle.e57_trial.proofs.items.intensities.Given as goal

abbrev pub invariant-loop-k : goal.invariant-loop-k
invariant-loop-k l = (length l.values ≡ 1024) × ((j : ℕ) → j < l.k → get_or l.values j (pos 0) ≡ pos (intensity_at (l.first + j)))
