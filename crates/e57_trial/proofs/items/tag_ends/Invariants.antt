use Rattle.std.proofs.Common.{◌≡◌, ℕ, ◌+◌, ◌*◌, ◌<◌, ◌≤◌, length, get_or}
use Rattle.e57_trial.specs.Records.{tags_end}
use Rattle.e57_trial.proofs.items.tag_ends.Given as goal

abbrev pub invariant-loop-k : goal.invariant-loop-k
invariant-loop-k l =
    (length l.ends ≡ 1024) × (l.end ≡ tags_end l.first l.k) × (l.end ≤ 3 * l.k) × ((j : ℕ) → j < l.k → get_or l.ends j 0 ≡ tags_end l.first (j + 1))
