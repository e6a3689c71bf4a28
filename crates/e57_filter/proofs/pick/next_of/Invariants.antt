use Rattle.std.specs.Prelude.{◌≡◌, ◌<◌, ◌≤◌, ℕ, false, get_or}
use Rattle.e57_filter.proofs.pick.next_of.Given as goal

abbrev pub invariant-loop-j : goal.invariant-loop-j
invariant-loop-j l = (t : ℕ) → l.from ≤ t → t < l.j → get_or l.flags t false ≡ l.flag → ⊥
