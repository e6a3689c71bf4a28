use Rattle.std.specs.Prelude.{◌≡◌, ◌+◌, ◌%◌, ◌<◌, ◌==◌, ℕ, false, length, get_or}
use Rattle.e57_filter.proofs.mark.mark_each.Given as goal

abbrev pub invariant-loop-k : goal.invariant-loop-k
invariant-loop-k l = record {
  long : length l.flags ≡ length l.fn.flags;
  below : l.phase < l.every;
  phase_is : l.phase ≡ (l.first + l.k) % l.every;
  marks : (t : ℕ) → t < l.k → get_or l.flags t false ≡ ((l.first + t) % l.every == 0);
}
