use Rattle.std.specs.Prelude.{◌≡◌, ◌<◌, ◌≤◌, ◌&&◌, ℕ, pos, false, length, get_or}
use Rattle.e57_layout.specs.Values.{whole}
use Rattle.e57_plain.specs.Kept.{is_between}
use Rattle.e57_filter.proofs.mark.mark_items.Given as goal

abbrev pub invariant-loop-k : goal.invariant-loop-k
invariant-loop-k l = record {
  long : length l.flags ≡ length l.fn.flags;
  marks : (t : ℕ) → t < l.k → get_or l.flags t false ≡ (get_or l.fn.flags t false && is_between l.low l.high (whole (get_or l.items t (pos 0))));
  still : (t : ℕ) → l.k ≤ t → get_or l.flags t false ≡ get_or l.fn.flags t false;
}
