use Rattle.std.specs.Prelude.{◌≡◌, replicate, None}
use Rattle.e57_repack.proofs.ranges.no_ranges.Given as goal

abbrev pub invariant-loop-k : goal.invariant-loop-k
invariant-loop-k l = l.ranges.items ≡ replicate l._k None
