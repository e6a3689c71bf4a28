use Rattle.std.proofs.Common.{◌≡◌, length}
use Rattle.e57_index_out.proofs.tests.index_of.Given as goal

abbrev pub invariant-loop-k : goal.invariant-loop-k
invariant-loop-k l = (length l.index.entries ≡ l.k) × (l.index.room ≡ l.fn.chunks)
