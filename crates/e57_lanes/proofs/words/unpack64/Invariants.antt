use Rattle.std.proofs.Common.{◌≡◌, ◌*◌, ◌<◌, ℕ, slice_index}
use Rattle.e57_bits.specs.Bits.{number}
use Rattle.e57_lanes.proofs.words.unpack64.Given as goal

abbrev pub invariant-loop-k : goal.invariant-loop-k
invariant-loop-k l = (j : ℕ) → j < l.k → slice_index l.out j ≡ number l.bytes (64 * j) 64
