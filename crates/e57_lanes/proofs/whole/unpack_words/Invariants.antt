use Rattle.e57_lanes.specs.Unpack.{Written}
use Rattle.e57_lanes.proofs.whole.unpack_words.Given as goal

abbrev pub invariant-loop-k : goal.invariant-loop-k
invariant-loop-k l = Written l.bytes l.phase 64 l.min l.span 0 l.k l.initial.out l.out
