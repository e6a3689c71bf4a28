use Rattle.e57_lanes.specs.Unpack.{Written}
use Rattle.e57_lanes.proofs.unpacking.fill.Given as goal

abbrev pub invariant-loop-k : goal.invariant-loop-k
invariant-loop-k l = Written l.bytes l.phase 0 l.min l.span 0 l.k l.initial.out l.out
