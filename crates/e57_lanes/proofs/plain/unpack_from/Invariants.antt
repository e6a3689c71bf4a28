use Rattle.e57_lanes.specs.Unpack.{Written}
use Rattle.e57_lanes.proofs.plain.unpack_from.Given as goal

abbrev pub invariant-loop-k : goal.invariant-loop-k
invariant-loop-k l = Written l.bytes l.phase l.width l.min l.span l.from l.k l.initial.out l.out
