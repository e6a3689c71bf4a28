use Rattle.e57_lanes.specs.PackSteps.{PackedBetween}
use Rattle.e57_lanes.proofs.packing.pack_from.Given as goal

abbrev pub invariant-loop-k : goal.invariant-loop-k
invariant-loop-k l = PackedBetween l.values l.min l.width l.phase l.from l.k l.initial.out l.out
