use Rattle.std.proofs.Common.{◌*◌}
use Rattle.e57_lanes.specs.PackSteps.{PackedBetween}
use Rattle.e57_lanes.proofs.packing.pack_blocks.Given as goal

abbrev pub invariant-loop-block : goal.invariant-loop-block
invariant-loop-block l = PackedBetween l.values l.min l.width 0 0 (8 * l.block) l.initial.out l.out
