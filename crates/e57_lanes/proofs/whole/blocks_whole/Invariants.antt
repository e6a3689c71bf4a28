use Rattle.std.proofs.Common.{◌*◌}
use Rattle.e57_lanes.specs.Unpack.{Written}
use Rattle.e57_lanes.proofs.whole.blocks_whole.Given as goal

abbrev pub invariant-loop-block : goal.invariant-loop-block
invariant-loop-block l = Written l.bytes l.phase l.width l.min l.span 0 (8 * l.block) l.initial.out l.out
