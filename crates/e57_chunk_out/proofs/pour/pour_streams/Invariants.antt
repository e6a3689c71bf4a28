use Rattle.std.proofs.Common.{◌-◌, length}
use Rattle.e57_layout.specs.Packing.{room_for}
use Rattle.e57_chunk_out.specs.Cutting.{streams_of}
use Rattle.e57_chunk_out.proofs.Pouring.{Pouring}
use Rattle.e57_chunk_out.proofs.pour.pour_streams.Given as goal

abbrev pub invariant-loop-skip : goal.invariant-loop-skip
invariant-loop-skip g l = Pouring g.T.Target.view l.fn.out (room_for (length l.fields)) (streams_of l.fields) l.fn.restart l.skip l.first l.out

abbrev pub decreases-loop-skip : goal.decreases-loop-skip
decreases-loop-skip g l = l.all - l.skip
