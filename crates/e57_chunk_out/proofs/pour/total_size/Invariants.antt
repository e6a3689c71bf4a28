use Rattle.std.proofs.Common.{◌≡◌, take}
use Rattle.e57_layout.specs.Packets.{total}
use Rattle.e57_chunk_out.specs.Cutting.{streams_of}
use Rattle.e57_chunk_out.proofs.pour.total_size.Given as goal

abbrev pub invariant-loop-k : goal.invariant-loop-k
invariant-loop-k l = l.size ≡ total (take l.k (streams_of l.fields))
