use Rattle.std.proofs.Common.{◌≡◌, ◌+◌, length, take}
use Rattle.e57_layout.specs.Packets.{total}
use Rattle.e57_layout.specs.Packing.{room_for}
use Rattle.e57_chunk_out.proofs.Side.{grown}
use Rattle.e57_chunk_out.proofs.fields.fits.Given as goal

abbrev pub invariant-loop-k : goal.invariant-loop-k
invariant-loop-k l = l.left + total (take l.k (grown l.from l.n l.fields)) ≡ room_for (length l.fields)
