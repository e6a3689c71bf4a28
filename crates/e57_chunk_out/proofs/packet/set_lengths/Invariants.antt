use Rattle.std.proofs.Common.{◌≡◌, ◌+◌, ◌*◌, length, take}
use Rattle.e57_layout.specs.Packets.{lengths, total}
use Rattle.e57_layout.specs.Packing.{room_for}
use Rattle.e57_chunk_out.specs.Cutting.{cut, streams_of}
use Rattle.e57_chunk_out.proofs.Cuts.{IsAt}
use Rattle.e57_chunk_out.proofs.packet.set_lengths.Given as goal

abbrev pub invariant-loop-k : goal.invariant-loop-k
invariant-loop-k l = record {
  here : IsAt (cut (room_for (length l.fields)) l.fn.skip (streams_of l.fields)) (streams_of l.fields) l.k l.room l.skip;
  lengths : take l.k l.lengths ≡ lengths (take l.k (cut (room_for (length l.fields)) l.fn.skip (streams_of l.fields)));
  size : l.size ≡ 6 + 2 * length l.fields + total (take l.k (cut (room_for (length l.fields)) l.fn.skip (streams_of l.fields)));
}
