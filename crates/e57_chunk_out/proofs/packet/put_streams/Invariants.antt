use Rattle.std.proofs.Common.{length, take}
use Rattle.std.specs.List.{concat}
use Rattle.e57_layout.specs.Packing.{room_for}
use Rattle.e57_page_out.specs.Sequences.{Puts}
use Rattle.e57_chunk_out.specs.Cutting.{cut, streams_of}
use Rattle.e57_chunk_out.proofs.Cuts.{IsAt}
use Rattle.e57_chunk_out.proofs.packet.put_streams.Given as goal

abbrev pub invariant-loop-k : goal.invariant-loop-k
invariant-loop-k g l = record {
  here : IsAt (cut (room_for (length l.fields)) l.fn.skip (streams_of l.fields)) (streams_of l.fields) l.k l.room l.skip;
  put : Puts g.T.Target.view l.fn.out (concat (take l.k (cut (room_for (length l.fields)) l.fn.skip (streams_of l.fields)))) l.out;
}
