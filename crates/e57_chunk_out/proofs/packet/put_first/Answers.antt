use Rattle.std.proofs.Common.{length, arith}
use Rattle.e57_layout.specs.Packing.{room_for}
use Rattle.e57_layout.proofs.Laws.Layouts.{data_size_is}
use Rattle.e57_chunk_out.specs.Cutting.{cut, streams_of}
use Rattle.e57_chunk_out.proofs.Cuts.{cut-most, length-streams}
use Rattle.e57_chunk_out.proofs.packet.put_first.Goals as goal

pub put_heads-requires-clause-least : goal.put_heads-requires-clause-least
put_heads-requires-clause-least g c =
    let is = data_size_is (cut (room_for (length c.args.fields.now)) c.args.skip (streams_of c.args.fields.now)) in
    omega (arith, is, c.set_lengths-size.ensures.size)

pub put_heads-requires-clause-most : goal.put_heads-requires-clause-most
put_heads-requires-clause-most g c =
    let fits = cut-most (length c.args.fields.now) c.args.skip (streams_of c.args.fields.now) (length-streams c.args.fields.now) c.requires.few in
    omega (arith, fits, c.set_lengths-size.ensures.size)
