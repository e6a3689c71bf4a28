use Rattle.std.proofs.Common.{◌+◌, ◌<◌, length, subst, arith}
use Rattle.e57_layout.specs.Packets.{padding}
use Rattle.e57_layout.specs.Packing.{room_for}
use Rattle.e57_page_out.specs.Sequences.{Loses, Puts}
use Rattle.e57_page_out.specs.Writing.{most_bytes}
use Rattle.e57_chunk_out.specs.Cutting.{cut, streams_of}
use Rattle.e57_chunk_out.proofs.Cuts.{cut-most, length-streams}
use Rattle.e57_chunk_out.proofs.PacketPuts.{packet_put, lost_heads, lost_streams, lost_padding}
use Rattle.e57_chunk_out.proofs.packet.put_packet.Goals as goal

pub put_padding-requires-clause-most : goal.put_padding-requires-clause-most
put_padding-requires-clause-most g c =
    let fits = cut-most (length c.args.fields.now) c.args.skip (streams_of c.args.fields.now) (length-streams c.args.fields.now) c.requires.few in
    omega (arith, fits, c.in-Ok.ensures.0)

pub returns-in-Err : goal.returns-in-Err
returns-in-Err g c =
    (c.in-Err.ensures.0, lost_heads g.T.Target.view c.args.out.now c.args.out.now c.args.restart (cut (room_for (length c.args.fields.now)) c.args.skip (streams_of c.args.fields.now)) c.in-Err.fault (g.T.Target.view c.put_first.new.out.target) c.in-Err.ensures.1)

pub returns-in-Err-put_streams : goal.returns-in-Err-put_streams
returns-in-Err-put_streams g c =
    (c.in-Err-put_streams.ensures.0, lost_streams g.T.Target.view c.args.out.now c.put_first.new.out c.args.restart (cut (room_for (length c.args.fields.now)) c.args.skip (streams_of c.args.fields.now)) c.in-Err-put_streams.fault (g.T.Target.view c.put_streams.new.out.target) c.in-Ok.ensures.1 c.in-Err-put_streams.ensures.1)

pub returns-in-Err-put_padding : goal.returns-in-Err-put_padding
returns-in-Err-put_padding g c = (
  c.in-Err-put_padding.ensures.0,
  lost_padding g.T.Target.view c.args.out.now c.put_first.new.out c.args.restart (cut (room_for (length c.args.fields.now)) c.args.skip (streams_of c.args.fields.now)) c.put_streams.new.out c.in-Err-put_padding.fault (g.T.Target.view c.put_padding.new.out.target) c.in-Ok.ensures.1 c.in_default.ensures
      (subst (λ n. Loses g.T.Target.view c.put_streams.new.out (most_bytes < c.put_streams.new.out.size + length (padding n)) c.in-Err-put_padding.fault (g.T.Target.view c.put_padding.new.out.target)) c.in-Ok.ensures.0 c.in-Err-put_padding.ensures.1),
)

pub returns : goal.returns
returns g c =
    packet_put g.T.Target.view c.args.out.now c.put_first.new.out c.args.restart (cut (room_for (length c.args.fields.now)) c.args.skip (streams_of c.args.fields.now)) c.put_streams.new.out c.put_padding.new.out c.in-Ok.ensures.1 c.in_default.ensures
    (subst (λ n. Puts g.T.Target.view c.put_streams.new.out (padding n) c.put_padding.new.out) c.in-Ok.ensures.0 c.in_default-put_padding.ensures)
