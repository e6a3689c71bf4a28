use Rattle.e57_index_out.proofs.PacketSteps.{heads_lost, packet_done}
use Rattle.e57_index_out.proofs.levels.write_packet.Goals as goal

pub returns-in-Err : goal.returns-in-Err
returns-in-Err g c = (
  c.in-Err.ensures.0,
  heads_lost g.T.Target.view c.args.chunks.now c.args.level.now c.args.j c.args.out.now c.in-Err.fault (g.T.Target.view c.write_heads.new.out.target) c.in-Err.ensures.1,
)

pub returns : goal.returns
returns g c =
    packet_done g.T.Target.view c.args.chunks.now c.args.level.now c.args.j c.min-count.result c.args.out.now c.write_heads.new.out c.write_entries.new.out c.write_entries.result c.min-count.ensures c.in_default.ensures c.write_entries.ensures
