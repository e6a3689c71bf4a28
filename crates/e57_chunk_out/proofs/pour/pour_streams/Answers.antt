use Rattle.std.proofs.Common.{ℕ, ◌+◌, ◌<◌, false, List, length, sym, subst, arith}
use Rattle.e57_layout.specs.Packing.{room_for}
use Rattle.e57_layout.specs.Written.{flagged, packets_bytes}
use Rattle.e57_page_out.specs.Sequences.{Loses, Puts}
use Rattle.e57_page_out.specs.Writing.{most_bytes}
use Rattle.e57_chunk_out.specs.Cutting.{streams_of}
use Rattle.e57_chunk_out.proofs.Cuts.{length-streams}
use Rattle.e57_chunk_out.proofs.Pouring.{Pouring, pouring_first, pouring_next, pouring_lost, pouring_all, poured-is}
use Rattle.e57_chunk_out.proofs.pour.pour_streams.Goals as goal

pub loop-skip-init : goal.loop-skip-init
loop-skip-init g c = pouring_first g.T.Target.view c.args.out.now (room_for (length c.args.fields.now)) (streams_of c.args.fields.now) c.args.restart c.requires.state

pub put_packet-requires-clause-unspent : goal.put_packet-requires-clause-unspent
put_packet-requires-clause-unspent g c = c.loop-skip.invariant.put.state.unspent

pub returns-in-Err : goal.returns-in-Err
returns-in-Err g c =
    let some : 0 < room_for (length c.args.fields.now) = omega (arith, c.requires.few) in (
      c.in-Err.ensures.0,
      subst (λ (ps : List (List (List ℕ))). Loses g.T.Target.view c.args.out.now (most_bytes < c.args.out.now.size + length (packets_bytes (flagged c.args.restart ps))) c.in-Err.fault (g.T.Target.view c.put_packet.new.out.target))
          (poured-is (streams_of c.args.fields.now) (length c.args.fields.now) (length-streams c.args.fields.now))
          (pouring_lost g.T.Target.view c.args.out.now (room_for (length c.args.fields.now)) (streams_of c.args.fields.now) c.args.restart c.loop-skip.skip c.loop-skip.first c.loop-skip.out c.in-Err.fault (g.T.Target.view c.put_packet.new.out.target) some (omega (arith, c.loop-skip-test.true, c.total_size-all.ensures)) c.loop-skip.invariant c.in-Err.ensures.1),
    )

pub loop-skip-preserved : goal.loop-skip-preserved
loop-skip-preserved g c =
    let some : 0 < room_for (length c.args.fields.now) = omega (arith, c.requires.few) in
    subst (λ r. Pouring g.T.Target.view c.args.out.now (room_for (length c.args.fields.now)) (streams_of c.args.fields.now) c.args.restart (c.loop-skip.skip + r) false c.put_packet.new.out) (sym c.room_in_packet-room.ensures)
    (pouring_next g.T.Target.view c.args.out.now (room_for (length c.args.fields.now)) (streams_of c.args.fields.now) c.args.restart c.loop-skip.skip c.loop-skip.first c.loop-skip.out c.put_packet.new.out some (omega (arith, c.loop-skip-test.true, c.total_size-all.ensures)) c.loop-skip.invariant c.in_default.ensures)

pub returns : goal.returns
returns g c =
    subst (λ (ps : List (List (List ℕ))). Puts g.T.Target.view c.args.out.now (packets_bytes (flagged c.args.restart ps)) c.loop-skip.out)
    (poured-is (streams_of c.args.fields.now) (length c.args.fields.now) (length-streams c.args.fields.now))
    (pouring_all g.T.Target.view c.args.out.now (room_for (length c.args.fields.now)) (streams_of c.args.fields.now) c.args.restart c.loop-skip.skip c.loop-skip.first c.loop-skip.out (omega (arith, c.loop-skip-test.false, c.total_size-all.ensures)) c.loop-skip.invariant)
