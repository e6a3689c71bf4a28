use Rattle.std.proofs.Common.{◌≡◌, ◌+◌, ◌/◌, ◌<◌, length, refl, sym, ap, subst, arith}
use Rattle.std.specs.List.{flat_map}
use Rattle.e57_layout.specs.IndexPackets.{index_packet}
use Rattle.e57_page_out.specs.Sequences.{Puts, Loses}
use Rattle.e57_page_out.specs.Writing.{most_bytes}
use Rattle.e57_index_out.specs.Levels.{packet_entries}
use Rattle.e57_index_out.proofs.Made.{made}
use Rattle.e57_index_out.proofs.Pieces.{pieces_begun, pieces_more, piece_lost, level-bytes}
use Rattle.e57_index_out.proofs.levels.write_level.Goals as goal

pub loop-j-init : goal.loop-j-init
loop-j-init g c = pieces_begun g.T.Target.view (index_packet c.args.level.now.number) (packet_entries c.args.chunks.now c.args.level.now) 0 c.args.out.now 0 refl c.requires.state

pub returns-in-Err : goal.returns-in-Err
returns-in-Err g c =
    let view = g.T.Target.view in
    let level = c.args.level.now in
    let packets = packet_entries c.args.chunks.now level in (
      c.in-Err.ensures.0,
      subst (λ bytes. Loses view c.args.out.now (most_bytes < c.args.out.now.size + length bytes) c.in-Err.fault (view c.write_packet.new.out.target)) (sym (level-bytes c.args.chunks.now level))
          (piece_lost view (index_packet level.number) packets 0 c.args.out.now c.loop-j.out c.loop-j.j ((level.count + 2047) / 2048) c.loop-j.j (index_packet level.number (packets c.loop-j.j)) c.in-Err.fault (view c.write_packet.new.out.target)
          (omega arith) (omega arith) refl c.loop-j.invariant c.in-Err.ensures.1),
    )

pub loop-j-preserved : goal.loop-j-preserved
loop-j-preserved g c =
    let level = c.args.level.now in
    let packets = packet_entries c.args.chunks.now level in
    pieces_more g.T.Target.view (index_packet level.number) packets 0 c.args.out.now c.loop-j.out c.write_packet.new.out c.loop-j.j (c.loop-j.j + 1) c.loop-j.j (index_packet level.number (packets c.loop-j.j))
    refl (omega arith) refl c.loop-j.invariant c.in_default.ensures

pub returns : goal.returns
returns g c =
    let level = c.args.level.now in
    let packets = packet_entries c.args.chunks.now level in
    let all : c.loop-j.j ≡ (level.count + 2047) / 2048 = omega arith in
    subst (λ bytes. Puts g.T.Target.view c.args.out.now bytes c.loop-j.out) (sym (level-bytes c.args.chunks.now level))
    (subst (λ n. Puts g.T.Target.view c.args.out.now (flat_map (index_packet level.number) (made packets 0 n)) c.loop-j.out) all c.loop-j.invariant)
