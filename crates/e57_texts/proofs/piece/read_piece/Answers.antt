use Rattle.std.proofs.Common.{◌-◌, ◌<◌, ◌∙◌, length, take, drop, arith}
use Rattle.e57_texts.specs.Pieces.{IsFewer}
use Rattle.e57_texts.proofs.Pieces.{lacks_packet}
use Rattle.e57_texts.proofs.Held.{lacks_more, part_rest, last_part, reads_more}
use Rattle.e57_texts.proofs.piece.read_piece.Goals as goal

pub returns-in-Err-clause-piece : goal.returns-in-Err-clause-piece
returns-in-Err-clause-piece g c =
    let reads = c.loop-done.invariant.reads in
    let size = reads.size in
    let test = c.loop-done-test.true in
    let below : c.loop-done.done < length c.args.out.now = omega (arith, size, test) in
    lacks_packet (g.S.Source.view c.args.pages.now.source) (g.S.Source.view c.loop-done.pages.source) (g.S.Source.view c.take_packet.new.pages.source) c.args.stream.now c.args.chunk.now c.loop-done.chunk c.take_packet.new.chunk (IsFewer (length c.args.out.now)) (take c.loop-done.done c.loop-done.out) c.in-Err.fault
    (lacks_more c.loop-done.out c.loop-done.chunk.window (length c.args.out.now) c.loop-done.done below (reads.empty below)) reads.takes c.in-Err.ensures.packet

pub loop-done-preserved : goal.loop-done-preserved
loop-done-preserved g c =
    let inv = c.loop-done.invariant in
    let reads = inv.reads in
    let size = reads.size in
    let test = c.loop-done-test.true in
    let below : c.loop-done.done < length c.args.out.now = omega (arith, size, test) in
    let held = c.read_held-done-in-loop-done in
    record {
      same_size = c.in_default.ensures.length ∙ inv.same_size;
      same_header = c.in_default.ensures.header ∙ inv.same_header;
      reads = reads_more (g.S.Source.view c.args.pages.now.source) (g.S.Source.view c.loop-done.pages.source) (g.S.Source.view c.take_packet.new.pages.source) c.args.stream.now c.args.chunk.now c.loop-done.chunk c.take_packet.new.chunk (length c.args.out.now) c.loop-done.out _ (take (length c.loop-done.out - c.loop-done.done) (drop c.loop-done.done c.loop-done.out)) held.new.out held.new.window c.loop-done.done held.result (last_part c.loop-done.out c.loop-done.done) below reads c.in_default.ensures.packet held.ensures.count held.ensures.bytes (part_rest c.loop-done.out held.new.out c.loop-done.done) held.ensures.rest;
    }
