use Rattle.std.proofs.Common.{◌∙◌, []}
use Rattle.e57_texts.specs.Pieces.{IsCut}
use Rattle.e57_texts.proofs.Pieces.{takes_packet, lacks_packet}
use Rattle.e57_texts.proofs.Texts.{cut_prefix, lacks_text, limit_text}
use Rattle.e57_texts.proofs.Lengths.{prefix_ends, prefix_over}
use Rattle.e57_texts.proofs.prefix.next_prefix.Goals as goal

pub returns-in-TooLong-clause-prefix : goal.returns-in-TooLong-clause-prefix
returns-in-TooLong-clause-prefix g c =
    let bytes = c.bytes.ensures.bytes in
    limit_text (g.S.Source.view c.args.pages.now.source) (g.S.Source.view c.loop-length.pages.source) c.args.stream.now c.args.chunk.now c.loop-length.chunk c.too_long.result c.requires.within.low c.loop-length.invariant.takes (rw bytes at c.in-TooLong.ensures) c.too_long.ensures

pub returns-in-Err-clause-prefix : goal.returns-in-Err-clause-prefix
returns-in-Err-clause-prefix g c =
    let bytes = c.bytes.ensures.bytes in
    lacks_text (g.S.Source.view c.args.pages.now.source) (g.S.Source.view c.take_packet.new.pages.source) c.args.stream.now c.args.chunk.now c.take_packet.new.chunk c.in-Err.fault c.requires.within.low
    (lacks_packet (g.S.Source.view c.args.pages.now.source) (g.S.Source.view c.loop-length.pages.source) (g.S.Source.view c.take_packet.new.pages.source) c.args.stream.now c.args.chunk.now c.loop-length.chunk c.take_packet.new.chunk IsCut [] c.in-Err.fault
    (cut_prefix c.loop-length.chunk.window (rw bytes at c.in-Cut.ensures.0)) c.loop-length.invariant.takes c.in-Err.ensures.packet)

pub loop-length-preserved : goal.loop-length-preserved
loop-length-preserved g c =
    let bytes = c.bytes.ensures.bytes in
    let inv = c.loop-length.invariant in
    record {
      same_size = c.in_default.ensures.length ∙ inv.same_size;
      same_header = c.in_default.ensures.header ∙ inv.same_header;
      takes = takes_packet (g.S.Source.view c.args.pages.now.source) (g.S.Source.view c.loop-length.pages.source) (g.S.Source.view c.take_packet.new.pages.source) c.args.stream.now c.args.chunk.now c.loop-length.chunk c.take_packet.new.chunk IsCut []
          (cut_prefix c.loop-length.chunk.window (rw bytes at c.in-Cut.ensures.0)) inv.takes c.in_default.ensures.packet;
    }

pub returns-in-TooLong-clause-unknown : goal.returns-in-TooLong-clause-unknown
returns-in-TooLong-clause-unknown g c =
    let bytes = c.bytes.ensures.bytes in
    prefix_over (g.S.Source.view c.args.pages.now.source) (g.S.Source.view c.loop-length.pages.source) c.args.stream.now c.args.chunk.now c.loop-length.chunk c.too_long.result c.requires.within.low c.loop-length.invariant.takes (rw bytes at c.in-TooLong.ensures) c.too_long.ensures

pub returns-in-Err-clause-unknown : goal.returns-in-Err-clause-unknown
returns-in-Err-clause-unknown g c =
    let bytes = c.bytes.ensures.bytes in
    prefix_ends (g.S.Source.view c.args.pages.now.source) (g.S.Source.view c.loop-length.pages.source) (g.S.Source.view c.take_packet.new.pages.source) c.args.stream.now c.args.chunk.now c.loop-length.chunk c.in-Err.fault c.requires.within.low
    (rw bytes at c.in-Cut.ensures.0) c.loop-length.invariant.takes c.in-Err.ensures.packet.cause
