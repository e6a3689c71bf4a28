use Rattle.std.proofs.Common.{inr, refl, arith}
use Rattle.e57_stream.proofs.NextPacket.{may_take}
use Rattle.e57_stream.proofs.WordItems.{reads_words, onward_words, no_words}
use Rattle.e57_stream.proofs.WordSteps.{reads_packet, stops_packet}
use Rattle.e57_stream.proofs.words.step_words32.Goals as goal

pub returns-then-n-gt0-clause-onward : goal.returns-then-n-gt0-clause-onward
returns-then-n-gt0-clause-onward g c = onward_words 32 c.args.chunk.now c.args.out.now c.take_words32-n.result c.take_words32-n.new.chunk c.take_words32-n.new.out c.if-n-gt0.true c.take_words32-n.ensures

pub returns-then-n-gt0-clause-items : goal.returns-then-n-gt0-clause-items
returns-then-n-gt0-clause-items g c = reads_words (g.S.Source.view c.args.pages.now.source) c.args.stream.now 32 c.args.chunk.now c.args.out.now c.take_words32-n.new.out c.take_words32-n.result c.take_words32-n.new.chunk (omega arith) refl c.requires.within c.requires.left c.take_words32-n.ensures

pub take_packet-requires-clause-within : goal.take_packet-requires-clause-within
take_packet-requires-clause-within g c =
    let none = no_words 32 c.args.chunk.now c.args.out.now c.take_words32-n.result c.take_words32-n.new.chunk c.take_words32-n.new.out (omega arith) (omega arith) c.requires.some c.if-n-gt0.false c.take_words32-n.ensures in
    (may_take c.args.stream.now.section.end 32 c.args.chunk.now c.take_words32-n.new.chunk c.let_go.new.chunk c.requires.within.taken_within none c.let_go.ensures).within

pub take_packet-requires-clause-left : goal.take_packet-requires-clause-left
take_packet-requires-clause-left g c =
    let none = no_words 32 c.args.chunk.now c.args.out.now c.take_words32-n.result c.take_words32-n.new.chunk c.take_words32-n.new.out (omega arith) (omega arith) c.requires.some c.if-n-gt0.false c.take_words32-n.ensures in
    (may_take c.args.stream.now.section.end 32 c.args.chunk.now c.take_words32-n.new.chunk c.let_go.new.chunk c.requires.within.taken_within none c.let_go.ensures).left

pub returns-in-Ok-clause-onward : goal.returns-in-Ok-clause-onward
returns-in-Ok-clause-onward g c =
    inr (reads_packet (g.S.Source.view c.args.pages.now.source) (g.S.Source.view c.take_packet.new.pages.source) c.args.stream.now 32 c.args.chunk.now c.take_words32-n.new.chunk c.let_go.new.chunk c.take_packet.new.chunk c.args.out.now c.take_words32-n.new.out c.take_words32-n.result (omega arith) (omega arith) c.requires.within c.requires.some c.if-n-gt0.false c.take_words32-n.ensures c.let_go.ensures c.in-Ok.ensures.packet).1

pub returns-in-Ok-clause-items : goal.returns-in-Ok-clause-items
returns-in-Ok-clause-items g c =
    (reads_packet (g.S.Source.view c.args.pages.now.source) (g.S.Source.view c.take_packet.new.pages.source) c.args.stream.now 32 c.args.chunk.now c.take_words32-n.new.chunk c.let_go.new.chunk c.take_packet.new.chunk c.args.out.now c.take_words32-n.new.out c.take_words32-n.result (omega arith) (omega arith) c.requires.within c.requires.some c.if-n-gt0.false c.take_words32-n.ensures c.let_go.ensures c.in-Ok.ensures.packet).0

pub returns-in-Err-clause-items : goal.returns-in-Err-clause-items
returns-in-Err-clause-items g c =
    stops_packet (g.S.Source.view c.args.pages.now.source) (g.S.Source.view c.take_packet.new.pages.source) c.args.stream.now 32 c.args.chunk.now c.take_words32-n.new.chunk c.let_go.new.chunk c.take_packet.new.chunk c.args.out.now c.take_words32-n.new.out c.take_words32-n.result c.in-Err.fault (omega arith) (omega arith) c.requires.within c.requires.some c.if-n-gt0.false c.take_words32-n.ensures c.let_go.ensures c.in-Err.ensures.packet
