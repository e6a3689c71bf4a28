use Rattle.std.proofs.Common.{inr}
use Rattle.e57_stream.proofs.IntegerItems.{reads_integers, stops_integers}
use Rattle.e57_stream.proofs.IntegerSteps.{onward_items, may_take_on, reads_packet, stops_packet}
use Rattle.e57_stream.proofs.integers.step_integers.Goals as goal

pub returns-then-n-gt0-clause-onward : goal.returns-then-n-gt0-clause-onward
returns-then-n-gt0-clause-onward g c = onward_items c.args.range.now c.args.chunk.now c.take_integers.new.chunk c.args.out.now c.take_integers.new.out c.in-Ok.n c.if-n-gt0.true c.in-Ok.ensures

pub returns-then-n-gt0-clause-items : goal.returns-then-n-gt0-clause-items
returns-then-n-gt0-clause-items g c =
    reads_integers (g.S.Source.view c.args.pages.now.source) c.args.stream.now c.args.range.now c.args.chunk.now c.args.out.now c.take_integers.new.out c.in-Ok.n c.take_integers.new.chunk c.requires.range c.requires.within c.requires.left c.in-Ok.ensures

pub returns-in-Err-clause-items : goal.returns-in-Err-clause-items
returns-in-Err-clause-items g c =
    stops_integers (g.S.Source.view c.args.pages.now.source) c.args.stream.now c.args.range.now c.args.chunk.now c.args.out.now c.take_integers.new.out c.in-Err.k c.out_of_range.result c.take_integers.new.chunk c.requires.range c.requires.within c.in-Err.ensures c.out_of_range.ensures

pub take_packet-requires-clause-within : goal.take_packet-requires-clause-within
take_packet-requires-clause-within g c =
    (may_take_on c.args.stream.now c.args.range.now c.args.chunk.now c.take_integers.new.chunk c.let_go.new.chunk c.args.out.now c.take_integers.new.out c.in-Ok.n c.requires.range c.requires.within.taken_within c.requires.some c.if-n-gt0.false c.in-Ok.ensures c.let_go.ensures).within

pub take_packet-requires-clause-left : goal.take_packet-requires-clause-left
take_packet-requires-clause-left g c =
    (may_take_on c.args.stream.now c.args.range.now c.args.chunk.now c.take_integers.new.chunk c.let_go.new.chunk c.args.out.now c.take_integers.new.out c.in-Ok.n c.requires.range c.requires.within.taken_within c.requires.some c.if-n-gt0.false c.in-Ok.ensures c.let_go.ensures).left

pub returns-in-Ok-take_packet-clause-onward : goal.returns-in-Ok-take_packet-clause-onward
returns-in-Ok-take_packet-clause-onward g c =
    inr (reads_packet (g.S.Source.view c.args.pages.now.source) (g.S.Source.view c.take_packet.new.pages.source) c.args.stream.now c.args.range.now c.args.chunk.now c.take_integers.new.chunk c.let_go.new.chunk c.take_packet.new.chunk c.args.out.now c.take_integers.new.out c.in-Ok.n c.requires.range c.requires.within c.requires.some c.if-n-gt0.false c.in-Ok.ensures c.let_go.ensures c.in-Ok-take_packet.ensures.packet).1

pub returns-in-Ok-take_packet-clause-items : goal.returns-in-Ok-take_packet-clause-items
returns-in-Ok-take_packet-clause-items g c =
    (reads_packet (g.S.Source.view c.args.pages.now.source) (g.S.Source.view c.take_packet.new.pages.source) c.args.stream.now c.args.range.now c.args.chunk.now c.take_integers.new.chunk c.let_go.new.chunk c.take_packet.new.chunk c.args.out.now c.take_integers.new.out c.in-Ok.n c.requires.range c.requires.within c.requires.some c.if-n-gt0.false c.in-Ok.ensures c.let_go.ensures c.in-Ok-take_packet.ensures.packet).0

pub returns-in-Err-take_packet-clause-items : goal.returns-in-Err-take_packet-clause-items
returns-in-Err-take_packet-clause-items g c =
    stops_packet (g.S.Source.view c.args.pages.now.source) (g.S.Source.view c.take_packet.new.pages.source) c.args.stream.now c.args.range.now c.args.chunk.now c.take_integers.new.chunk c.let_go.new.chunk c.take_packet.new.chunk c.args.out.now c.take_integers.new.out c.in-Ok.n c.in-Err-take_packet.fault c.requires.range c.requires.within c.requires.some c.if-n-gt0.false c.in-Ok.ensures c.let_go.ensures c.in-Err-take_packet.ensures.packet
