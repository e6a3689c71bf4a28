use Rattle.std.proofs.Common.{◌≡◌, ◌⊎◌, true, false, inl, inr, arith}
use Rattle.e57_stream.proofs.Takings.{takes_data, takes_index, takes_empty, none_end, none_next, none_faulty}
use Rattle.e57_stream.proofs.taking.take_packet.Goals as goal
use Rattle.e57_stream.proofs.taking.take_packet.Goals.{else-restart-via-then-restart+else-not-chunk, else-restart-via-else-restart}

pub returns-then-end-taken-lt-PACKET_HEAD-clause-packet : goal.returns-then-end-taken-lt-PACKET_HEAD-clause-packet
returns-then-end-taken-lt-PACKET_HEAD-clause-packet g c =
    let over = c.if-end-taken-lt-PACKET_HEAD.true in
    none_end (g.S.Source.view c.args.pages.now.source) c.args.stream.now c.args.chunk.now c.short.result (omega (arith, over)) c.short.ensures

pub returns-in-Err-clause-packet : goal.returns-in-Err-clause-packet
returns-in-Err-clause-packet g c =
    let there = c.if-end-taken-lt-PACKET_HEAD.false in
    let within = c.requires.within in
    none_faulty (g.S.Source.view c.args.pages.now.source) (g.S.Source.view c.load_packet.new.pages.source) c.args.pages.now.kept c.load_packet.new.pages.kept c.args.stream.now c.args.chunk.now c.load_packet.new.buf c.in-Err.found (omega (arith, there, within)) c.in-Err.ensures.packet

pub returns-then-not-chunk-clause-packet : goal.returns-then-not-chunk-clause-packet
returns-then-not-chunk-clause-packet g c =
    let loads = rw c.in-Stream.is at c.in-Ok.ensures.packet in
    none_next (g.S.Source.view c.args.pages.now.source) (g.S.Source.view c.load_packet.new.pages.source) c.args.pages.now.kept c.load_packet.new.pages.kept c.args.stream.now c.args.chunk.now c.in-Stream.length c.in-Stream.restart c.load_packet.new.buf c.restarted.result c.if-not-chunk.true c.if-restart.true loads c.restarted.ensures

pub extend-requires-clause-packet : goal.extend-requires-clause-packet
extend-requires-clause-packet g c = c.stream-bytes.ensures.few

pub behind-chunk-requires : goal.behind-chunk-requires
behind-chunk-requires g c =
    let loads = rw c.in-Stream.is at c.in-Ok.ensures.packet in
    loads.within

pub behind-chunk-requires-in-Index : goal.behind-chunk-requires-in-Index
behind-chunk-requires-in-Index g c =
    let loads = rw c.in-Index.is at c.in-Ok.ensures.packet in
    loads.within

pub behind-chunk-requires-in-Empty : goal.behind-chunk-requires-in-Empty
behind-chunk-requires-in-Empty g c =
    let loads = rw c.in-Empty.is at c.in-Ok.ensures.packet in
    loads.within

pub returns-else-restart-clause-packet : goal.returns-else-restart-clause-packet
returns-else-restart-clause-packet g c =
    let loads = rw c.in-Stream.is at c.in-Ok.ensures.packet in
    let belongs : (c.args.chunk.now.fresh ≡ true) ⊎ (c.in-Stream.restart ≡ false) = elim c.else-restart.branch [ else-restart-via-then-restart+else-not-chunk w ↦ inl w.if-not-chunk.false | else-restart-via-else-restart w ↦ inr w.if-restart.false ] in
    rw c.behind-chunk.ensures (takes_data (g.S.Source.view c.args.pages.now.source) (g.S.Source.view c.load_packet.new.pages.source) c.args.pages.now.kept c.load_packet.new.pages.kept c.args.stream.now c.args.chunk.now c.in-Stream.length c.in-Stream.restart c.load_packet.new.buf c.stream-bytes.result.now c.extend.new.self belongs c.stream-bytes.ensures.bytes c.extend.ensures loads)

pub returns-in-Index-clause-packet : goal.returns-in-Index-clause-packet
returns-in-Index-clause-packet g c =
    rw c.behind-chunk-in-Index.ensures (takes_index (g.S.Source.view c.args.pages.now.source) (g.S.Source.view c.load_packet.new.pages.source) c.args.pages.now.kept c.load_packet.new.pages.kept c.args.stream.now c.args.chunk.now c.in-Index.length c.load_packet.new.buf (rw c.in-Index.is at c.in-Ok.ensures.packet))

pub returns-in-Empty-clause-packet : goal.returns-in-Empty-clause-packet
returns-in-Empty-clause-packet g c =
    rw c.behind-chunk-in-Empty.ensures (takes_empty (g.S.Source.view c.args.pages.now.source) (g.S.Source.view c.load_packet.new.pages.source) c.args.pages.now.kept c.load_packet.new.pages.kept c.args.stream.now c.args.chunk.now c.in-Empty.length c.load_packet.new.buf (rw c.in-Empty.is at c.in-Ok.ensures.packet))
