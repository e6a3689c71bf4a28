use Rattle.std.proofs.Common.{◌≡◌, ◌&&◌, false, refl, arith}
use Rattle.std.proofs.Math.Bool.{and-false}
use Rattle.e57_section.specs.declared.load.Loaded.TheVariants.{Index, Empty}
use Rattle.e57_ahead.proofs.Taking.{lost-packet, passed-packet, more-packet, stream-short, another-packet}
use Rattle.e57_ahead.proofs.step.step.Goals.{else-restart-via-then-restart+else-reached, else-restart-via-else-restart}
use Rattle.e57_ahead.proofs.step.step.Goals as goal

pub returns-in-Err-clause-step : goal.returns-in-Err-clause-step
returns-in-Err-clause-step g c =
    lost-packet (g.S.Source.view c.args.pages.now.source) (g.S.Source.view c.load_packet.new.pages.source) c.args.section.now c.args.fixed c.args.reached c.in-Err.found c.args.pages.now.kept c.load_packet.new.pages.kept c.load_packet.new.buf c.requires.there c.in-Err.ensures.packet

pub passed-requires : goal.passed-requires
passed-requires g c =
    let loads = rw c.in-Index.is at c.in-Ok.ensures.packet in
    let within = loads.within in
    omega (arith, within)

pub returns-in-Index-clause-step : goal.returns-in-Index-clause-step
returns-in-Index-clause-step g c =
    let loads = rw c.in-Index.is at c.in-Ok.ensures.packet in
    rw c.passed.ensures (passed-packet (g.S.Source.view c.args.pages.now.source) (g.S.Source.view c.load_packet.new.pages.source) c.args.section.now c.args.fixed c.args.reached (Index c.in-Index.length) c.args.pages.now.kept c.load_packet.new.pages.kept c.load_packet.new.buf refl c.requires.within c.requires.there loads)

pub passed-requires-in-Empty : goal.passed-requires-in-Empty
passed-requires-in-Empty g c =
    let loads = rw c.in-Empty.is at c.in-Ok.ensures.packet in
    let within = loads.within in
    omega (arith, within)

pub returns-in-Empty-clause-step : goal.returns-in-Empty-clause-step
returns-in-Empty-clause-step g c =
    let loads = rw c.in-Empty.is at c.in-Ok.ensures.packet in
    rw c.passed-in-Empty.ensures (passed-packet (g.S.Source.view c.args.pages.now.source) (g.S.Source.view c.load_packet.new.pages.source) c.args.section.now c.args.fixed c.args.reached (Empty c.in-Empty.length) c.args.pages.now.kept c.load_packet.new.pages.kept c.load_packet.new.buf refl c.requires.within c.requires.there loads)

pub another-requires-clause-room : goal.another-requires-clause-room
another-requires-clause-room g c =
    let loads = rw c.in-Stream.is at c.in-Ok.ensures.packet in
    let within = loads.within in
    omega (arith, within)

pub returns-then-reached-clause-step : goal.returns-then-reached-clause-step
returns-then-reached-clause-step g c =
    let loads = rw c.in-Stream.is at c.in-Ok.ensures.packet in
    another-packet (g.S.Source.view c.args.pages.now.source) (g.S.Source.view c.load_packet.new.pages.source) c.args.section.now c.args.fixed c.args.reached c.in-Stream.length c.in-Stream.restart c.args.pages.now.kept c.load_packet.new.pages.kept c.load_packet.new.buf c.stream.result.now c.another.result c.if-restart.true c.if-reached.true c.stream.ensures.bytes c.requires.within c.requires.there loads c.another.ensures

pub overflow_add-result : goal.overflow_add-result
overflow_add-result g c =
    let loads = rw c.in-Stream.is at c.in-Ok.ensures.packet in
    let within = loads.within in
    omega (arith, within)

pub overflow_add-result-2 : goal.overflow_add-result-2
overflow_add-result-2 g c =
    let loads = rw c.in-Stream.is at c.in-Ok.ensures.packet in
    let within = loads.within in
    let counted = c.requires.within.counted in
    let short = stream-short c.args.section.now c.in-Stream.length c.in-Stream.restart c.load_packet.new.buf c.args.fixed.field c.stream.result.now loads.streams c.stream.ensures.bytes in
    omega (arith, within, counted, short)

pub returns-clause-step : goal.returns-clause-step
returns-clause-step g c =
    let loads = rw c.in-Stream.is at c.in-Ok.ensures.packet in
    let off : (c.in-Stream.restart && c.args.reached.has_data) ≡ false =
    elim c.else-restart.branch [
      | else-restart-via-then-restart+else-reached w ↦ rw w.if-reached.false (and-false c.in-Stream.restart)
      | else-restart-via-else-restart w ↦ rw w.if-restart.false refl
    ] in
    more-packet (g.S.Source.view c.args.pages.now.source) (g.S.Source.view c.load_packet.new.pages.source) c.args.section.now c.args.fixed c.args.reached c.in-Stream.length c.in-Stream.restart c.args.pages.now.kept c.load_packet.new.pages.kept c.load_packet.new.buf c.stream.result.now off c.stream.ensures.bytes c.requires.within c.requires.there loads
