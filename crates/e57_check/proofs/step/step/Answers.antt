use Rattle.std.proofs.Common.{◌/◌, refl, arith}
use Rattle.e57_section.specs.declared.load.Loaded.TheVariants.{Index, Empty}
use Rattle.e57_check.proofs.Stepping.{lost-step, past-step, data-step, bytes-short}
use Rattle.e57_check.proofs.step.step.Goals as goal

pub returns-in-Err-clause-step : goal.returns-in-Err-clause-step
returns-in-Err-clause-step g c =
    lost-step (c.args.pages.now.length / 1024) (g.S.Source.view c.args.pages.now.source) (g.S.Source.view c.load_packet.new.pages.source) c.args.pages.now.kept c.load_packet.new.pages.kept c.args.section.now c.args.passed c.in-Err.found c.load_packet.new.buf c.requires.lies.within c.in-Err.ensures.packet

pub returns-in-Index-clause-step : goal.returns-in-Index-clause-step
returns-in-Index-clause-step g c =
    let loads = rw c.in-Index.is at c.in-Ok.ensures.packet in
    rw c.past.ensures (past-step (c.args.pages.now.length / 1024) (g.S.Source.view c.args.pages.now.source) (g.S.Source.view c.load_packet.new.pages.source) c.args.pages.now.kept c.load_packet.new.pages.kept c.args.section.now c.args.starts.now c.args.passed (Index c.in-Index.length) c.load_packet.new.buf refl c.requires.lies.within c.requires.within loads)

pub returns-in-Empty-clause-step : goal.returns-in-Empty-clause-step
returns-in-Empty-clause-step g c =
    let loads = rw c.in-Empty.is at c.in-Ok.ensures.packet in
    rw c.past-in-Empty.ensures (past-step (c.args.pages.now.length / 1024) (g.S.Source.view c.args.pages.now.source) (g.S.Source.view c.load_packet.new.pages.source) c.args.pages.now.kept c.load_packet.new.pages.kept c.args.section.now c.args.starts.now c.args.passed (Empty c.in-Empty.length) c.load_packet.new.buf refl c.requires.lies.within c.requires.within loads)

pub arrived-came-requires-clause-room : goal.arrived-came-requires-clause-room
arrived-came-requires-clause-room g c =
    let loads = rw c.in-Stream.is at c.in-Ok.ensures.packet in
    let within = loads.within in
    let counted = c.requires.within.counted in
    let few = bytes-short c.args.section.now c.args.starts.now c.in-Stream.length c.in-Stream.restart c.load_packet.new.buf c.float_bytes-bytes.result loads.streams c.float_bytes-bytes.ensures in
    omega (arith, within, counted, few)

pub returns-clause-step : goal.returns-clause-step
returns-clause-step g c =
    let loads = rw c.in-Stream.is at c.in-Ok.ensures.packet in
    rw c.arrived-came.ensures (data-step (c.args.pages.now.length / 1024) (g.S.Source.view c.args.pages.now.source) (g.S.Source.view c.load_packet.new.pages.source) c.args.pages.now.kept c.load_packet.new.pages.kept c.args.section.now c.args.starts.now c.args.passed c.in-Stream.length c.in-Stream.restart c.load_packet.new.buf c.float_bytes-bytes.result c.requires.starts c.float_bytes-bytes.ensures c.requires.lies.within c.requires.within loads)
