use Rattle.std.proofs.Common.{◌/◌, ◌∙◌}
use Rattle.e57_check.proofs.Judged.{block-read, block-stopped, all-wanted, next-record}
use Rattle.e57_check.proofs.column.read_bits32.Goals as goal

pub returns-in-Ok-clause-block : goal.returns-in-Ok-clause-block
returns-in-Ok-clause-block g c =
    let here = next-record c.args.column.now.place c.args.column.now.chunk.at c.args.at c.requires.placed in
    block-read (c.args.pages.now.length / 1024) (g.S.Source.view c.args.pages.now.source) (g.S.Source.view c.bits32.new.pages.source) c.args.column.now c.bits32.new.self c.args.at c.args.n c.in-Ok._read c.requires.lies c.requires.placed (c.in-Ok.ensures.items.0 ∙ all-wanted 0 c.args.n 1024 c.args.at c.args.column.now.chunk.at c.args.column.now.stream.section.count c.requires.few here c.requires.left) c.in-Ok.ensures.items.1.reads

pub returns-in-Err-clause-block : goal.returns-in-Err-clause-block
returns-in-Err-clause-block g c =
    let here = next-record c.args.column.now.place c.args.column.now.chunk.at c.args.at c.requires.placed in
    block-stopped (c.args.pages.now.length / 1024) (g.S.Source.view c.args.pages.now.source) (g.S.Source.view c.bits32.new.pages.source) c.args.column.now c.bits32.new.self c.args.at c.args.n _ c.in-Err.stopped.done c.in-Err.stopped.fault c.from.result c.requires.lies c.requires.placed (all-wanted 0 c.args.n 1024 c.args.at c.args.column.now.chunk.at c.args.column.now.stream.section.count c.requires.few here c.requires.left) c.from.ensures c.in-Err.ensures.items.stops
