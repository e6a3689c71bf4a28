use Rattle.std.proofs.Common.{◌/◌}
use Rattle.e57_check.proofs.Judged.{some-read, some-full, block-stopped, all-wanted, next-record}
use Rattle.e57_check.proofs.block.read_some.Goals as goal

pub returns-in-Ok-make_room-clause-block : goal.returns-in-Ok-make_room-clause-block
returns-in-Ok-make_room-clause-block g c =
    let here = next-record c.args.column.now.place c.args.column.now.chunk.at c.args.at c.requires.placed in
    some-read (c.args.pages.now.length / 1024) (g.S.Source.view c.args.pages.now.source) (g.S.Source.view c.texts.new.pages.source) c.args.column.now c.texts.new.self c.args.at c.args.n _ c.in-Ok.read c.requires.lies c.requires.placed (all-wanted 0 c.args.n 1024 c.args.at c.args.column.now.chunk.at c.args.column.now.stream.section.count c.requires.few here c.requires.left) c.in-Ok.ensures.texts

pub returns-in-Err-make_room-clause-block : goal.returns-in-Err-make_room-clause-block
returns-in-Err-make_room-clause-block g c =
    let here = next-record c.args.column.now.place c.args.column.now.chunk.at c.args.at c.requires.placed in
    some-full (c.args.pages.now.length / 1024) (g.S.Source.view c.args.pages.now.source) (g.S.Source.view c.texts.new.pages.source) c.args.column.now c.texts.new.self c.args.at c.args.n _ c.in-Ok.read c.requires.lies c.requires.placed (all-wanted 0 c.args.n 1024 c.args.at c.args.column.now.chunk.at c.args.column.now.stream.section.count c.requires.few here c.requires.left) c.in-Ok.ensures.texts

pub returns-in-Err-clause-block : goal.returns-in-Err-clause-block
returns-in-Err-clause-block g c =
    let here = next-record c.args.column.now.place c.args.column.now.chunk.at c.args.at c.requires.placed in
    block-stopped (c.args.pages.now.length / 1024) (g.S.Source.view c.args.pages.now.source) (g.S.Source.view c.texts.new.pages.source) c.args.column.now c.texts.new.self c.args.at c.args.n _ c.in-Err.stopped.done c.in-Err.stopped.fault c.from.result c.requires.lies c.requires.placed (all-wanted 0 c.args.n 1024 c.args.at c.args.column.now.chunk.at c.args.column.now.stream.section.count c.requires.few here c.requires.left) c.from.ensures c.in-Err.ensures.texts.stops
