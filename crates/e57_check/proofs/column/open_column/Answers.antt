use Rattle.std.proofs.Common.{◌/◌}
use Rattle.e57_check.proofs.Judged.{column-opened, column-unopened}
use Rattle.e57_check.proofs.column.open_column.Goals as goal

pub returns-in-Err-clause-opened : goal.returns-in-Err-clause-opened
returns-in-Err-clause-opened g c =
    column-unopened (c.args.pages.now.length / 1024) (g.S.Source.view c.args.pages.now.source) (g.S.Source.view c.seek.new.pages.source) c.args.section.now c.args.fixed c.args.f c.args.field.now c.in-Ok.column c.seek.new.self c.in-Err.fault c.from.result c.requires.lies c.in-Ok.ensures c.from.ensures c.in-Err.ensures.seeks

pub returns-clause-opened : goal.returns-clause-opened
returns-clause-opened g c =
    column-opened (c.args.pages.now.length / 1024) (g.S.Source.view c.args.pages.now.source) (g.S.Source.view c.seek.new.pages.source) c.args.section.now c.args.fixed c.args.f c.args.field.now c.in-Ok.column c.seek.new.self c.requires.lies c.in-Ok.ensures c.in_default-seek.ensures.seeks
