use Rattle.std.proofs.Common.{◌/◌, length, drop}
use Rattle.e57_check.proofs.Blocks.{block-kept}
use Rattle.e57_check.proofs.fields.judge_block.Goals as goal

pub returns-in-Ok-clause-block : goal.returns-in-Ok-clause-block
returns-in-Ok-clause-block g c =
    block-kept (c.args.pages.now.length / 1024) (g.S.Source.view c.args.pages.now.source) (g.S.Source.view c.read_row.new.pages.source) c.args.section.now c.args.judging.now.columns.items c.deref_mut.result.now c.args.judging.now.found c.in-Ok.row.found c.or-judging.result c.args.at c.args.n c.in-Ok.row.passed c.args.judging.now.columns.len c.read_row.new.columns (drop (length c.read_row.new.columns) c.args.judging.now.columns.items) c.truncate.new.self.items c.deref_mut.ensures.value c.deref_mut.ensures.len c.truncate.ensures.items c.or-judging.ensures c.in-Ok.ensures.row
