use Rattle.std.proofs.Common.{◌/◌, get_or, refl, ◌∙◌}
use Rattle.e57_check.proofs.Rows.{row-begin, row-on, row-stopped}
use Rattle.e57_check.proofs.row.read_row.Goals as goal

pub loop-j-init : goal.loop-j-init
loop-j-init g c = (row-begin (c.args.pages.now.length / 1024) (g.S.Source.view c.args.pages.now.source) c.args.section.now c.args.columns.now c.args.at c.args.n c.requires.all, refl, refl)

pub loop-j-preserved : goal.loop-j-preserved
loop-j-preserved g c = (
  row-on (c.args.pages.now.length / 1024) (g.S.Source.view c.args.pages.now.source) (g.S.Source.view c.loop-j.pages.source) (g.S.Source.view c.read_block.new.pages.source) c.args.section.now c.args.columns.now c.args.at c.args.n c.loop-j.j c.loop-j.columns (get_or c.loop-j.columns c.loop-j.j c.index-columns-j.result) c.read_block.new.judge c.index-columns-j.result refl c.loop-j-test.true c.loop-j.auto.columns c.loop-j.invariant.0 (rw c.loop-j.invariant.1 at c.in_default.ensures.block),
  c.in_default.ensures.length ∙ c.loop-j.invariant.1,
  c.in_default.ensures.header ∙ c.loop-j.invariant.2,
)

pub returns-in-Err-clause-row : goal.returns-in-Err-clause-row
returns-in-Err-clause-row g c =
    row-stopped (c.args.pages.now.length / 1024) (g.S.Source.view c.args.pages.now.source) (g.S.Source.view c.loop-j.pages.source) (g.S.Source.view c.read_block.new.pages.source) c.args.section.now c.args.columns.now c.args.at c.args.n c.loop-j.j c.loop-j.columns (get_or c.loop-j.columns c.loop-j.j c.index-columns-j.result) c.read_block.new.judge c.index-columns-j.result c.in-Err.fault c.stopped.result refl c.loop-j-test.true c.loop-j.auto.columns c.loop-j.invariant.0 (rw c.loop-j.invariant.1 at c.in-Err.ensures.block) c.stopped.ensures
