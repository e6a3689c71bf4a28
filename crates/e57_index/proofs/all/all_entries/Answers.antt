use Rattle.e57_index.proofs.Gathered.{index_gathered, index_lost}
use Rattle.e57_index.proofs.all.all_entries.Goals as goal

pub returns-in-Err-clause-entries : goal.returns-in-Err-clause-entries
returns-in-Err-clause-entries g c = index_lost (g.S.Source.view c.args.pages.now.source) (g.S.Source.view c.gather.new.pages.source) c.args.section.now c.in-Err.found c.in-Err.ensures.branch

pub returns-clause-entries : goal.returns-clause-entries
returns-clause-entries g c = index_gathered (g.S.Source.view c.args.pages.now.source) (g.S.Source.view c.gather.new.pages.source) c.args.section.now c.gather.new.out.items c.requires.lies.some_records c.new-list.result.items c.new-list.ensures.items c.in_default.ensures.branch
