use Rattle.e57_copy.proofs.Beginning.{written-or-not}
use Rattle.e57_filter.specs.Filtering.{filtered}
use Rattle.e57_filter.specs.Selecting.{selection_of}
use Rattle.e57_filter.proofs.anew.write_filtered.Goals as goal

pub returns-clause-writes : goal.returns-clause-writes
returns-clause-writes g c = λ e same.
    rw c.into_target.ensures
    (written-or-not g.T.Target.view (g.T.Target.view c.args.target) c.args.name.now c.in-Ok.out c.in-Ok.ensures.opened
    (filtered (selection_of c.args.every c.args.selected.now) e (g.S.Source.view c.args.pages.now.source) (g.S.Source.view c.write_rest-result.new.pages.source))
    (g.T.Target.view c.write_rest-result.new.out.target) c.write_rest-result.result (c.write_rest-result.ensures.ends e same))
