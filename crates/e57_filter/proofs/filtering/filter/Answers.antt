use Rattle.std.specs.Prelude.{◌/◌}
use Rattle.e57_check.proofs.AskingLaws.{asks_where_on}
use Rattle.e57_filter.proofs.filtering.filter.Goals as goal

pub returns-clause-source : goal.returns-clause-source
returns-clause-source g c =
    asks_where_on (λ file. Unit {0}) (c.args.pages.now.length / 1024) (g.S.Source.view c.args.pages.now.source) (g.S.Source.view c.judge.new.pages.source) (g.S.Source.view c.rewrite.new.pages.source)
    c.in-Ok.ensures.verdict.accepts.source (rw c.in-Ok.ensures.length at c.rewrite.ensures.source)
