use Rattle.std.specs.Prelude.{◌/◌}
use Rattle.e57_check.proofs.AskingLaws.{asks_where_on}
use Rattle.e57_repack.proofs.repacking.repack.Goals as goal

pub returns-then-tight-clause-source : goal.returns-then-tight-clause-source
returns-then-tight-clause-source g c =
    asks_where_on (λ file. Unit {0}) (c.args.pages.now.length / 1024) (g.S.Source.view c.args.pages.now.source) (g.S.Source.view c.judge.new.pages.source) (g.S.Source.view c.rewrite_narrow.new.pages.source)
    c.in-Ok.ensures.verdict.accepts.source (rw c.in-Ok.ensures.length at c.rewrite_narrow.ensures.source)

pub returns-clause-source : goal.returns-clause-source
returns-clause-source g c =
    asks_where_on (λ file. Unit {0}) (c.args.pages.now.length / 1024) (g.S.Source.view c.args.pages.now.source) (g.S.Source.view c.judge.new.pages.source) (g.S.Source.view c.rewrite.new.pages.source)
    c.in-Ok.ensures.verdict.accepts.source (rw c.in-Ok.ensures.length at c.rewrite.ensures.source)
