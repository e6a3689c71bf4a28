use Rattle.e57_filter.specs.Asking.{filtering}
use Rattle.e57_filter.specs.Asks.{filter_asked}
use Rattle.e57_tool.proofs.Anew.{unopened, rewritten}
use Rattle.e57_tool.proofs.filter.write_kept.Goals as goal

pub returns-in-Err : goal.returns-in-Err
returns-in-Err g c =
    rw c.from.ensures
    (unopened c.opening_agrees.ensures.opening (filtering (filter_asked c.args.ask.now)) c.args.name.now c.args.made.now (g.S.Source.view c.args.source) (g.S.Source.view c.in-Err.source) (g.T.Target.view c.args.target) c.in-Err.fault c.in-Err.ensures.opened)

pub returns : goal.returns
returns g c =
    let view = g.S.Source.view in
    let before = c.in-Ok.pages in
    let after = c.filter-target.new.pages in
    let asks = c.filter-target.ensures.source in
    rw c.into_source.ensures
    (rewritten g.T.Target.view (filtering (filter_asked c.args.ask.now)) c.args.name.now c.args.made.now (view c.args.source) (view before.source) (view after.source) before.length before.header asks.pages c.args.target c.filter-target.result.0 c.filter-target.result.1 c.of_writing.result c.in-Ok.ensures.opened asks.asks c.filter-target.ensures.rewrites c.of_writing.ensures)
