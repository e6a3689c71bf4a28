use Rattle.e57_filter.specs.Asking.{filtering}
use Rattle.e57_filter.specs.Asks.{filter_asked}
use Rattle.e57_tool.proofs.Anew.{keeps, filter_gives_one}
use Rattle.e57_tool.proofs.filter.filter_file.Goals as goal

pub returns : goal.returns
returns g c =
    let done = c.write_kept in
    let asked = filter_asked c.args.ask.now in
    keeps g.S.Source.view g.T.Target.view g.O.Sink.view (filtering asked) c.args.name.now c.args.made.now c.args.source done.result.0 c.args.target done.result.1 c.args.out.now done.result.2 c.one_verdict.ensures.one c.one_content.ensures.one c.one_content.ensures.accepted (filter_gives_one asked) done.ensures
