use Rattle.e57_tool.proofs.Checking.{checks}
use Rattle.e57_tool.proofs.check.check_open.Goals as goal

pub returns : goal.returns
returns g c =
    let done = c.judge-source in
    checks c.args.name.now (g.S.Source.view c.args.source) (g.S.Source.view done.result.0) done.result.1 (g.O.Sink.view c.args.out.now) (g.O.Sink.view c.put_verdict-ending.new.out) c.put_verdict-ending.result done.ensures c.put_verdict-ending.ensures
