use Rattle.e57_tool.proofs.Checking.{keeps}
use Rattle.e57_tool.proofs.check.check_file.Goals as goal

pub returns : goal.returns
returns g c =
    let done = c.check_open-source in
    keeps g.S.Source.view g.T.Target.view g.O.Sink.view c.args.name.now c.args.source done.result.0 c.args.target c.args.out.now done.new.out done.result.1 c.one_verdict.ensures.one done.ensures
