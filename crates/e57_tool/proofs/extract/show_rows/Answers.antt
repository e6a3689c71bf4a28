use Rattle.e57_show.specs.Extract.{asked_by, rows_streamed}
use Rattle.e57_tool.specs.Extract.{rows_rule}
use Rattle.e57_tool.proofs.Streaming.{keeps}
use Rattle.e57_tool.proofs.extract.show_rows.Goals as goal

pub returns : goal.returns
returns g c =
    let done = c.show_file-source in
    let asked = asked_by c.args.ask.now in
    keeps g.S.Source.view g.T.Target.view g.O.Sink.view (rows_streamed asked) (rows_rule asked) c.args.name.now c.args.source done.result.0 c.args.target c.args.out.now done.new.out done.result.1 done.ensures
