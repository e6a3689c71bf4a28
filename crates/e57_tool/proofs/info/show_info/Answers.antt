use Rattle.e57_show.specs.Info.{info_shown}
use Rattle.e57_tool.specs.Show.{show_answer, text_rule}
use Rattle.e57_tool.proofs.Keeping.{keeps}
use Rattle.e57_tool.proofs.Showing.{is_either}
use Rattle.e57_tool.proofs.info.show_info.Goals as goal

pub returns : goal.returns
returns g c =
    let done = c.show_file-source in
    keeps g.S.Source.view g.T.Target.view g.O.Sink.view (show_answer info_shown) text_rule c.args.name.now c.args.source done.result.0 c.args.target c.args.out.now done.new.out done.result.1 (is_either info_shown) done.ensures
