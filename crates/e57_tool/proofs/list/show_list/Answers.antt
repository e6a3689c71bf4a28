use Rattle.e57_show.specs.Listing.{list_shown}
use Rattle.e57_tool.specs.Show.{show_answer, text_rule}
use Rattle.e57_tool.proofs.Keeping.{keeps}
use Rattle.e57_tool.proofs.Showing.{is_either}
use Rattle.e57_tool.proofs.list.show_list.Goals as goal

pub returns : goal.returns
returns g c =
    let done = c.show_file-source in
    keeps g.S.Source.view g.T.Target.view g.O.Sink.view (show_answer list_shown) text_rule c.args.name.now c.args.source done.result.0 c.args.target c.args.out.now done.new.out done.result.1 (is_either list_shown) done.ensures
