use Rattle.e57_tool.specs.Pages.{pages_answer, AsksInOrder}
use Rattle.e57_tool.proofs.Keeping.{keeps}
use Rattle.e57_tool.proofs.Scanning.{is_either}
use Rattle.e57_tool.proofs.pages.test_pages.Goals as goal

pub returns : goal.returns
returns g c =
    let done = c.scan_file-source in
    keeps g.S.Source.view g.T.Target.view g.O.Sink.view pages_answer AsksInOrder c.args.name.now c.args.source done.result.0 c.args.target c.args.out.now done.new.out done.result.1 is_either done.ensures
