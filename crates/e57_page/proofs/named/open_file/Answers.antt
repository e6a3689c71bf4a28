use Rattle.e57_page.proofs.OpeningFile.{opening_ends}
use Rattle.e57_page.proofs.named.open_file.Goals as goal

pub returns-clause-opened : goal.returns-clause-opened
returns-clause-opened g c =
    let view = g.S.Source.view in
    opening_ends view (view c.args.source) (view c.open.new.self) c.args.name.now c.in-Ok.length c.open-2.result c.in-Ok.ensures (g.met.S.Source.holds_size c.open.new.self) c.open-2.ensures.opened
