use Rattle.std.proofs.Common.{◌∙◌, arith, ◌/◌}
use Rattle.e57_page.proofs.PagesLaws.{has_page}
use Rattle.e57_page.proofs.Fetching.{scanned_none, scanned_more, scanned_to}
use Rattle.e57_page.proofs.fetch.scan.Goals as goal

pub loop-n-init : goal.loop-n-init
loop-n-init g c = scanned_none (g.S.Source.view c.args.source.now)

pub fetch-requires : goal.fetch-requires
fetch-requires g c =
    let scanned = c.loop-n.invariant in
    has_page (g.S.Source.view c.loop-n.source) c.args.length c.loop-n.n (scanned.source.same.size ∙ c.requires) (omega arith)

pub loop-n-preserved : goal.loop-n-preserved
loop-n-preserved g c = scanned_more (g.S.Source.view c.args.source.now) (g.S.Source.view c.loop-n.source) (g.S.Source.view c.fetch.new.source) c.loop-n.n c.fetch.new.page c.loop-n.invariant c.in_default.ensures

pub returns-in-Err-clause-pages : goal.returns-in-Err-clause-pages
returns-in-Err-clause-pages g c =
    (c.loop-n.n, scanned_to (g.S.Source.view c.args.source.now) (g.S.Source.view c.loop-n.source) (g.S.Source.view c.fetch.new.source) c.loop-n.n (c.args.length / 1024) c.in-Err.fault (omega arith) c.loop-n.invariant c.in-Err.ensures)
