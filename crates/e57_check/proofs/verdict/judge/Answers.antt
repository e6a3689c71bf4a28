use Rattle.std.proofs.Common.{List, ◌/◌, ◌∙◌, subst, arith}
use Rattle.e57_elements.specs.Lawful.{AreNodes}
use Rattle.e57_elements.specs.declared.tree.RawNode.{RawNode}
use Rattle.e57_check.proofs.Verdicts.{is-open, scan-lost, scanned, xml-asked, tree-lost, opened, judges, things-lost}
use Rattle.e57_check.proofs.verdict.judge.Goals as goal

pub returns-in-Err-clause-verdict : goal.returns-in-Err-clause-verdict
returns-in-Err-clause-verdict g c =
    let now = c.args.pages.now in
    let old = g.S.Source.view now.source in
    let told = is-open now.length old (g.met.S.Source.holds_size now.source) c.logical_len-size.ensures.open_size c.header-header.ensures.first in
    scan-lost now.length c.in-Err.ensures.pages.0 old (g.S.Source.view c.scan.new.self.source) c.in-Err.fault c.from.result c.from.ensures told c.in-Err.ensures.pages.1

pub returns-in-Err-open-clause-verdict : goal.returns-in-Err-open-clause-verdict
returns-in-Err-open-clause-verdict g c =
    let now = c.args.pages.now in
    let old = g.S.Source.view now.source in
    let mid = g.S.Source.view c.scan.new.self.source in
    let new = g.S.Source.view c.open.new.pages.source in
    let told = is-open now.length old (g.met.S.Source.holds_size now.source) c.logical_len-size.ensures.open_size c.header-header.ensures.first in
    let long = c.in_default.ensures.length in
    tree-lost (now.length / 1024) old mid new c.in-Err-open.fault (scanned now.length c.in_default.field-0 old mid told c.in_default.ensures.count c.in_default.ensures.pages)
    (xml-asked c.scan.new.self (now.length / 1024) mid new (omega (arith, long)) c.in-Err-open.ensures.asked) c.in-Err-open.ensures.opened

pub returns-in-Ok-judge_items-clause-verdict : goal.returns-in-Ok-judge_items-clause-verdict
returns-in-Ok-judge_items-clause-verdict g c =
    let now = c.args.pages.now in
    let old = g.S.Source.view now.source in
    let mid = g.S.Source.view c.scan.new.self.source in
    let new = g.S.Source.view c.open.new.pages.source in
    let told = is-open now.length old (g.met.S.Source.holds_size now.source) c.logical_len-size.ensures.open_size c.header-header.ensures.first in
    let long = c.in_default.ensures.length in
    let file = opened (now.length / 1024) old mid new c.in-Ok.file (scanned now.length c.in_default.field-0 old mid told c.in_default.ensures.count c.in_default.ensures.pages)
    (xml-asked c.scan.new.self (now.length / 1024) mid new (omega (arith, long)) c.in-Ok.ensures.asked) c.in-Ok.ensures.opened (subst (λ (nodes : List RawNode). AreNodes nodes) c.tree.ensures c.raw-raw.ensures.nodes) in
    judges (now.length / 1024) old new (g.S.Source.view c.judge_items.new.pages.source) c.in-Ok.file c.in-Ok-judge_items.summary file
    (λ e same. rw (c.in-Ok.ensures.length ∙ c.in_default.ensures.length) at (c.in-Ok-judge_items.ensures.things e same))

pub returns-in-Err-judge_items-clause-verdict : goal.returns-in-Err-judge_items-clause-verdict
returns-in-Err-judge_items-clause-verdict g c =
    let now = c.args.pages.now in
    let old = g.S.Source.view now.source in
    let mid = g.S.Source.view c.scan.new.self.source in
    let new = g.S.Source.view c.open.new.pages.source in
    let told = is-open now.length old (g.met.S.Source.holds_size now.source) c.logical_len-size.ensures.open_size c.header-header.ensures.first in
    let long = c.in_default.ensures.length in
    let file = opened (now.length / 1024) old mid new c.in-Ok.file (scanned now.length c.in_default.field-0 old mid told c.in_default.ensures.count c.in_default.ensures.pages)
    (xml-asked c.scan.new.self (now.length / 1024) mid new (omega (arith, long)) c.in-Ok.ensures.asked) c.in-Ok.ensures.opened (subst (λ (nodes : List RawNode). AreNodes nodes) c.tree.ensures c.raw-raw.ensures.nodes) in
    things-lost (now.length / 1024) old new (g.S.Source.view c.judge_items.new.pages.source) c.in-Ok.file c.in-Err-judge_items.found file
    (λ e same. rw (c.in-Ok.ensures.length ∙ c.in_default.ensures.length) at (c.in-Err-judge_items.ensures.things e same))
