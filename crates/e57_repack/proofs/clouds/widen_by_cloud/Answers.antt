use Rattle.std.proofs.Common.{◌/◌, arith}
use Rattle.e57_repack.proofs.OfCloud.{cloud-none, cloud-not-opened, cloud-result}
use Rattle.e57_repack.proofs.clouds.widen_by_cloud.Goals as goal

pub returns-then-count-eq0-clause-widens : goal.returns-then-count-eq0-clause-widens
returns-then-count-eq0-clause-widens g c = cloud-none (c.args.pages.now.length / 1024) c.args.cloud.now c.args.fields.now (g.S.Source.view c.args.pages.now.source) c.args.ranges.now.items c.if-count-eq0.true

pub returns-in-Err-clause-widens : goal.returns-in-Err-clause-widens
returns-in-Err-clause-widens g c =
    let some = c.if-count-eq0.false in
    cloud-not-opened (c.args.pages.now.length / 1024) c.args.cloud.now c.args.fields.now (g.S.Source.view c.args.pages.now.source) (g.S.Source.view c.open_section.new.pages.source) c.args.pages.now.kept c.open_section.new.pages.kept c.in-Err.fault c.from.result (omega (arith, some)) c.from.ensures c.in-Err.ensures.section

pub returns-clause-widens : goal.returns-clause-widens
returns-clause-widens g c =
    let some = c.if-count-eq0.false in
    cloud-result (c.args.pages.now.length / 1024) c.args.cloud.now c.args.fixed c.args.fields.now (g.S.Source.view c.args.pages.now.source) (g.S.Source.view c.open_section.new.pages.source) (g.S.Source.view c.widen_by_section.new.pages.source)
    c.args.pages.now.kept c.open_section.new.pages.kept c.in-Ok.section c.args.ranges.now.items c.widen_by_section.new.ranges.items c.requires.fixed (omega (arith, some)) c.in-Ok.ensures.section c.widen_by_section.result c.widen_by_section.ensures.widens
