use Rattle.std.proofs.Common.{◌/◌, arith}
use Rattle.e57_nodes.specs.Items.{leaves_of}
use Rattle.e57_check.specs.Clouds.{cloud_of}
use Rattle.e57_trial.proofs.OfCloud.{cloud-none, cloud-not-opened, cloud-result}
use Rattle.e57_trial.proofs.sum.sum_cloud.Goals as goal

pub returns-then-count-eq0-clause-sum : goal.returns-then-count-eq0-clause-sum
returns-then-count-eq0-clause-sum g c = cloud-none (c.args.pages.now.length / 1024) (cloud_of c.args.cloud.now (leaves_of c.args.fields.now)) (g.S.Source.view c.args.pages.now.source) c.if-count-eq0.true

pub returns-in-Err-clause-sum : goal.returns-in-Err-clause-sum
returns-in-Err-clause-sum g c =
    let some = c.if-count-eq0.false in
    cloud-not-opened (c.args.pages.now.length / 1024) c.args.cloud.now c.args.fields.now (g.S.Source.view c.args.pages.now.source) (g.S.Source.view c.open_section.new.pages.source) c.args.pages.now.kept c.open_section.new.pages.kept c.in-Err.fault c.from.result (omega (arith, some)) c.from.ensures c.in-Err.ensures.section

pub returns-clause-sum : goal.returns-clause-sum
returns-clause-sum g c =
    let some = c.if-count-eq0.false in
    cloud-result (c.args.pages.now.length / 1024) c.args.cloud.now c.args.fixed c.args.fields.now (g.S.Source.view c.args.pages.now.source) (g.S.Source.view c.open_section.new.pages.source) (g.S.Source.view c.sum_section.new.pages.source)
    c.args.pages.now.kept c.open_section.new.pages.kept c.in-Ok.section c.requires.fixed (omega (arith, some)) c.in-Ok.ensures.section c.sum_section.result c.sum_section.ensures.sum
