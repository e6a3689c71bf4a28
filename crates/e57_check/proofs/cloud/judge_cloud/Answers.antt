use Rattle.std.proofs.Common.{◌/◌, length, sym, arith}
use Rattle.e57_nodes.specs.Items.{leaves_of}
use Rattle.e57_check.proofs.Bodies.{float-field, cloud-nothing, cloud-unopened, cloud-result}
use Rattle.e57_check.proofs.cloud.judge_cloud.Goals as goal

pub returns-then-count-eq0-clause-cloud : goal.returns-then-count-eq0-clause-cloud
returns-then-count-eq0-clause-cloud g c =
    cloud-nothing (c.args.pages.now.length / 1024) (g.S.Source.view c.args.pages.now.source) c.args.cloud.now (leaves_of c.args.fields.now) (let none = c.if-count-eq0.true in omega (arith, none))

pub returns-in-Err-clause-cloud : goal.returns-in-Err-clause-cloud
returns-in-Err-clause-cloud g c =
    cloud-unopened c.args.pages.now.kept c.open_section.new.pages.kept (c.args.pages.now.length / 1024) (length c.args.fields.now) (g.S.Source.view c.args.pages.now.source) (g.S.Source.view c.open_section.new.pages.source) c.args.cloud.now (leaves_of c.args.fields.now) c.in-Err.fault c.from.result (let some = c.if-count-eq0.false in omega (arith, some)) c.from.ensures c.in-Err.ensures.section

pub judge_body-requires-clause-fixed_field : goal.judge_body-requires-clause-fixed_field
judge_body-requires-clause-fixed_field g c = (float-field c.in-Ok.section c.args.fields.now c.args.fixed (sym c.in-Ok.ensures.section.has_fields) c.requires.fixed).0

pub judge_body-requires-clause-fixed_width : goal.judge_body-requires-clause-fixed_width
judge_body-requires-clause-fixed_width g c = (float-field c.in-Ok.section c.args.fields.now c.args.fixed (sym c.in-Ok.ensures.section.has_fields) c.requires.fixed).1

pub returns-clause-cloud : goal.returns-clause-cloud
returns-clause-cloud g c =
    cloud-result c.args.pages.now.kept c.open_section.new.pages.kept (c.args.pages.now.length / 1024) c.args.fields.now (g.S.Source.view c.args.pages.now.source) (g.S.Source.view c.open_section.new.pages.source) (g.S.Source.view c.judge_body.new.pages.source) c.args.cloud.now c.args.fixed c.in-Ok.section c.judge_body.result (let some = c.if-count-eq0.false in omega (arith, some)) c.requires.fixed c.in-Ok.ensures.section (rw c.in-Ok.ensures.length at c.judge_body.ensures.body)
