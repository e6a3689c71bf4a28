use Rattle.std.proofs.Common.{◌/◌}
use Rattle.e57_nodes.specs.Items.{leaves_of}
use Rattle.e57_check.proofs.Bodies.{body-unopened, body-result}
use Rattle.e57_check.proofs.cloud.judge_body.Goals as goal

pub returns-in-Err-clause-body : goal.returns-in-Err-clause-body
returns-in-Err-clause-body g c =
    body-unopened (c.args.pages.now.length / 1024) (g.S.Source.view c.args.pages.now.source) (g.S.Source.view c.open_starts.new.pages.source) c.args.section.now c.args.fixed (leaves_of c.args.fields.now) c.in-Err.fault c.in-Err.ensures.starts

pub returns-clause-body : goal.returns-clause-body
returns-clause-body g c =
    body-result (c.args.pages.now.length / 1024) (g.S.Source.view c.args.pages.now.source) (g.S.Source.view c.open_starts.new.pages.source) (g.S.Source.view c.judge_records.new.pages.source) c.args.section.now c.args.fixed (leaves_of c.args.fields.now) c.in-Ok.starts c.judge_records.result c.in-Ok.ensures.starts (rw c.in-Ok.ensures.length at c.judge_records.ensures.records)
