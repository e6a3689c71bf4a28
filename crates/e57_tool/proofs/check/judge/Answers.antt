use Rattle.e57_tool.proofs.Checking.{unopened_judged, judged}
use Rattle.e57_tool.proofs.check.judge.Goals as goal

pub returns-in-Err : goal.returns-in-Err
returns-in-Err g c =
    rw c.from.ensures (unopened_judged c.opening_agrees.ensures.opening c.args.name.now (g.S.Source.view c.args.source) (g.S.Source.view c.in-Err.source) c.in-Err.fault c.in-Err.ensures.opened)

pub returns : goal.returns
returns g c =
    let view = g.S.Source.view in
    let before = c.in-Ok.pages in
    let after = c.check-answer.new.pages in
    rw c.into_source.ensures (judged c.args.name.now (view c.args.source) (view before.source) (view after.source) before.length _ before.header c.check-answer.result c.in-Ok.ensures.opened c.check-answer.ensures.verdict)
