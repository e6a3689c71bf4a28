use Rattle.e57_trial.proofs.Putting.{closed, here_all, unclosed}
use Rattle.e57_trial.proofs.section.put_cloud.Goals as goal

pub close-requires-clause-here : goal.close-requires-clause-here
close-requires-clause-here g c =
    let r = c.requires in
    here_all g.T.Target.view c.args.start c.args.count c.args.out.now c.args.cloud r.fresh r.chunk r.count c.size-size.ensures.state r.free r.begun c.put_records.new.cloud c.put_records.new.out c.in_default.ensures

pub returns-in-Ok : goal.returns-in-Ok
returns-in-Ok g c =
    let r = c.requires in
    closed g.T.Target.view c.args.start c.args.count c.args.out.now c.args.cloud r.fresh r.chunk r.count c.size-size.ensures.state r.free r.begun c.put_records.new.cloud c.put_records.new.out c.in_default.ensures c.in-Ok.written c.close.new.out r.some c.in-Ok.ensures

pub returns-in-Err-close : goal.returns-in-Err-close
returns-in-Err-close g c =
    let r = c.requires in
    unclosed g.T.Target.view c.args.start c.args.count c.args.out.now c.args.cloud r.fresh r.chunk r.count c.size-size.ensures.state r.free r.begun c.put_records.new.cloud c.put_records.new.out c.in_default.ensures c.in-Err-close.fault c.close.new.out c.in-Err-close.ensures.1
