use Rattle.e57_index.proofs.Gathered.{target_taken, target_lost}
use Rattle.e57_index.proofs.gather.take_target.Goals as goal

pub returns-in_ok-push-in-Ok-clause-target : goal.returns-in_ok-push-in-Ok-clause-target
returns-in_ok-push-in-Ok-clause-target g c = λ bound low.
    target_taken (g.S.Source.view c.args.pages.now.source) (g.S.Source.view c.read_target.new.pages.source) c.args.section.now c.args.entry.now c.in-Ok.field-0 bound c.args.out.now.items c.push.new.self.items c.in_ok-push-in-Ok.ensures.items low c.in-Ok.ensures.target

pub returns-in-Err-clause-target : goal.returns-in-Err-clause-target
returns-in-Err-clause-target g c = λ bound low.
    rw c.from.ensures (target_lost (g.S.Source.view c.args.pages.now.source) (g.S.Source.view c.read_target.new.pages.source) c.args.section.now c.args.entry.now bound c.in-Err.found c.in-Err.ensures.target)
