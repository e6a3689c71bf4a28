use Rattle.std.proofs.Common.{◌∙◌}
use Rattle.e57_ahead.proofs.Looking.{looks-step, looks-found, looks-refused}
use Rattle.e57_ahead.proofs.look.look.Goals as goal

pub returns-in-Some-clause-found : goal.returns-in-Some-clause-found
returns-in-Some-clause-found g c =
    looks-found (g.S.Source.view c.args.pages.now.source) (g.S.Source.view c.loop-covered.pages.source) c.args.section.now c.args.fixed c.args.i c.args.reached c.loop-covered.reached c.in-Some.covered c.requires.width c.requires.lies.data_within c.requires.high c.loop-covered.invariant.0 c.in-Some.ensures.0 c.in-Some.ensures.1

pub loop-covered-preserved : goal.loop-covered-preserved
loop-covered-preserved g c = (
  looks-step (g.S.Source.view c.args.pages.now.source) (g.S.Source.view c.loop-covered.pages.source) (g.S.Source.view c.step.new.pages.source) c.args.section.now c.args.fixed c.args.i c.args.reached c.loop-covered.reached c.in-Ok.next c.loop-covered.invariant.0 c.in_default.ensures.0 c.in_default.ensures.1 c.in-Ok.ensures.step,
  c.in-Ok.ensures.length ∙ c.loop-covered.invariant.1,
  c.in-Ok.ensures.header ∙ c.loop-covered.invariant.2,
)

pub returns-in-Err-clause-found : goal.returns-in-Err-clause-found
returns-in-Err-clause-found g c =
    looks-refused (g.S.Source.view c.args.pages.now.source) (g.S.Source.view c.loop-covered.pages.source) (g.S.Source.view c.step.new.pages.source) c.args.section.now c.args.fixed c.args.i c.args.reached c.loop-covered.reached c.in-Err.found c.loop-covered.invariant.0 c.in_default.ensures.0 c.in_default.ensures.1 c.in-Err.ensures.step
