use Rattle.std.proofs.Common.{◌/◌, refl, ◌∙◌, arith}
use Rattle.e57_check.proofs.Passed.{walks-none, walks-step, walks-refused}
use Rattle.e57_check.proofs.packets.walk_to.Goals as goal

pub loop-passed-init : goal.loop-passed-init
loop-passed-init g c = (walks-none (c.args.pages.now.length / 1024) (g.S.Source.view c.args.pages.now.source) c.args.section.now c.args.starts.now c.args.passed c.requires.within, refl, refl)

pub loop-passed-preserved : goal.loop-passed-preserved
loop-passed-preserved g c = (
  walks-step (c.args.pages.now.length / 1024) (g.S.Source.view c.args.pages.now.source) (g.S.Source.view c.loop-passed.pages.source) (g.S.Source.view c.step.new.pages.source) c.args.section.now c.args.starts.now c.args.passed c.loop-passed.passed c.in-Ok.next (let there = c.loop-passed-test.true in omega (arith, there)) c.loop-passed.invariant.0 (rw c.loop-passed.invariant.1 at c.in-Ok.ensures.step),
  c.in-Ok.ensures.length ∙ c.loop-passed.invariant.1,
  c.in-Ok.ensures.header ∙ c.loop-passed.invariant.2,
)

pub returns-in-Err-clause-walk : goal.returns-in-Err-clause-walk
returns-in-Err-clause-walk g c =
    walks-refused (c.args.pages.now.length / 1024) (g.S.Source.view c.args.pages.now.source) (g.S.Source.view c.loop-passed.pages.source) (g.S.Source.view c.step.new.pages.source) c.args.section.now c.args.starts.now c.args.passed c.loop-passed.passed c.in-Err.found (let there = c.loop-passed-test.true in omega (arith, there)) c.loop-passed.invariant.0 (rw c.loop-passed.invariant.1 at c.in-Err.ensures.step)
