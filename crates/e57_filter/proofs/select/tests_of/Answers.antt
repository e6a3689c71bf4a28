use Rattle.e57_filter.proofs.Chosen.{made-all}
use Rattle.e57_filter.proofs.select.tests_of.Goals as goal

pub returns : goal.returns
returns c = made-all c.args.fields.now c.args.keeps.now c.loop-j.j c.loop-j.tests.items c.loop-j-test.false c.loop-j.invariant
