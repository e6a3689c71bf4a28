use Rattle.std.specs.Prelude.{◌<◌, ◌≤◌}
use Rattle.std.proofs.Common.{arith, ◌≡◌}
use Rattle.e57_column.specs.declared.state.Items.TheVariants.{Whole}
use Rattle.e57_column.proofs.Integers.{reads-ints, stops-ints}
use Rattle.e57_column.proofs.ints.step_ints.Goals as goal

pub returns-in-Ok-clause-items : goal.returns-in-Ok-clause-items
returns-in-Ok-clause-items g c =
    let items = rw c.in-Whole.is at c.requires.column.items in
    let none = c.if-range-eq0.false in
    let step = reads-ints (g.S.Source.view c.args.pages.now.source) (g.S.Source.view c.go_to.new.pages.source) (g.S.Source.view c.read_integers.new.pages.source) c.args.state.now c.go_to.new.state c.in-Whole.range c.in-Ok.n c.args.out.now c.read_integers.new.out c.read_integers.new.chunk c.in-Whole.is items.1 (omega (arith, none)) c.requires.some c.in_default-go_to.ensures.column c.in_default-go_to.ensures.goes c.in-Ok.ensures.items.0 c.in-Ok.ensures.items.1 in
    (step.some, step.few, step.reads)

pub returns-in-Err-read_integers-clause-items : goal.returns-in-Err-read_integers-clause-items
returns-in-Err-read_integers-clause-items g c =
    let items = rw c.in-Whole.is at c.requires.column.items in
    let none = c.if-range-eq0.false in
    (stops-ints (g.S.Source.view c.args.pages.now.source) (g.S.Source.view c.go_to.new.pages.source) (g.S.Source.view c.read_integers.new.pages.source) c.args.state.now c.go_to.new.state c.in-Whole.range c.in-Err-read_integers.stopped.done c.in-Err-read_integers.stopped.fault c.args.out.now c.read_integers.new.out c.read_integers.new.chunk c.in-Whole.is items.1 (omega (arith, none)) c.in_default-go_to.ensures.column c.in_default-go_to.ensures.goes c.in-Err-read_integers.ensures.items).stops
