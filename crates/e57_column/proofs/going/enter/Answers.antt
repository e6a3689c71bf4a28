use Rattle.std.specs.Prelude.{[]}
use Rattle.std.proofs.Common.{sym, ◌∙◌, refl}
use Rattle.e57_column.specs.Going.{entered}
use Rattle.e57_column.proofs.Entering.{entered-same, entered-new}
use Rattle.e57_column.proofs.going.enter.Goals as goal

pub returns-then-same : goal.returns-then-same
returns-then-same c = sym (entered-same c.args.state.now c.args.found.now c.args.i (sym c.is_same-same.ensures ∙ c.if-same.true))

pub returns : goal.returns
returns c = rw c.clear.ensures (sym (entered-new c.args.state.now c.args.found.now c.args.i (sym c.is_same-same.ensures ∙ c.if-same.false)))
