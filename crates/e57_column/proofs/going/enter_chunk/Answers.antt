use Rattle.std.proofs.Common.{sym, ◌∙◌, subst}
use Rattle.e57_column.specs.declared.state.State.{State}
use Rattle.e57_column.specs.Going.{Enters}
use Rattle.e57_column.proofs.Entering.{stays-there, enters-found, enters-not, nowhere-column}
use Rattle.e57_column.proofs.going.enter_chunk.Goals as goal

pub returns-then-has_record-clause-enters : goal.returns-then-has_record-clause-enters
returns-then-has_record-clause-enters g c = stays-there (g.S.Source.view c.args.pages.now.source) c.args.state.now c.args.i c.requires.column (sym c.has_record.ensures ∙ c.if-has_record.true)

pub returns-in-Ok-clause-enters : goal.returns-in-Ok-clause-enters
returns-in-Ok-clause-enters g c =
    subst (λ (after : State). Enters (g.S.Source.view c.args.pages.now.source) c.args.state.now c.args.i (g.S.Source.view c.find_chunk.new.pages.source) after) (sym c.enter.ensures)
    (enters-found (g.S.Source.view c.args.pages.now.source) (g.S.Source.view c.find_chunk.new.pages.source) c.args.state.now c.args.i _ c.in-Ok.found c.find_chunk.new.finder c.requires.lies c.requires.column (sym c.has_record.ensures ∙ c.if-has_record.false) c.requires.below c.in-Ok.ensures.finder c.in-Ok.ensures.chunk)

pub returns-in-Err-clause-enters : goal.returns-in-Err-clause-enters
returns-in-Err-clause-enters g c = (
  nowhere-column c.args.state.now c.find_chunk.new.finder c.requires.column c.in-Err.ensures.finder,
  enters-not (g.S.Source.view c.args.pages.now.source) (g.S.Source.view c.find_chunk.new.pages.source) c.args.state.now c.args.i c.in-Err.fault c.find_chunk.new.finder c.requires.varies c.in-Err.ensures.chunk,
)
