use Rattle.std.proofs.Common.{refl, ◌∙◌}
use Rattle.e57_column.specs.declared.state.Items.TheVariants.{Words64}
use Rattle.e57_column.proofs.Words.{reads-words, stops-words}
use Rattle.e57_column.proofs.bits.step_bits64.Goals as goal

pub returns-in-Ok-clause-items : goal.returns-in-Ok-clause-items
returns-in-Ok-clause-items g c =
    let step = reads-words (g.S.Source.view c.args.pages.now.source) (g.S.Source.view c.go_to.new.pages.source) (g.S.Source.view c.read_words64.new.pages.source) c.args.state.now c.go_to.new.state Words64 64 c.in-Ok.n c.args.out.now c.read_words64.new.out c.read_words64.new.chunk c.requires.kind refl c.requires.some c.in_default.ensures.column c.in_default.ensures.goes c.in-Ok.ensures.items.0 c.in-Ok.ensures.items.1 in
    (step.some, step.few, step.reads)

pub returns-in-Err-read_words64-clause-items : goal.returns-in-Err-read_words64-clause-items
returns-in-Err-read_words64-clause-items g c =
    (stops-words (g.S.Source.view c.args.pages.now.source) (g.S.Source.view c.go_to.new.pages.source) (g.S.Source.view c.read_words64.new.pages.source) c.args.state.now c.go_to.new.state Words64 64 c.in-Err-read_words64.stopped.done c.in-Err-read_words64.stopped.fault c.args.out.now c.read_words64.new.out c.read_words64.new.chunk c.requires.kind refl c.in_default.ensures.column c.in_default.ensures.goes c.in-Err-read_words64.ensures.items).stops
