use Rattle.std.proofs.Common.{refl, ◌∙◌}
use Rattle.e57_column.specs.declared.state.Items.TheVariants.{Words32}
use Rattle.e57_column.proofs.Words.{reads-words, stops-words}
use Rattle.e57_column.proofs.bits.step_bits32.Goals as goal

pub returns-in-Ok-clause-items : goal.returns-in-Ok-clause-items
returns-in-Ok-clause-items g c =
    let step = reads-words (g.S.Source.view c.args.pages.now.source) (g.S.Source.view c.go_to.new.pages.source) (g.S.Source.view c.read_words32.new.pages.source) c.args.state.now c.go_to.new.state Words32 32 c.in-Ok.n c.args.out.now c.read_words32.new.out c.read_words32.new.chunk c.requires.kind refl c.requires.some c.in_default.ensures.column c.in_default.ensures.goes c.in-Ok.ensures.items.0 c.in-Ok.ensures.items.1 in
    (step.some, step.few, step.reads)

pub returns-in-Err-read_words32-clause-items : goal.returns-in-Err-read_words32-clause-items
returns-in-Err-read_words32-clause-items g c =
    (stops-words (g.S.Source.view c.args.pages.now.source) (g.S.Source.view c.go_to.new.pages.source) (g.S.Source.view c.read_words32.new.pages.source) c.args.state.now c.go_to.new.state Words32 32 c.in-Err-read_words32.stopped.done c.in-Err-read_words32.stopped.fault c.args.out.now c.read_words32.new.out c.read_words32.new.chunk c.requires.kind refl c.in_default.ensures.column c.in_default.ensures.goes c.in-Err-read_words32.ensures.items).stops
