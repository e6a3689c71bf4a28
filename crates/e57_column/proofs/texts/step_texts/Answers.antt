use Rattle.std.proofs.Common.{length}
use Rattle.e57_column.proofs.Strings.{reads-strings, stops-strings, stops-at-first}
use Rattle.e57_column.proofs.texts.step_texts.Goals as goal

pub returns-in-Err-read_strings-clause-texts : goal.returns-in-Err-read_strings-clause-texts
returns-in-Err-read_strings-clause-texts g c =
    stops-strings (g.S.Source.view c.args.pages.now.source) (g.S.Source.view c.go_to.new.pages.source) (g.S.Source.view c.read_strings.new.pages.source) c.args.state.now c.go_to.new.state c.args.filled c.in-Err-read_strings.stopped.done c.in-Err-read_strings.stopped.fault c.args.bytes.now c.read_strings.new.bytes c.args.ends.now c.read_strings.new.ends c.read_strings.new.chunk c.requires.kind c.in_default.ensures.column c.in_default.ensures.goes c.in-Err-read_strings.ensures.strings

pub returns-in-Ok-clause-texts : goal.returns-in-Ok-clause-texts
returns-in-Ok-clause-texts g c = (
  c.last_end.ensures,
  reads-strings (g.S.Source.view c.args.pages.now.source) (g.S.Source.view c.go_to.new.pages.source) (g.S.Source.view c.read_strings.new.pages.source) c.args.state.now c.go_to.new.state c.args.filled c.in-Ok.read.count c.in-Ok.read.next c.args.bytes.now c.read_strings.new.bytes c.args.ends.now c.read_strings.new.ends c.read_strings.new.chunk c.requires.kind c.requires.some c.in_default.ensures.column c.in_default.ensures.goes c.in-Ok.ensures.strings,
)

pub returns-in-Err-clause-texts : goal.returns-in-Err-clause-texts
returns-in-Err-clause-texts g c =
    stops-at-first (g.S.Source.view c.args.pages.now.source) (g.S.Source.view c.go_to.new.pages.source) c.args.state.now c.go_to.new.state c.args.filled (length c.args.ends.now) c.in-Err.fault c.args.bytes.now c.args.ends.now c.requires.kind c.requires.some c.in-Err.ensures.goes
