use Rattle.e57_column.proofs.Arriving.{arrives, arrives-not}
use Rattle.e57_column.proofs.going.go_to.Goals as goal

pub returns-in-Ok-clause-column : goal.returns-in-Ok-clause-column
returns-in-Ok-clause-column g c =
    (arrives (g.S.Source.view c.args.pages.now.source) (g.S.Source.view c.enter_chunk.new.pages.source) (g.S.Source.view c.skip_to.new.pages.source) c.args.state.now c.enter_chunk.new.state c.args.i c.skip_to.new.chunk c.requires.column c.requires.varies c.in_default.ensures.enters c.in-Ok.ensures.skips).column

pub returns-in-Ok-clause-goes : goal.returns-in-Ok-clause-goes
returns-in-Ok-clause-goes g c =
    (arrives (g.S.Source.view c.args.pages.now.source) (g.S.Source.view c.enter_chunk.new.pages.source) (g.S.Source.view c.skip_to.new.pages.source) c.args.state.now c.enter_chunk.new.state c.args.i c.skip_to.new.chunk c.requires.column c.requires.varies c.in_default.ensures.enters c.in-Ok.ensures.skips).goes

pub returns-in-Err-skip_to-clause-column : goal.returns-in-Err-skip_to-clause-column
returns-in-Err-skip_to-clause-column g c =
    (arrives-not (g.S.Source.view c.args.pages.now.source) (g.S.Source.view c.enter_chunk.new.pages.source) (g.S.Source.view c.skip_to.new.pages.source) c.args.state.now c.enter_chunk.new.state c.args.i c.skip_to.new.chunk c.in-Err-skip_to.fault c.requires.column c.requires.varies c.in_default.ensures.enters c.in-Err-skip_to.ensures.skips).column

pub returns-in-Err-skip_to-clause-goes : goal.returns-in-Err-skip_to-clause-goes
returns-in-Err-skip_to-clause-goes g c =
    (arrives-not (g.S.Source.view c.args.pages.now.source) (g.S.Source.view c.enter_chunk.new.pages.source) (g.S.Source.view c.skip_to.new.pages.source) c.args.state.now c.enter_chunk.new.state c.args.i c.skip_to.new.chunk c.in-Err-skip_to.fault c.requires.column c.requires.varies c.in_default.ensures.enters c.in-Err-skip_to.ensures.skips).goes
