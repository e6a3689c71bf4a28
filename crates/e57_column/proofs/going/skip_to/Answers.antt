use Rattle.std.proofs.Common.{sym, subst, arith}
use Rattle.e57_layout.proofs.Laws.Widths.{width-le}
use Rattle.e57_stream.specs.declared.chunk.Chunk.{Chunk}
use Rattle.e57_column.specs.declared.state.Items.TheVariants.{Whole}
use Rattle.e57_column.specs.Column.{kind_of}
use Rattle.e57_column.specs.Going.{Skips}
use Rattle.e57_column.proofs.Skipping.{skips-integers, skips-strings}
use Rattle.e57_column.proofs.going.skip_to.Goals as goal

pub move_to-requires-clause-width : goal.move_to-requires-clause-width
move_to-requires-clause-width g c =
    let items = rw c.in-Whole.is at c.requires.items in
    let most = width-le c.in-Whole.range.low c.in-Whole.range.high in
    let same = items.1 in
    omega (arith, most, same)

pub move_to-requires-clause-begins : goal.move_to-requires-clause-begins
move_to-requires-clause-begins g c =
    let items = rw c.in-Whole.is at c.requires.items in
    let read = rw c.in-Whole.is at c.requires.read in
    rw items.1 read.begins

pub returns-in-Whole-clause-skips : goal.returns-in-Whole-clause-skips
returns-in-Whole-clause-skips g c =
    let items = rw c.in-Whole.is at c.requires.items in
    let read = rw c.in-Whole.is at c.requires.read in
    rw c.in-Whole.is (subst (λ (chunk : Chunk). Skips (g.S.Source.view c.args.pages.now.source) c.args.stream.now (kind_of (Whole c.in-Whole.range)) c.args.chunk.now c.args.i (g.S.Source.view c.args.pages.now.source) chunk) (sym c.move_to.ensures)
    (skips-integers (g.S.Source.view c.args.pages.now.source) c.args.stream.now c.in-Whole.range.low c.in-Whole.range.high c.in-Whole.range.width c.args.i c.args.chunk.now items.1 c.requires.low c.requires.high read))

pub returns-in-Strings-clause-skips : goal.returns-in-Strings-clause-skips
returns-in-Strings-clause-skips g c =
    rw c.in-Strings.is (skips-strings (g.S.Source.view c.args.pages.now.source) (g.S.Source.view c.skip_strings.new.pages.source) c.args.stream.now c.args.i c.args.chunk.now c.skip_strings.new.chunk c.skip_strings.result c.skip_strings.ensures.skipped)
