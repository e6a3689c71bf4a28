use Rattle.std.proofs.Common.{sym, subst}
use Rattle.e57_column.specs.declared.finder.Finder.{Finder}
use Rattle.e57_column.specs.declared.finder.Finder.TheVariants.{OneChunk}
use Rattle.e57_column.specs.Finding.{IsFinder, Finds}
use Rattle.e57_column.proofs.Finders.{by_index, by_counting, by_counting_not, one_chunk}
use Rattle.e57_column.proofs.finder.find_chunk.Goals as goal

pub returns-in-ByIndex-clause-chunk : goal.returns-in-ByIndex-clause-chunk
returns-in-ByIndex-clause-chunk g c =
    let h = rw c.in-ByIndex.is at c.requires.finder in
    rw c.in-ByIndex.is (by_index (g.S.Source.view c.args.pages.now.source) (g.S.Source.view c.find.new.pages.source) c.args.stream.now c.in-ByIndex.cursor c.find.new.self c.args.i c.find.result h.0 h.1 c.find.ensures.chunk)

pub returns-in-Ok-clause-chunk : goal.returns-in-Ok-clause-chunk
returns-in-Ok-clause-chunk g c =
    let h = rw c.in-ByCounting.is at c.requires.finder in
    rw c.in-ByCounting.is (by_counting (g.S.Source.view c.args.pages.now.source) (g.S.Source.view c.find-in-ByCounting.new.pages.source) c.args.stream.now c.in-ByCounting.ahead c.find-in-ByCounting.new.self c.args.i _ c.in-Ok.covered h.0 h.1 h.2 c.in-Ok.ensures.section c.in-Ok.ensures.fixed c.in-Ok.ensures.found)

pub returns-in-Err-clause-chunk : goal.returns-in-Err-clause-chunk
returns-in-Err-clause-chunk g c =
    let h = rw c.in-ByCounting.is at c.requires.finder in
    rw c.in-ByCounting.is (by_counting_not (g.S.Source.view c.args.pages.now.source) (g.S.Source.view c.find-in-ByCounting.new.pages.source) c.args.stream.now c.in-ByCounting.ahead c.find-in-ByCounting.new.self c.args.i _ c.in-Err.fault h.0 h.1 h.2 c.in-Err.ensures.section c.in-Err.ensures.fixed c.in-Err.ensures.found)

pub returns-in-OneChunk-clause-chunk : goal.returns-in-OneChunk-clause-chunk
returns-in-OneChunk-clause-chunk g c =
    let h = rw c.in-OneChunk.is at c.requires.finder in
    subst (λ (f : Finder). Finds (g.S.Source.view c.args.pages.now.source) c.args.stream.now f c.args.i (record { start = 0; until = c.args.stream.now.section.count; place = c.args.stream.now.section.data_place }) (g.S.Source.view c.args.pages.now.source) f) (sym c.in-OneChunk.is)
    (one_chunk (g.S.Source.view c.args.pages.now.source) c.args.stream.now c.args.i h.0 h.1 c.requires.below c.requires.lies.data_within)
