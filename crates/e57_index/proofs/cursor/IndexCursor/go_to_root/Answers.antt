use Rattle.e57_index.proofs.Ways.{rooted}
use Rattle.e57_index.proofs.WaySpans.{root_spans_of}
use Rattle.e57_index.proofs.cursor.IndexCursor.go_to_root.Goals as goal

pub returns-clause-chunk : goal.returns-clause-chunk
returns-clause-chunk g c =
    rooted c.load.result (g.S.Source.view c.args.pages.now.source) (g.S.Source.view c.load.new.pages.source) c.args.self.now c.load.new.self c.section-section.result c.args.i c.section-section.ensures.same c.section-section.ensures.indexed c.requires.below c.load.ensures.section c.load.ensures.load

pub returns-clause-spans : goal.returns-clause-spans
returns-clause-spans g c =
    root_spans_of c.load.result (g.S.Source.view c.args.pages.now.source) (g.S.Source.view c.load.new.pages.source) c.args.self.now c.load.new.self c.section-section.result c.args.i c.section-section.ensures.same c.requires.away c.load.ensures.spans c.load.ensures.load
