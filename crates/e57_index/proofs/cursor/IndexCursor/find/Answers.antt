use Rattle.e57_index.proofs.Ways.{after_leaf}
use Rattle.e57_index.proofs.WaySpans.{path_asked, stopped_path, leaf_held}
use Rattle.e57_index.proofs.cursor.IndexCursor.find.Goals as goal

pub returns-clause-chunk : goal.returns-clause-chunk
returns-clause-chunk g c =
    rw c.find_in_leaf.ensures.same
    (after_leaf c.find_in_leaf.result (g.S.Source.view c.args.pages.now.source) (g.S.Source.view c.find_leaf.new.pages.source) (g.S.Source.view c.find_in_leaf.new.pages.source) c.args.self.now c.find_leaf.new.self c.args.i c.in_default.ensures.section c.in_default.ensures.chunk c.find_in_leaf.ensures.chunk)

pub returns-in-Err-clause-spans : goal.returns-in-Err-clause-spans
returns-in-Err-clause-spans g c = stopped_path (g.S.Source.view c.args.pages.now.source) (g.S.Source.view c.find_leaf.new.pages.source) c.args.self.now c.args.i c.in-Err.ensures.spans

pub returns-clause-spans : goal.returns-clause-spans
returns-clause-spans g c =
    path_asked (g.S.Source.view c.args.pages.now.source) (g.S.Source.view c.find_leaf.new.pages.source) (g.S.Source.view c.find_in_leaf.new.pages.source) c.args.self.now c.find_leaf.new.self c.args.i c.in_default.ensures.section c.in_default.ensures.chunk.stands c.in_default.ensures.spans c.find_in_leaf.ensures.spans

pub returns-clause-leaf : goal.returns-clause-leaf
returns-clause-leaf g c =
    rw c.find_in_leaf.ensures.same (leaf_held c.find_in_leaf.result c.find_leaf.new.self.held c.args.i c.in_default.ensures.leaf c.in_default.ensures.chunk.has)
