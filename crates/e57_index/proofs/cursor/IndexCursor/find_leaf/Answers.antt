use Rattle.std.proofs.Common.{◌∙◌, sym, arith}
use Rattle.e57_index.proofs.Ways.{steps_later, lost_later}
use Rattle.e57_index.proofs.WaySpans.{held_descends, descends_on, path_stopped}
use Rattle.e57_index.proofs.cursor.IndexCursor.find_leaf.Goals as goal

pub returns-in-Err-go_down-clause-chunk : goal.returns-in-Err-go_down-clause-chunk
returns-in-Err-go_down-clause-chunk g c =
    let way = c.down.invariant in
    lost_later (g.S.Source.view c.args.pages.now.source) (g.S.Source.view c.down.pages.source) (g.S.Source.view c.go_down.new.pages.source) c.args.self.now c.down.self c.go_down.new.self c.args.i c.in-Err-go_down.fault way.section way.source way.stands c.in-Err-go_down.ensures.chunk

pub down-preserved : goal.down-preserved
down-preserved g c =
    let way = c.down.invariant in
    let next = c.in_default-go_down.ensures in
    let step = steps_later (g.S.Source.view c.args.pages.now.source) (g.S.Source.view c.down.pages.source) (g.S.Source.view c.go_down.new.pages.source) c.args.self.now c.down.self c.go_down.new.self c.args.i way.section way.source way.stands next.chunk in
    record {
      length = next.length ∙ way.length;
      header = next.header ∙ way.header;
      section = next.section ∙ way.section;
      source = step.source;
      stands = step.stands;
      spans = descends_on (g.S.Source.view c.args.pages.now.source) (g.S.Source.view c.down.pages.source) (g.S.Source.view c.go_down.new.pages.source) c.args.self.now c.down.self c.go_down.new.self c.args.i way.section way.stands next.lower way.spans next.spans;
      has = step.has;
    }

pub returns-then-has_leaf-clause-spans : goal.returns-then-has_leaf-clause-spans
returns-then-has_leaf-clause-spans g c =
    held_descends (g.S.Source.view c.args.pages.now.source) c.args.self.now c.args.i (sym c.has_leaf.ensures.is ∙ c.if-has_leaf.true)

pub returns-in-Err-go_down-clause-spans : goal.returns-in-Err-go_down-clause-spans
returns-in-Err-go_down-clause-spans g c =
    let way = c.down.invariant in
    let level = c.level.ensures in
    let higher = c.down-test.true in
    path_stopped (g.S.Source.view c.args.pages.now.source) (g.S.Source.view c.down.pages.source) (g.S.Source.view c.go_down.new.pages.source) c.args.self.now c.down.self c.args.i way.section way.stands (omega (arith, level, higher)) way.spans c.in-Err-go_down.ensures.spans
