use Rattle.std.proofs.Common.{◌≡◌}
use Rattle.e57_index.specs.Finding.{AsksWay, KeepsStanding, HoldsRecord, held_level}
use Rattle.e57_index.specs.Spans.{DescendsSpans}
use Rattle.e57_index.proofs.cursor.IndexCursor.find_leaf.Given as goal

abbrev pub invariant-down : goal.invariant-down
invariant-down g l =
    record {
      length : l.pages.length ≡ l.fn.pages.length;
      header : l.pages.header ≡ l.fn.pages.header;
      section : l.self.section ≡ l.fn.self.section;
      source : AsksWay l.fn.self l.i (g.S.Source.view l.fn.pages.source) (g.S.Source.view l.pages.source);
      stands : KeepsStanding (g.S.Source.view l.fn.pages.source) l.fn.self l.self;
      spans : DescendsSpans l.fn.self l.i (g.S.Source.view l.fn.pages.source) (g.S.Source.view l.pages.source) l.self;
      has : HoldsRecord l.self.held l.i;
    }

abbrev pub decreases-down : goal.decreases-down
decreases-down g l = held_level l.self.held
