use Rattle.std.specs.Prelude.{◌≡◌, ◌+◌, ◌-◌, ◌≤◌}
use Rattle.std.specs.List.{AllByRecursion}
use Rattle.e57_blocks.specs.Fields.{slice_of, AreOfFile, IsReady}
use Rattle.e57_rows.specs.Shown.{show_of}
use Rattle.e57_rows.proofs.Puts.{AreBeside, PutsTo}
use Rattle.e57_rows.proofs.put.put_rows.Given as goal

abbrev pub invariant-loop-at : goal.invariant-loop-at
invariant-loop-at g l = record {
  same_size : l.pages.length ≡ l.fn.pages.length;
  same_header : l.pages.header ≡ l.fn.pages.header;
  end : l.until ≡ l.from + l.count;
  low : l.from ≤ l.at;
  high : l.at ≤ l.until;
  are : AreBeside (slice_of l.section l.fn.fixed l.fields l.asked l.from l.count) l.blocks;
  ready : AllByRecursion (IsReady l.at) l.blocks.blocks;
  holds : AreOfFile (g.S.Source.view l.pages.source) l.blocks.blocks;
  puts : PutsTo (show_of l.numbers l.fields) (slice_of l.section l.fn.fixed l.fields l.asked l.from l.count) (l.at - l.from) (g.S.Source.view l.fn.pages.source) (g.S.Source.view l.pages.source) (g.O.Sink.view l.fn.out) (g.O.Sink.view l.out);
}

abbrev pub decreases-loop-at : goal.decreases-loop-at
decreases-loop-at g l = l.until - l.at
