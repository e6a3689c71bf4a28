use Rattle.std.proofs.Common.{◌≡◌, ◌-◌}
use Rattle.e57_texts.proofs.Filling.{Row}
use Rattle.e57_texts.proofs.strings.read_strings.Given as goal

abbrev pub invariant-loop-done : goal.invariant-loop-done
invariant-loop-done g l = record {
  same_size : l.pages.length ≡ l.fn.pages.length;
  same_header : l.pages.header ≡ l.fn.pages.header;
  row : Row (g.S.Source.view l.fn.pages.source) l.fn.stream l.fn.chunk l.want l.fn.filled l.done l.end l.fn.bytes l.bytes l.fn.ends l.ends l.chunk (g.S.Source.view l.pages.source);
}

abbrev pub decreases-loop-done : goal.decreases-loop-done
decreases-loop-done g l = l.want - l.done
