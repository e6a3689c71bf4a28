use Rattle.std.proofs.Common.{◌≡◌, ◌+◌, ◌-◌, length}
use Rattle.e57_stream.specs.Standing.{wanted}
use Rattle.e57_stream.specs.Integers.{ReadsIntegers}
use Rattle.e57_stream.proofs.integers.read_integers.Given as goal

abbrev pub invariant-loop-done : goal.invariant-loop-done
invariant-loop-done g l = record {
  same_size : l.pages.length ≡ l.fn.pages.length;
  same_header : l.pages.header ≡ l.fn.pages.header;
  want_is : l.want ≡ wanted l.fn.chunk (length l.fn.out);
  reads : ReadsIntegers (g.S.Source.view l.fn.pages.source) l.fn.stream l.fn.range l.fn.chunk l.want l.done l.fn.out l.out l.chunk (g.S.Source.view l.pages.source);
}

abbrev pub decreases-loop-done : goal.decreases-loop-done
decreases-loop-done g l = (l.fn.stream.section.end - l.chunk.taken) + (l.want - l.done)
