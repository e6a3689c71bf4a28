use Rattle.std.proofs.Common.{◌≡◌, ◌+◌, ◌-◌, length}
use Rattle.e57_stream.specs.Standing.{wanted}
use Rattle.e57_stream.specs.Words.{ReadsWords}
use Rattle.e57_stream.proofs.words.read_words64.Given as goal

abbrev pub invariant-loop-done : goal.invariant-loop-done
invariant-loop-done g l = record {
  same_size : l.pages.length ≡ l.fn.pages.length;
  same_header : l.pages.header ≡ l.fn.pages.header;
  want_is : l.want ≡ wanted l.fn.chunk (length l.fn.out);
  reads : ReadsWords (g.S.Source.view l.fn.pages.source) l.fn.stream 64 l.fn.chunk l.want l.done l.fn.out l.out l.chunk (g.S.Source.view l.pages.source);
}

abbrev pub decreases-loop-done : goal.decreases-loop-done
decreases-loop-done g l = (l.fn.stream.section.end - l.chunk.taken) + (l.want - l.done)
