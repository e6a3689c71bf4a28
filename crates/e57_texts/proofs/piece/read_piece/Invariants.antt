use Rattle.std.proofs.Common.{◌≡◌, ◌-◌, length}
use Rattle.e57_texts.proofs.Held.{Reads}
use Rattle.e57_texts.proofs.piece.read_piece.Given as goal

abbrev pub invariant-loop-done : goal.invariant-loop-done
invariant-loop-done g l = record {
  same_size : l.pages.length ≡ l.fn.pages.length;
  same_header : l.pages.header ≡ l.fn.pages.header;
  reads : Reads (g.S.Source.view l.fn.pages.source) l.fn.stream l.fn.chunk (length l.fn.out) l.out l.done l.chunk (g.S.Source.view l.pages.source);
}

abbrev pub decreases-loop-done : goal.decreases-loop-done
decreases-loop-done g l = l.stream.section.end - l.chunk.taken
