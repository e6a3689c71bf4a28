use Rattle.std.proofs.Common.{◌≡◌, ◌-◌, []}
use Rattle.e57_texts.specs.Pieces.{IsCut, TakesPiece}
use Rattle.e57_texts.proofs.prefix.next_prefix.Given as goal

abbrev pub invariant-loop-length : goal.invariant-loop-length
invariant-loop-length g l = record {
  same_size : l.pages.length ≡ l.fn.pages.length;
  same_header : l.pages.header ≡ l.fn.pages.header;
  takes : TakesPiece (g.S.Source.view l.fn.pages.source) l.fn.stream l.fn.chunk IsCut [] l.chunk (g.S.Source.view l.pages.source);
}

abbrev pub decreases-loop-length : goal.decreases-loop-length
decreases-loop-length g l = l.stream.section.end - l.chunk.taken
