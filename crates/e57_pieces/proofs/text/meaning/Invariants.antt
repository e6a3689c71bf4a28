use Rattle.std.proofs.Common.{◌≡◌, ◌-◌, length}
use Rattle.e57_pieces.specs.Words.{is_plain}
use Rattle.e57_pieces.specs.Reading.{parts_at}
use Rattle.e57_pieces.proofs.Loops.{with_front}
use Rattle.e57_pieces.proofs.text.meaning.Given as goal

abbrev pub invariant-loop : goal.invariant-loop
invariant-loop l = with_front l.meaning.items (parts_at (is_plain l.quote) (length l.text - l.counter) l.rest) ≡ parts_at (is_plain l.quote) (length l.text) l.text
