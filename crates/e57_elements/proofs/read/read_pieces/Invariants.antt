use Rattle.std.proofs.Common.{◌≤◌, length}
use Rattle.e57_elements.proofs.Reached.{Reached}
use Rattle.e57_elements.proofs.read.read_pieces.Given as goal

abbrev pub invariant-loop-error : goal.invariant-loop-error
invariant-loop-error l = Reached l.fn.pieces l.pieces l.builder × (length l.pieces ≤ l.len)

abbrev pub decreases-loop-error : goal.decreases-loop-error
decreases-loop-error l = length l.pieces
