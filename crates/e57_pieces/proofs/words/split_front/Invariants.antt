use Rattle.std.proofs.Common.{◌≡◌, ℕ, ◌<◌, get_or, true}
use Rattle.e57_pieces.specs.Words.{class_test}
use Rattle.e57_pieces.proofs.words.split_front.Given as goal

abbrev pub invariant-loop-i : goal.invariant-loop-i
invariant-loop-i l = (k : ℕ) → k < l.i → class_test l.class (get_or l.text k 0) ≡ true
