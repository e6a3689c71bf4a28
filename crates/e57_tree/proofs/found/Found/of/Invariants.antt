use Rattle.e57_tree.proofs.Finding.{IsFinding}
use Rattle.e57_tree.proofs.found.Found.of.Given as goal

abbrev pub invariant-loop-n : goal.invariant-loop-n
invariant-loop-n l = IsFinding l.raw l.n l.found
