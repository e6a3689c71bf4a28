use Rattle.std.proofs.Common.{◌≡◌, drop}
use Rattle.e57_nodes.specs.Facts.{without_space}
use Rattle.e57_tree.proofs.numbers.trimmed_start.Given as goal

abbrev pub invariant-loop-i : goal.invariant-loop-i
invariant-loop-i l = without_space (drop l.i l.text) ≡ without_space l.text
