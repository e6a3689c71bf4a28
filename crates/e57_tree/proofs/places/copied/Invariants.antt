use Rattle.std.proofs.Common.{◌≡◌, ◌++◌, drop}
use Rattle.e57_tree.proofs.places.copied.Given as goal

abbrev pub invariant-loop-i : goal.invariant-loop-i
invariant-loop-i l = l.attrs ++ drop l.i l.node.attrs ≡ l.node.attrs
