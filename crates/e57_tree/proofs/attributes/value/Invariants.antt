use Rattle.std.proofs.Common.{◌≡◌, drop}
use Rattle.e57_nodes.specs.Facts.{value_of}
use Rattle.e57_tree.proofs.attributes.value.Given as goal

abbrev pub invariant-loop-i : goal.invariant-loop-i
invariant-loop-i l = value_of l.name (drop l.i l.attrs) ≡ value_of l.name l.attrs
