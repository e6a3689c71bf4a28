use Rattle.std.proofs.Common.{◌≡◌, ◌++◌, drop}
use Rattle.e57_nodes.specs.Places.{with_value}
use Rattle.e57_edits.proofs.Valued.{values_left}
use Rattle.e57_edits.proofs.attrs.with_value.Given as goal

abbrev pub invariant-loop-i : goal.invariant-loop-i
invariant-loop-i l = l.new ++ values_left l.is_set l.name l.text (drop l.i l.attrs) ≡ with_value l.name l.text l.attrs
