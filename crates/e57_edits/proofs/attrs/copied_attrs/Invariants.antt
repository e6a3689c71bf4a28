use Rattle.std.proofs.Common.{◌≡◌, ◌++◌, drop}
use Rattle.e57_edits.proofs.attrs.copied_attrs.Given as goal

abbrev pub invariant-loop-i : goal.invariant-loop-i
invariant-loop-i l = l.new ++ drop l.i l.attrs ≡ l.attrs
