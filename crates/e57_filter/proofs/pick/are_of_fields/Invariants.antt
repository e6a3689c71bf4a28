use Rattle.std.specs.Prelude.{take}
use Rattle.std.specs.List.{AllByRecursion}
use Rattle.e57_filter.proofs.Fields.{HasItems}
use Rattle.e57_filter.proofs.pick.are_of_fields.Given as goal

abbrev pub invariant-loop-j : goal.invariant-loop-j
invariant-loop-j l = AllByRecursion (HasItems l.i l.n) (take l.j l.blocks)
