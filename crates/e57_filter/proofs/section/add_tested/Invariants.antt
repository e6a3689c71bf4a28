use Rattle.std.proofs.Common.{◌≡◌, ◌++◌, take}
use Rattle.e57_filter.specs.Selecting.{test_fields}
use Rattle.e57_filter.proofs.section.add_tested.Given as goal

abbrev pub invariant-loop-j : goal.invariant-loop-j
invariant-loop-j l = l.asked.items ≡ l.fn.asked.items ++ test_fields (take l.j l.tests)
