use Rattle.e57_filter.proofs.Chosen.{Made}
use Rattle.e57_filter.proofs.select.tests_of.Given as goal

abbrev pub invariant-loop-j : goal.invariant-loop-j
invariant-loop-j l = Made l.fields l.keeps l.j l.tests.items
