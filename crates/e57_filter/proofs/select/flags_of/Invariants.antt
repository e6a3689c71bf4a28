use Rattle.std.proofs.Common.{◌≡◌}
use Rattle.e57_filter.specs.Asking.{chosen_of}
use Rattle.e57_filter.proofs.select.flags_of.Given as goal

abbrev pub invariant-loop-f : goal.invariant-loop-f
invariant-loop-f l = l.flags.items ≡ chosen_of l.f l.numbers
