use Rattle.std.proofs.Common.{◌≡◌, take}
use Rattle.e57_filter.proofs.section.asked_numbers.Given as goal

abbrev pub invariant-loop-f : goal.invariant-loop-f
invariant-loop-f l = l.asked.items ≡ take l.f l.numbers
