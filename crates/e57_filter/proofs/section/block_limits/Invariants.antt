use Rattle.std.proofs.Common.{◌≡◌, take}
use Rattle.e57_filter.specs.KeptSection.{limits_from}
use Rattle.e57_filter.proofs.section.block_limits.Given as goal

abbrev pub invariant-loop-j : goal.invariant-loop-j
invariant-loop-j l = l.limits.items ≡ limits_from l.first (take l.j l.tests)
