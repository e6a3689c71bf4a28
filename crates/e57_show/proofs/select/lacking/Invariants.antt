use Rattle.std.proofs.Common.{◌≡◌, drop}
use Rattle.e57_show.specs.Extract.{lacking_from}
use Rattle.e57_show.proofs.select.lacking.Given as goal

abbrev pub invariant-loop-j : goal.invariant-loop-j
invariant-loop-j l = lacking_from l.fields 0 l.numbers ≡ lacking_from l.fields l.j (drop l.j l.numbers)
