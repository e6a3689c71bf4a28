use Rattle.std.proofs.Common.{◌≡◌}
use Rattle.e57_disk.proofs.tests.source.first_wrong.Given as goal

abbrev pub invariant-loop-n : goal.invariant-loop-n
invariant-loop-n g l = (g.S.Source.view l.source).size ≡ (g.S.Source.view l.fn.source).size
