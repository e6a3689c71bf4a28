use Rattle.std.proofs.Common.{◌≡◌, Some}
use Rattle.e57_disk.proofs.tests.target.put_pages.Given as goal

abbrev pub invariant-loop-n : goal.invariant-loop-n
invariant-loop-n g l = (g.T.Target.view l.target).pages ≡ Some l.n
