use Rattle.std.specs.Prelude.{◌≡◌}
use Rattle.e57_copy.specs.Adding.{held_columns}
use Rattle.e57_copy.proofs.Handing.{handed}
use Rattle.e57_copy.proofs.run.copy_run.Given as goal

abbrev pub invariant-loop-j : goal.invariant-loop-j
invariant-loop-j l = l.cloud ≡ handed l.fn.cloud l.j (held_columns l.blocks l.i l.n)
