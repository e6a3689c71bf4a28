use Rattle.std.specs.Prelude.{drop}
use Rattle.e57_layout.specs.Items.{AreColumns}
use Rattle.e57_chunk_out.specs.CloudCalls.{kinds_in}
use Rattle.e57_copy.specs.Adding.{held_columns}
use Rattle.e57_copy.proofs.limits.test_run.Given as goal

-- all fit if those from field j on do
abbrev pub invariant-loop-j : goal.invariant-loop-j
invariant-loop-j l =
    AreColumns (drop l.j (kinds_in l.fields)) l.n (drop l.j (held_columns l.blocks l.i l.n))
    → AreColumns (kinds_in l.fields) l.n (held_columns l.blocks l.i l.n)
