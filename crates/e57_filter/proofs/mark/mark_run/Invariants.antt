use Rattle.std.specs.Prelude.{take}
use Rattle.e57_copy.specs.Adding.{held_columns}
use Rattle.e57_filter.specs.Keeping.{sieve_of}
use Rattle.e57_filter.specs.Marking.{passes_here, AreMarks}
use Rattle.e57_filter.proofs.mark.mark_run.Given as goal

abbrev pub invariant-loop-j : goal.invariant-loop-j
invariant-loop-j l = AreMarks l.n (passes_here (sieve_of l.every (take l.j l.tests)) l.past (held_columns l.blocks l.i l.n)) l.flags
