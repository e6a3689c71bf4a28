use Rattle.std.proofs.Common.{length, take}
use Rattle.e57_copy.specs.Adding.{held_columns}
use Rattle.e57_repack.specs.Ranges.{AreLimits}
use Rattle.e57_repack.specs.Widening.{AreWidened}
use Rattle.e57_repack.proofs.widening.widen_by_run.Given as goal

abbrev pub invariant-loop-j : goal.invariant-loop-j
invariant-loop-j l = record {
  limits : AreLimits (length l.fn.ranges.items) l.ranges.items;
  widened : AreWidened l.fn.ranges.items (take l.j l.fields) (held_columns (take l.j l.blocks) l.i l.n) l.ranges.items;
}
