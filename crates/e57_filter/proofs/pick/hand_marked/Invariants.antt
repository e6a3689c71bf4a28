use Rattle.std.specs.Prelude.{◌≡◌, ◌-◌, ◌≤◌, length, take}
use Rattle.e57_plain.specs.Kept.{chosen}
use Rattle.e57_copy.specs.Adding.{held_columns, with_columns}
use Rattle.e57_filter.specs.Marking.{picked}
use Rattle.e57_filter.proofs.pick.hand_marked.Given as goal

abbrev pub invariant-loop-k : goal.invariant-loop-k
invariant-loop-k l = record {
  within : l.k ≤ l.n;
  is : l.cloud ≡ with_columns l.fn.cloud (picked (take l.k l.flags) (held_columns l.blocks l.i l.n));
  number : l.handed ≡ length (chosen (take l.k l.flags) l.flags);
}

abbrev pub decreases-loop-k : goal.decreases-loop-k
decreases-loop-k l = l.n - l.k
