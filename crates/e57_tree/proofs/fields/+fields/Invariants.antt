use Rattle.std.proofs.Common.{◌≡◌, ◌+◌, ◌-◌, ◌*◌, ◌<◌, ◌≤◌, length}
use Rattle.e57_tree.proofs.Adding.{IsAdding}
use Rattle.e57_tree.proofs.fields.+fields.Given as goal

abbrev pub decreases-add : goal.decreases-add
decreases-add l = (length l.raw.now - l.n) * 2 + 1

abbrev pub decreases-add_below : goal.decreases-add_below
decreases-add_below l = (length l.raw.now - l.n) * 2

abbrev pub invariant-add_below-loop-child : goal.invariant-add_below-loop-child
invariant-add_below-loop-child l = record {
  after : l.n < l.child;
  few : l.position ≤ l.child;
  own : l.own ≡ length l.path.items;
  path : l.path.items ≡ l.initial.path.items;
  adding : IsAdding l.raw l.n l.child l.end l.position l.counted l.initial.path.items l.initial.fields.items l.fields.items;
}

abbrev pub decreases-add_below-loop-child : goal.decreases-add_below-loop-child
decreases-add_below-loop-child l = l.end - l.child
