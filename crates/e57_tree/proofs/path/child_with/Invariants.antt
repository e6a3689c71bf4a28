use Rattle.std.proofs.Common.{◌-◌}
use Rattle.e57_tree.proofs.Leading.{IsLeading}
use Rattle.e57_tree.proofs.path.child_with.Given as goal

abbrev pub invariant-loop-next : goal.invariant-loop-next
invariant-loop-next l = IsLeading l.raw l.n l.end l.wanted l.child l.position l.next

abbrev pub decreases-loop-next : goal.decreases-loop-next
decreases-loop-next l = l.end - l.child
