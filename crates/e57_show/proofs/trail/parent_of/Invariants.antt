use Rattle.std.proofs.Common.{ℕ, List, reverse}
use Rattle.e57_elements.specs.declared.tree.RawNode.{RawNode}
use Rattle.e57_show.specs.Trail.{AreOpen}
use Rattle.e57_show.proofs.Walking.{StillOpen}
use Rattle.e57_show.proofs.trail.parent_of.Given as goal

abbrev pub invariant-loop-mark : goal.invariant-loop-mark
invariant-loop-mark l =
    (nodes : List RawNode) (text : List ℕ) (longest : ℕ) → AreOpen nodes longest (reverse l.initial.marks.items) l.n
    → StillOpen nodes text longest (reverse l.initial.marks.items) (reverse l.marks.items) l.n

abbrev pub decreases-loop-mark : goal.decreases-loop-mark
decreases-loop-mark l = goal.left-loop-mark l
