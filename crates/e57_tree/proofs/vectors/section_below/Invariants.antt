use Rattle.std.proofs.Common.{◌≡◌, ◌+◌, ◌-◌}
use Rattle.std.specs.Prelude.{find}
use Rattle.e57_tree.specs.Flat.{has_section_node}
use Rattle.e57_tree.proofs.Rows.{row}
use Rattle.e57_tree.proofs.vectors.section_below.Given as goal

abbrev pub invariant-loop-below : goal.invariant-loop-below
invariant-loop-below l = find has_section_node (row l.raw l.below (l.end - l.below)) ≡ find has_section_node (row l.raw (l.n + 1) (l.end - (l.n + 1)))
