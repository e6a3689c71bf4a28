use Rattle.std.proofs.Common.{◌≡◌, ◌++◌, drop}
use Rattle.e57_edits.specs.Nodes.{edited_nodes}
use Rattle.e57_edits.proofs.nodes.edited_nodes.Given as goal

abbrev pub invariant-loop-n : goal.invariant-loop-n
invariant-loop-n l = l.nodes.items ++ edited_nodes (drop l.n l.changes) (drop l.n l.raw) ≡ edited_nodes l.changes l.raw
