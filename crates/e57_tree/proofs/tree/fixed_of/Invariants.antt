use Rattle.std.proofs.Common.{◌≡◌, drop}
use Rattle.e57_cloud.specs.Cloud.{float_from}
use Rattle.e57_nodes.specs.Items.{leaves_of}
use Rattle.e57_tree.proofs.tree.fixed_of.Given as goal

abbrev pub invariant-loop-i : goal.invariant-loop-i
invariant-loop-i l = float_from l.i (leaves_of (drop l.i l.fields)) ≡ float_from 0 (leaves_of l.fields)
