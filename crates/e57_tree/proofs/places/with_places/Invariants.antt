use Rattle.std.proofs.Common.{◌≡◌, ◌+◌, ◌≤◌, ◌++◌, drop, length, map}
use Rattle.std.specs.Fmt.{decimal}
use Rattle.e57_nodes.specs.Places.{item_count, placed_nodes}
use Rattle.e57_tree.proofs.places.with_places.Given as goal

abbrev pub invariant-loop-n : goal.invariant-loop-n
invariant-loop-n l = record {
  same : l.nodes.items ++ placed_nodes (drop l.used (map decimal l.places)) (drop l.n l.raw) ≡ placed_nodes (map decimal l.places) l.raw;
  enough : l.used + item_count (drop l.n l.raw) ≤ length l.places;
}
