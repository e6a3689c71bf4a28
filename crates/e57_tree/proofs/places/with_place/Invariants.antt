use Rattle.std.proofs.Common.{◌≡◌, ◌++◌, drop}
use Rattle.std.specs.Fmt.{decimal}
use Rattle.e57_nodes.specs.Places.{place_name, with_value}
use Rattle.e57_tree.proofs.Copied.{attrs_left}
use Rattle.e57_tree.proofs.places.with_place.Given as goal

abbrev pub invariant-loop-i : goal.invariant-loop-i
invariant-loop-i l = l.new ++ attrs_left l.is_set (decimal l.place) (drop l.i l.attrs) ≡ with_value place_name (decimal l.place) l.attrs
