use Rattle.std.proofs.Common.{◌∙◌, sym, map, length}
use Rattle.std.specs.Fmt.{decimal}
use Rattle.e57_elements.specs.Tree.{preorder}
use Rattle.e57_nodes.specs.Places.{with_places, placed_nodes}
use Rattle.e57_tree.proofs.Whole.{ok_same, enough_places, places_whole}
use Rattle.e57_tree.proofs.tree.Tree.with_places.Goals as goal

pub with_places-requires : goal.with_places-requires
with_places-requires c = enough_places c.self.inside.raw c.self.inside.found (length c.args.places.now) c.self.invariant (λ e same. c.requires e (sym c.self.view_is ∙ same))

pub returns : goal.returns
returns c = λ e same.
    ok_same c.with_places.result (placed_nodes (map decimal c.args.places.now) c.self.inside.raw) (preorder (with_places (map decimal c.args.places.now) e))
    (places_whole (map decimal c.args.places.now) c.self.inside.raw e (c.self.view_is ∙ same)) c.with_places.ensures
