use Rattle.std.proofs.Common.{◌≡◌}
use Rattle.e57_elements.specs.Tree.{Element, preorder}
use Rattle.e57_show.specs.Trail.{IsTrail}
use Rattle.e57_show.proofs.Appending.{IsListing}
use Rattle.e57_show.proofs.listing.listing.Given as goal

abbrev pub invariant-loop-item : goal.invariant-loop-item
invariant-loop-item l = record {
  trail : IsTrail l.tree l.trail;
  listing : (e : Element) → l.tree ≡ preorder e → IsListing e l.trail.node l.item-index l.lines.items;
}
