use Rattle.std.proofs.Common.{List, ℕ, sym, subst, arith}
use Rattle.e57_elements.specs.declared.tree.RawNode.{RawNode}
use Rattle.e57_tree.specs.declared.items.Item.TheVariants as item
use Rattle.e57_show.specs.Trail.{IsTrail}
use Rattle.e57_show.proofs.Appending.{IsListing, begins, next_item, ends, item_there, none_after}
use Rattle.e57_show.proofs.listing.listing.Goals as goal

pub loop-item-init : goal.loop-item-init
loop-item-init c = record {
  trail = subst (λ (nodes : List RawNode). IsTrail nodes c.in_ok-trail.trail) c.raw.ensures.same c.in_ok-trail.ensures.trail;
  listing = λ e same.
      subst (λ (node : ℕ). IsListing e node 0 c.new-lines.result.items) (sym c.in_ok-trail.ensures.root)
      (subst (λ (text : List ℕ). IsListing e 0 0 text) (sym c.new-lines.ensures.items) (begins e (c.raw.ensures.typed e same)));
}

pub push_item-requires-clause-item : goal.push_item-requires-clause-item
push_item-requires-clause-item c = λ e same.
    (next_item e c.loop-item.trail.node c.loop-item.item-index c.loop-item.lines.items _ (c.loop-item.invariant.listing e same)
    (item_there e c.items-item-items.result.now c.loop-item.item-index (item.Cloud 0) (c.items-item-items.ensures e same) c.loop-item-test.true)).is_item

pub loop-item-preserved : goal.loop-item-preserved
loop-item-preserved c = record {
  trail = c.in_ok-push_item.ensures.trail;
  listing = λ e same.
      (next_item e c.loop-item.trail.node c.loop-item.item-index c.loop-item.lines.items _ (c.loop-item.invariant.listing e same)
      (item_there e c.items-item-items.result.now c.loop-item.item-index (item.Cloud 0) (c.items-item-items.ensures e same) c.loop-item-test.true)).goes_on
      c.push_item.new.lines.items c.push_item.new.trail.node (c.in_ok-push_item.ensures.lines e same);
}

pub returns : goal.returns
returns c = λ e same.
    ends e c.loop-item.trail.node c.loop-item.item-index c.loop-item.lines.items (c.loop-item.invariant.listing e same)
    (none_after e c.items-item-items.result.now c.loop-item.item-index (c.items-item-items.ensures e same) (omega (arith, c.loop-item-test.false)))
