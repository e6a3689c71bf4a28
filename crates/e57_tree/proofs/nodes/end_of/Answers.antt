use Rattle.std.proofs.Common.{◌+◌, ◌<◌, ◌≤◌, length, sym, subst}
use Rattle.e57_elements.specs.declared.tree.RawNode.{RawNode}
use Rattle.e57_tree.specs.Flat.{AreElements}
use Rattle.e57_tree.proofs.Laws.Flat.{node_inside}
use Rattle.e57_tree.proofs.nodes.end_of.Goals as goal

pub returns-clause-forward : goal.returns-clause-forward
returns-clause-forward c =
    let inside = node_inside c.args.raw.now c.args.n c.len-count.ensures.nodes c.requires in
    subst (λ (x : RawNode). c.args.n < c.args.n + x.size) (sym c.node.ensures) inside.forward

pub returns-clause-within : goal.returns-clause-within
returns-clause-within c =
    let inside = node_inside c.args.raw.now c.args.n c.len-count.ensures.nodes c.requires in
    subst (λ (x : RawNode). c.args.n + x.size ≤ length c.args.raw.now) (sym c.node.ensures) inside.within

pub returns-clause-elements : goal.returns-clause-elements
returns-clause-elements c =
    let inside = node_inside c.args.raw.now c.args.n c.len-count.ensures.nodes c.requires in
    subst (λ (x : RawNode). AreElements c.args.raw.now (c.args.n + 1) (c.args.n + x.size)) (sym c.node.ensures) inside.below
