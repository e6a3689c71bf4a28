use Rattle.std.proofs.Common.{◌+◌, ◌++◌, drop, map, ◌∙◌, ap, arith}
use Rattle.std.specs.Fmt.{decimal}
use Rattle.e57_nodes.specs.Places.{placed_nodes}
use Rattle.e57_tree.proofs.Copied.{count_first, nodes_go_on, nodes_end, are_nodes}
use Rattle.e57_tree.proofs.places.with_places.Goals as goal

pub next_node-requires : goal.next_node-requires
next_node-requires c =
    let enough = c.loop-n.invariant.enough in
    let first = count_first c.args.raw.now c.loop-n.n c.node-node.result.now c.node-node.ensures in
    omega arith

pub loop-n-preserved : goal.loop-n-preserved
loop-n-preserved c = record {
  same =
      ap (λ xs. xs ++ placed_nodes (drop (c.loop-n.used + c.section_count.result) (map decimal c.args.places.now)) (drop (c.loop-n.n + 1) c.args.raw.now)) c.in_ok-push.ensures.items
      ∙ nodes_go_on (map decimal c.args.places.now) c.args.raw.now c.loop-n.nodes.items (placed_nodes (map decimal c.args.places.now) c.args.raw.now) c.loop-n.n c.loop-n.used c.section_count.result c.node-node.result.now
      c.in_ok-next_node.field-0 c.node-node.ensures c.section_count.ensures c.in_ok-next_node.ensures c.loop-n.invariant.same;
  enough =
      let enough = c.loop-n.invariant.enough in
      let first = count_first c.args.raw.now c.loop-n.n c.node-node.result.now c.node-node.ensures in
      let count = c.section_count.ensures in
      omega arith;
}

pub new-requires : goal.new-requires
new-requires c =
    are_nodes c.args.places.now c.args.raw.now c.loop-n.nodes.items c.type_inv.places c.len.ensures.nodes
    (nodes_end (map decimal c.args.places.now) c.args.raw.now c.loop-n.nodes.items (placed_nodes (map decimal c.args.places.now) c.args.raw.now) c.loop-n.n c.loop-n.used (omega arith) c.loop-n.invariant.same)
