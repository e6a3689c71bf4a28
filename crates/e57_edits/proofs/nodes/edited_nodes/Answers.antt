use Rattle.std.proofs.Common.{◌+◌, ◌++◌, drop, length, ◌∙◌, ap, arith}
use Rattle.e57_tree.specs.Flat.{end_of}
use Rattle.e57_edits.specs.Nodes.{edited_nodes}
use Rattle.e57_edits.proofs.Counted.{few_nodes, ends_at, length-remaining, later_fewer, size_fits, nodes_go_on, nodes_end}
use Rattle.e57_edits.proofs.nodes.edited_nodes.Goals as goal

pub size_left-size-requires-clause-all : goal.size_left-size-requires-clause-all
size_left-size-requires-clause-all c = ap length (c.deref.ensures.value ∙ c.in_ok-counts.ensures) ∙ length-remaining c.args.changes.now c.args.raw.now

pub size_left-size-requires-clause-fall : goal.size_left-size-requires-clause-fall
size_left-size-requires-clause-fall c =
    later_fewer c.args.changes.now c.args.raw.now c.deref.result.now c.loop-n.n (end_of c.args.raw.now c.loop-n.n) (c.deref.ensures.value ∙ c.in_ok-counts.ensures) (omega arith) (omega (arith, c.loop-n-test.true, c.len-n-end.ensures.len))

pub put-requires : goal.put-requires
put-requires c =
    let fits = size_fits c.args.changes.now c.args.raw.now c.deref.result.now c.loop-n.n (c.deref.ensures.value ∙ c.in_ok-counts.ensures) in
    omega (arith, c.size_left-size.ensures, few_nodes c.args.raw.now c.len.ensures.nodes)

pub loop-n-preserved : goal.loop-n-preserved
loop-n-preserved c =
    ap (λ xs. xs ++ edited_nodes (drop (c.loop-n.n + 1) c.args.changes.now) (drop (c.loop-n.n + 1) c.args.raw.now)) c.in_ok-put.ensures
    ∙ nodes_go_on c.args.changes.now c.args.raw.now c.loop-n.nodes.items (edited_nodes c.args.changes.now c.args.raw.now) c.deref.result.now c.loop-n.n (end_of c.args.raw.now c.loop-n.n) c.size_left-size.result
    c.node.result.now c.change_at.result c.node.ensures c.change_at.ensures (c.deref.ensures.value ∙ c.in_ok-counts.ensures) (ends_at c.args.raw.now c.loop-n.n c.node.result.now c.node.ensures) c.size_left-size.ensures c.loop-n.invariant

pub returns : goal.returns
returns c = nodes_end c.args.changes.now c.args.raw.now c.loop-n.nodes.items (edited_nodes c.args.changes.now c.args.raw.now) c.loop-n.n (omega arith) c.loop-n.invariant
