use Rattle.e57_tree.proofs.Whole.{refused_whole, none_whole}
use Rattle.e57_tree.proofs.tree.Tree.from_raw.Goals as goal

pub returns-in-Err-clause-judged : goal.returns-in-Err-clause-judged
returns-in-Err-clause-judged c = refused_whole c.args.raw c.in-Err.error c.in-Err.ensures

pub invariant_of-result : goal.invariant_of-result
invariant_of-result c = record {
  are_nodes = c.len-count.ensures.nodes;
  is_typed = none_whole c.args.raw c.in_default.ensures;
  holds = c.in-Ok.ensures;
}

pub returns-in-Ok-clause-judged : goal.returns-in-Ok-clause-judged
returns-in-Ok-clause-judged c = none_whole c.args.raw c.in_default.ensures
