use Rattle.std.proofs.Common.{List}
use Rattle.e57_elements.specs.declared.tree.RawNode.{RawNode}
use Rattle.e57_trial.specs.Content.{trial_tree}
use Rattle.e57_trial.proofs.Trees.{tree_unrefused}
use Rattle.e57_trial.proofs.tree.tree_for.Goals as goal

pub unreachable-requires : goal.unreachable-requires
unreachable-requires c = tree_unrefused (List RawNode) c.args.count c.in-Err.fault c.in-Refused.field-0 c.requires c.in-Refused.is (c.in-Err.ensures.judged (trial_tree c.args.count) c.in_ok-raw.ensures)
