use Rattle.std.proofs.Common.{◌∙◌, List}
use Rattle.e57_elements.specs.declared.tree.RawNode.{RawNode}
use Rattle.e57_edits.proofs.Edited.{sound_lawful, not_refused, judged_refused}
use Rattle.e57_edits.proofs.trees.edited.Goals as goal

pub new-requires : goal.new-requires
new-requires c = sound_lawful c.args.changes.now c.args.raw.now c.in_ok-nodes.nodes.items c.requires.sound c.in_ok-nodes.ensures

pub unreachable-requires : goal.unreachable-requires
unreachable-requires c = not_refused c.args.changes.now c.args.raw.now c.new.result c.in-Refused.field-0 c.requires.sound (c.new.ensures ∙ c.in_ok-nodes.ensures)
    (λ e same. judged_refused (List RawNode) c.in-Err.fault c.in-Refused.field-0 _ (c.in-Err.ensures.judged e same) c.in-Refused.is)
