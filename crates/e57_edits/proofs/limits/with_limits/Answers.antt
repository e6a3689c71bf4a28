use Rattle.std.proofs.Common.{sym, ap, ◌∙◌, List, map, subst}
use Rattle.e57_elements.specs.declared.tree.RawNode.{RawNode}
use Rattle.e57_nodes.specs.Limits.{with_limits}
use Rattle.e57_edits.specs.declared.changes.Change.{Change}
use Rattle.e57_edits.specs.Changes.{edited_all, limit_change, IsSoundEdit}
use Rattle.e57_elements.specs.Tree.{none, more}
use Rattle.e57_edits.specs.Ranges.{range_at}
use Rattle.e57_edits.proofs.Limited.{limits_sound, entries_are, edited-limits_tree, gives}
use Rattle.e57_edits.proofs.limits.with_limits.Goals as goal

pub edited-requires-clause-sound : goal.edited-requires-clause-sound
edited-requires-clause-sound c =
    subst (λ (cs : List Change). IsSoundEdit cs c.raw.result.now) (sym (c.deref.ensures.value ∙ c.in_ok-changes.ensures.changes))
    (subst (λ (ns : List RawNode). IsSoundEdit (map limit_change c.args.ranges.now) ns) (sym c.raw.ensures.same)
    (limits_sound c.args.ranges.now c.args.tree.now c.raw.ensures.nodes c.raw.ensures.typed (entries_are c.args.ranges.now c.requires.ordered c.in_ok-changes.ensures.signed)))

pub returns : goal.returns
returns c = λ e same.
    gives c.deref.result.now c.raw.result.now e (with_limits (range_at c.args.ranges.now) 0 e) c.edited.result (c.raw.ensures.same ∙ same)
    (ap (λ cs. edited_all cs (more e none)) (c.deref.ensures.value ∙ c.in_ok-changes.ensures.changes) ∙ edited-limits_tree c.args.ranges.now e) c.edited.ensures
