use Rattle.std.proofs.Common.{ap, sym, subst, ◌∙◌, List, length}
use Rattle.e57_elements.specs.declared.tree.RawNode.{RawNode}
use Rattle.e57_elements.specs.Tree.{none, more}
use Rattle.e57_edits.specs.declared.changes.Change.{Change}
use Rattle.e57_edits.specs.Counts.{with_counts}
use Rattle.e57_edits.specs.Changes.{edited_all, count_changes, IsSoundEdit}
use Rattle.e57_edits.proofs.Limited.{gives}
use Rattle.e57_edits.proofs.Recounting.{length-counts, edited-counts_tree, counts_sound}
use Rattle.e57_edits.proofs.counts.with_counts.Goals as goal

pub edited-requires-clause-all : goal.edited-requires-clause-all
edited-requires-clause-all c = ap length (c.deref.ensures.value ∙ c.in_ok-changes.ensures) ∙ length-counts c.args.counts.now c.raw.result.now ∙ ap length (c.raw.ensures.same ∙ sym c.raw-2.ensures.same)

pub edited-requires-clause-sound : goal.edited-requires-clause-sound
edited-requires-clause-sound c =
    let h = c.raw.ensures.nodes in
    subst (λ (cs : List Change). IsSoundEdit cs c.raw-2.result.now) (sym (c.deref.ensures.value ∙ c.in_ok-changes.ensures ∙ ap (count_changes c.args.counts.now) c.raw.ensures.same))
    (subst (λ (ns : List RawNode). IsSoundEdit (count_changes c.args.counts.now c.args.tree.now) ns) (sym c.raw-2.ensures.same)
    (counts_sound c.args.counts.now c.args.tree.now h c.raw.ensures.typed (λ i. (c.type_inv.counts i).fits) (c.requires.few h.tree h.in_preorder)))

pub returns : goal.returns
returns c = λ e same.
    gives c.deref.result.now c.raw-2.result.now e (with_counts c.args.counts.now e) c.edited.result (c.raw-2.ensures.same ∙ same)
    (ap (λ cs. edited_all cs (more e none)) (c.deref.ensures.value ∙ c.in_ok-changes.ensures) ∙ edited-counts_tree c.args.counts.now c.raw.result.now e (c.raw.ensures.same ∙ same)) c.edited.ensures
