use Rattle.std.proofs.Common.{◌≡◌, ◌<◌, ap, sym, subst, ◌∙◌, List, length, get_or}
use Rattle.e57_elements.specs.declared.tree.RawNode.{RawNode}
use Rattle.e57_elements.specs.Tree.{Element, none, more, preorder}
use Rattle.e57_plain.specs.Pruned.{with_cloud}
use Rattle.e57_edits.specs.declared.changes.Change.{Change}
use Rattle.e57_edits.specs.Changes.{edited_all, IsSoundEdit}
use Rattle.e57_edits.proofs.Limited.{gives}
use Rattle.e57_edits.proofs.OneCloud.{no_cloud, AreChangesAt, IsCloudEdit, cloud_within, cloud_edit, cloud_sound}
use Rattle.e57_edits.proofs.cloud.with_cloud.Goals as goal

pub cloud_changes-requires : goal.cloud_changes-requires
cloud_changes-requires c =
    let h = c.raw-raw.ensures.nodes in
    subst (λ (ns : List RawNode). (get_or c.clouds.result.now c.args.k no_cloud).node < length ns) (sym c.raw-raw.ensures.same)
    (cloud_within c.args.tree.now h.tree c.args.k c.args.chosen.now c.args.count (get_or c.clouds.result.now c.args.k no_cloud).node h.in_preorder (c.requires.cloud h.tree h.in_preorder)
    (ap (λ cs. (get_or cs c.args.k no_cloud).node) (c.clouds.ensures h.tree h.in_preorder)))

-- what the changes are
edit : (c : goal.After-deref) (e : Element) → c.args.tree.now ≡ preorder e → IsCloudEdit c.args.k c.args.chosen.now c.args.count c.args.tree.now e c.in_ok-changes.changes.items
edit c e same =
    cloud_edit c.args.tree.now e c.args.k c.args.chosen.now c.args.count (get_or c.clouds.result.now c.args.k no_cloud).node same (c.requires.cloud e same)
    (ap (λ cs. (get_or cs c.args.k no_cloud).node) (c.clouds.ensures e same)) c.in_ok-changes.changes.items
    (subst (λ (ns : List RawNode). AreChangesAt ns (get_or c.clouds.result.now c.args.k no_cloud).node c.args.chosen.now c.args.count c.in_ok-changes.changes.items) c.raw-raw.ensures.same c.in_ok-changes.ensures)

pub edited-requires-clause-all : goal.edited-requires-clause-all
edited-requires-clause-all c =
    let h = c.raw-raw.ensures.nodes in
    ap length c.deref.ensures.value ∙ (edit c h.tree h.in_preorder).all ∙ ap length (sym c.raw-raw.ensures.same)

pub edited-requires-clause-sound : goal.edited-requires-clause-sound
edited-requires-clause-sound c =
    let h = c.raw-raw.ensures.nodes in
    subst (λ (cs : List Change). IsSoundEdit cs c.raw-raw.result.now) (sym c.deref.ensures.value)
    (subst (λ (ns : List RawNode). IsSoundEdit c.in_ok-changes.changes.items ns) (sym c.raw-raw.ensures.same)
    (cloud_sound c.args.tree.now c.in_ok-changes.changes.items c.args.k c.args.chosen.now c.args.count h (edit c h.tree h.in_preorder) c.raw-raw.ensures.typed (c.requires.cloud h.tree h.in_preorder)
    (c.requires.all h.tree h.in_preorder) c.requires.some c.requires.few))

pub returns : goal.returns
returns c = λ e same.
    let edited =
    cloud_edit c.args.tree.now e c.args.k c.args.chosen.now c.args.count (get_or c.clouds.result.now c.args.k no_cloud).node same (c.requires.cloud e same)
    (ap (λ cs. (get_or cs c.args.k no_cloud).node) (c.clouds.ensures e same)) c.in_ok-changes.changes.items
    (subst (λ (ns : List RawNode). AreChangesAt ns (get_or c.clouds.result.now c.args.k no_cloud).node c.args.chosen.now c.args.count c.in_ok-changes.changes.items) c.raw-raw.ensures.same c.in_ok-changes.ensures) in
    gives c.deref.result.now c.raw-raw.result.now e (with_cloud c.args.k c.args.chosen.now c.args.count e) c.edited.result (c.raw-raw.ensures.same ∙ same)
    (ap (λ cs. edited_all cs (more e none)) c.deref.ensures.value ∙ edited.edited) c.edited.ensures
