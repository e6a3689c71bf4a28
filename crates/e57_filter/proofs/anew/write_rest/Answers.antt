use Rattle.std.specs.Prelude.{◌/◌}
use Rattle.std.proofs.Common.{◌≡◌, ◌∙◌, sym, subst, ap, List, ℕ, Bool, length}
use Rattle.e57_base.specs.declared.fault.RunFault.{RunFault}
use Rattle.e57_layout.specs.declared.field.Field.{Field}
use Rattle.e57_elements.specs.Tree.{Element, preorder}
use Rattle.e57_plain.specs.Pruned.{with_cloud}
use Rattle.e57_tree.specs.Held.{items_of}
use Rattle.e57_copy.specs.Ending.{EndsNot}
use Rattle.e57_copy.proofs.OneTree.{good-tree, one-tree}
use Rattle.e57_copy.proofs.Trees.{fields_there}
use Rattle.e57_filter.specs.Filtering.{filtered}
use Rattle.e57_filter.specs.Selecting.{selection_of}
use Rattle.e57_filter.proofs.FilteredFile.{filtered-count, filtered-ended, filtered-lost, filtered-unended}
use Rattle.e57_filter.proofs.KeptContent.{choice-of}
use Rattle.e57_filter.proofs.anew.write_rest.Goals as goal

pub returns-in-Err-clause-ends : goal.returns-in-Err-clause-ends
returns-in-Err-clause-ends g c = λ e same.
    filtered-lost g.T.Target.view (c.args.pages.now.length / 1024) (selection_of c.args.every c.args.selected.now) e (g.S.Source.view c.args.pages.now.source) (g.S.Source.view c.filter_items.new.pages.source) c.args.out.now c.filter_items.new.out
    (choice-of c.args.every c.args.selected.now e (good-tree c.tree.result.now e c.raw-old.ensures.nodes c.raw-old.ensures.typed (c.tree.ensures ∙ same)) (c.requires.selected e same))
    c.requires.begun c.in-Err.fault (c.in-Err.ensures.filters e same)

pub with_cloud-requires-clause-all : goal.with_cloud-requires-clause-all
with_cloud-requires-clause-all g c = λ e same fields got.
    ap (λ (flags : List Bool). length flags) c.deref.ensures.value ∙ (c.requires.selected e (sym c.tree-2.ensures ∙ same)).of_cloud.flags
    ∙ ap (λ (xs : List Field). length xs) (fields_there e c.args.selected.now.k fields got)

pub close_file-requires-clause-places : goal.close_file-requires-clause-places
close_file-requires-clause-places g c = λ d other.
    let e = c.raw-old.ensures.nodes.tree in
    let same = sym c.tree.ensures ∙ c.raw-old.ensures.nodes.in_preorder in
    let made = subst (λ (flags : List Bool). c.in-Ok-with_cloud.tree ≡ preorder (with_cloud c.args.selected.now.k flags c.in-Ok.done.number e)) c.deref.ensures.value (c.in-Ok-with_cloud.ensures e (c.tree-2.ensures ∙ same)) in
    let choice = choice-of c.args.every c.args.selected.now e (good-tree c.tree.result.now e c.raw-old.ensures.nodes c.raw-old.ensures.typed (c.tree.ensures ∙ same)) (c.requires.selected e same) in
    ap (λ (xs : List ℕ). length xs) c.deref-2.ensures.value
    ∙ filtered-count g.T.Target.view (c.args.pages.now.length / 1024) (selection_of c.args.every c.args.selected.now) e (g.S.Source.view c.args.pages.now.source) (g.S.Source.view c.filter_items.new.pages.source) c.args.out.now c.filter_items.new.out
    choice c.requires.begun c.in-Ok.done.number c.in-Ok.done.offsets.items (c.in-Ok.ensures.filters e same)
    ∙ ap (λ (x : Element). length (items_of x)) (one-tree c.in-Ok-with_cloud.tree (with_cloud c.args.selected.now.k c.args.selected.now.chosen.items c.in-Ok.done.number e) d made other)

pub returns-in-Ok-close_file-clause-ends : goal.returns-in-Ok-close_file-clause-ends
returns-in-Ok-close_file-clause-ends g c = λ e same.
    let d = with_cloud c.args.selected.now.k c.args.selected.now.chosen.items c.in-Ok.done.number e in
    let made : c.in-Ok-with_cloud.tree ≡ preorder d = subst (λ (flags : List Bool). c.in-Ok-with_cloud.tree ≡ preorder (with_cloud c.args.selected.now.k flags c.in-Ok.done.number e)) c.deref.ensures.value (c.in-Ok-with_cloud.ensures e (c.tree-2.ensures ∙ same)) in
    let choice = choice-of c.args.every c.args.selected.now e (good-tree c.tree.result.now e c.raw-old.ensures.nodes c.raw-old.ensures.typed (c.tree.ensures ∙ same)) (c.requires.selected e same) in
    filtered-ended g.T.Target.view (c.args.pages.now.length / 1024) (selection_of c.args.every c.args.selected.now) e (g.S.Source.view c.args.pages.now.source) (g.S.Source.view c.filter_items.new.pages.source) c.args.out.now c.filter_items.new.out
    choice c.requires.begun c.in-Ok.done.number c.in-Ok.done.offsets.items (c.in-Ok.ensures.filters e same) c.close_file.new.out
    (good-tree c.in-Ok-with_cloud.tree d c.raw-new.ensures.nodes c.raw-new.ensures.typed made) c.size-size.ensures.state.bytes c.in-Ok-close_file.total (rw c.deref-2.ensures.value at (c.in-Ok-close_file.ensures.closed d made))

pub returns-clause-ends : goal.returns-clause-ends
returns-clause-ends g c = λ e same.
    let d = with_cloud c.args.selected.now.k c.args.selected.now.chosen.items c.in-Ok.done.number e in
    let made : c.in-Ok-with_cloud.tree ≡ preorder d = subst (λ (flags : List Bool). c.in-Ok-with_cloud.tree ≡ preorder (with_cloud c.args.selected.now.k flags c.in-Ok.done.number e)) c.deref.ensures.value (c.in-Ok-with_cloud.ensures e (c.tree-2.ensures ∙ same)) in
    let choice = choice-of c.args.every c.args.selected.now e (good-tree c.tree.result.now e c.raw-old.ensures.nodes c.raw-old.ensures.typed (c.tree.ensures ∙ same)) (c.requires.selected e same) in
    subst (λ (fault : RunFault). EndsNot g.T.Target.view (filtered (selection_of c.args.every c.args.selected.now) e (g.S.Source.view c.args.pages.now.source) (g.S.Source.view c.filter_items.new.pages.source)) c.args.out.now fault (g.T.Target.view c.close_file.new.out.target))
    (sym c.from.ensures)
    (filtered-unended g.T.Target.view (c.args.pages.now.length / 1024) (selection_of c.args.every c.args.selected.now) e (g.S.Source.view c.args.pages.now.source) (g.S.Source.view c.filter_items.new.pages.source) c.args.out.now c.filter_items.new.out
    choice c.requires.begun c.in-Ok.done.number c.in-Ok.done.offsets.items (c.in-Ok.ensures.filters e same) c.close_file.new.out
    (good-tree c.in-Ok-with_cloud.tree d c.raw-new.ensures.nodes c.raw-new.ensures.typed made) c.size-size.ensures.state.bytes c.in-Err-close_file.fault (rw c.deref-2.ensures.value at (c.in-Err-close_file.ensures.closed d made)))
