use Rattle.std.proofs.Common.{◌≡◌, ◌/◌, ◌∙◌, ◌+◌, ℕ, List, [], ◌∷◌, ◌++◌, refl, sym, subst, take, arith}
use Rattle.std.specs.Prelude.{slice_index_or}
use Rattle.e57_elements.specs.Tree.{Element, preorder}
use Rattle.e57_nodes.specs.Items.{stated_items}
use Rattle.e57_nodes.specs.Shape.{shape_of}
use Rattle.e57_tree.specs.declared.items.Item.TheVariants as item
use Rattle.e57_verdict.specs.Things.{things_in}
use Rattle.e57_filter.specs.Asking.{filter_chunk}
use Rattle.e57_filter.specs.Filtering.{FiltersItems}
use Rattle.e57_filter.specs.Selecting.{selection_of}
use Rattle.e57_filter.proofs.FilteredItems.{filters-none, filters-unnoted, filters-whole}
use Rattle.e57_filter.proofs.Walked.{FiltersFirst, next-here, first-more, first-lost, first-all}
use Rattle.e57_filter.proofs.items.filter_items.Goals as goal

pub loop-item-init : goal.loop-item-init
loop-item-init g c = record {
  filters = λ e same.
      subst (λ (offsets : List ℕ). FiltersItems g.T.Target.view filter_chunk [] [] (selection_of c.args.every c.args.selected.now) (c.args.pages.now.length / 1024) (g.S.Source.view c.args.pages.now.source) (g.S.Source.view c.args.pages.now.source) c.args.out.now 0 offsets c.args.out.now)
      (sym c.new-offsets.ensures.items)
      (filters-none g.T.Target.view filter_chunk (c.args.pages.now.length / 1024) (selection_of c.args.every c.args.selected.now) (g.S.Source.view c.args.pages.now.source) c.args.out.now c.size-size.ensures.state);
  length = refl;
  header = refl;
  unspent = c.requires.unspent;
  free = c.requires.free;
  whole = c.requires.whole;
}

pub put_item-requires-clause-item : goal.put_item-requires-clause-item
put_item-requires-clause-item g c = λ e same.
    (next-here e c.args.selected.now.k c.items-item-items.result.now c.loop-item.item-index (item.Cloud 0) (c.raw-raw.ensures.typed e (c.tree.ensures ∙ same)) (c.items-item-items.ensures e (c.tree-2.ensures ∙ same)) c.loop-item-test.true).at.is_item

pub returns-in-Err-clause-filters : goal.returns-in-Err-clause-filters
returns-in-Err-clause-filters g c = λ e same.
    let x = slice_index_or c.items-item-items.result.now c.loop-item.item-index (item.Cloud 0) in
    let next = next-here e c.args.selected.now.k c.items-item-items.result.now c.loop-item.item-index (item.Cloud 0) (c.raw-raw.ensures.typed e (c.tree.ensures ∙ same)) (c.items-item-items.ensures e (c.tree-2.ensures ∙ same)) c.loop-item-test.true in
    first-lost g.T.Target.view filter_chunk e (selection_of c.args.every c.args.selected.now) c.loop-item.item-index (c.args.pages.now.length / 1024)
    (g.S.Source.view c.args.pages.now.source) (g.S.Source.view c.loop-item.pages.source) (g.S.Source.view c.put_item.new.pages.source) c.args.out.now c.loop-item.out c.put_item.new.out c.loop-item.number c.loop-item.offsets.items
    c.requires.whole (c.loop-item.invariant.filters e same) x next c.in-Err.fault (rw c.loop-item.invariant.length at (c.in-Err.ensures.filters e same))

pub returns-in-Err-push-clause-filters : goal.returns-in-Err-push-clause-filters
returns-in-Err-push-clause-filters g c = λ e same.
    let x = slice_index_or c.items-item-items.result.now c.loop-item.item-index (item.Cloud 0) in
    let selection = selection_of c.args.every c.args.selected.now in
    let old = g.S.Source.view c.args.pages.now.source in
    let new = g.S.Source.view c.put_item.new.pages.source in
    let count = c.args.pages.now.length / 1024 in
    let next = next-here e c.args.selected.now.k c.items-item-items.result.now c.loop-item.item-index (item.Cloud 0) (c.raw-raw.ensures.typed e (c.tree.ensures ∙ same)) (c.items-item-items.ensures e (c.tree-2.ensures ∙ same)) c.loop-item-test.true in
    let done = first-more g.T.Target.view filter_chunk e selection c.loop-item.item-index count old (g.S.Source.view c.loop-item.pages.source) new c.args.out.now c.loop-item.out c.put_item.new.out c.loop-item.number c.loop-item.offsets.items
    c.requires.whole (c.loop-item.invariant.filters e same) x next c.in-Ok.written (rw c.loop-item.invariant.length at (c.in-Ok.ensures.filters e same)) in
    filters-unnoted g.T.Target.view filter_chunk count selection (take (c.loop-item.item-index + 1) (stated_items (shape_of e))) (stated_items (shape_of e)) (take (c.loop-item.item-index + 1) (things_in e)) (things_in e) old new c.args.out.now c.put_item.new.out c.in-Ok.written.count (c.loop-item.offsets.items ++ c.in-Ok.written.place ∷ []) done

pub loop-item-preserved : goal.loop-item-preserved
loop-item-preserved g c =
    let x = slice_index_or c.items-item-items.result.now c.loop-item.item-index (item.Cloud 0) in
    let view = g.T.Target.view in
    let selection = selection_of c.args.every c.args.selected.now in
    let old = g.S.Source.view c.args.pages.now.source in
    let new = g.S.Source.view c.put_item.new.pages.source in
    let count = c.args.pages.now.length / 1024 in
    let j = c.loop-item.item-index in
    let offsets = c.loop-item.offsets.items ++ c.in-Ok.written.place ∷ [] in
    let number = c.in-Ok.written.count in
    let done : (e : Element) → c.args.file.now ≡ preorder e → FiltersFirst view filter_chunk e selection (j + 1) count old new c.args.out.now number offsets c.put_item.new.out
    = λ e same.
    first-more view filter_chunk e selection j count old (g.S.Source.view c.loop-item.pages.source) new c.args.out.now c.loop-item.out c.put_item.new.out c.loop-item.number c.loop-item.offsets.items
    c.requires.whole (c.loop-item.invariant.filters e same) x
    (next-here e c.args.selected.now.k c.items-item-items.result.now j (item.Cloud 0) (c.raw-raw.ensures.typed e (c.tree.ensures ∙ same)) (c.items-item-items.ensures e (c.tree-2.ensures ∙ same)) c.loop-item-test.true)
    c.in-Ok.written (rw c.loop-item.invariant.length at (c.in-Ok.ensures.filters e same)) in
    let e = c.raw-raw.ensures.nodes.tree in
    let ready = filters-whole view filter_chunk count selection (take (j + 1) (stated_items (shape_of e))) (take (j + 1) (things_in e)) old new c.args.out.now c.put_item.new.out number offsets c.requires.free c.requires.whole
    (done e (sym c.tree.ensures ∙ c.raw-raw.ensures.nodes.in_preorder)) in
    record {
      filters = λ e same.
          subst (λ (xs : List ℕ). FiltersFirst view filter_chunk e selection (j + 1) count old new c.args.out.now number xs c.put_item.new.out) (sym c.in_default.ensures.items) (done e same);
      length = c.in-Ok.ensures.length ∙ c.loop-item.invariant.length;
      header = c.in-Ok.ensures.header ∙ c.loop-item.invariant.header;
      unspent = ready.0;
      free = ready.1;
      whole = ready.2;
    }

pub returns-clause-filters : goal.returns-clause-filters
returns-clause-filters g c = λ e same.
    first-all g.T.Target.view filter_chunk (c.args.pages.now.length / 1024) e (selection_of c.args.every c.args.selected.now) c.loop-item.item-index c.items-item-items.result.now
    (g.S.Source.view c.args.pages.now.source) (g.S.Source.view c.loop-item.pages.source) c.args.out.now c.loop-item.out c.loop-item.number c.loop-item.offsets.items
    (c.items-item-items.ensures e (c.tree-2.ensures ∙ same)) (let past = c.loop-item-test.false in omega (arith, past)) (c.loop-item.invariant.filters e same)
