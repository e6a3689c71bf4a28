use Rattle.std.proofs.Common.{◌≡◌, ◌/◌, ◌∙◌, refl, sym, subst, arith, List, [], ◌∷◌, ◌++◌}
use Rattle.std.specs.Prelude.{slice_index_or}
use Rattle.e57_tree.specs.declared.items.Item.TheVariants as item
use Rattle.e57_repack.specs.Copying.{CopiesItems}
use Rattle.e57_repack.proofs.Several.{copies-none, copies-unnoted}
use Rattle.e57_repack.proofs.Stepping.{CopiesFirst, both-here, first-more, first-lost, first-all, still-whole}
use Rattle.std.proofs.Common.{ℕ, take, ◌+◌}
use Rattle.e57_elements.specs.Tree.{Element, preorder}
use Rattle.e57_nodes.specs.Items.{stated_items}
use Rattle.e57_nodes.specs.Shape.{shape_of}
use Rattle.e57_verdict.specs.Things.{things_in}
use Rattle.e57_repack.proofs.items.copy_items.Goals as goal

pub loop-item-init : goal.loop-item-init
loop-item-init g c = record {
  copies = λ e d same other.
      subst (λ (offsets : List ℕ). CopiesItems g.T.Target.view c.args.chunk [] [] (c.args.pages.now.length / 1024) (g.S.Source.view c.args.pages.now.source) (g.S.Source.view c.args.pages.now.source) c.args.out.now offsets c.args.out.now)
      (sym c.new-offsets.ensures.items)
      (copies-none g.T.Target.view c.args.chunk (c.args.pages.now.length / 1024) (g.S.Source.view c.args.pages.now.source) c.args.out.now c.size-size.ensures.state);
  length = refl;
  header = refl;
  unspent = c.requires.unspent;
  free = c.requires.free;
  whole = c.requires.whole;
}

pub copy_item-requires-clause-item : goal.copy_item-requires-clause-item
copy_item-requires-clause-item g c = λ e same.
    let found = c.raw-new.ensures.nodes in
    (both-here e found.tree c.items-item-items.result.now c.loop-item.item-index (item.Cloud 0) (c.requires.alike e found.tree same found.in_preorder)
    (c.raw-old.ensures.typed e (c.tree.ensures ∙ same)) (c.raw-new.ensures.typed found.tree found.in_preorder) (c.items-item-items.ensures e (c.tree-2.ensures ∙ same)) c.loop-item-test.true).old.is_item

pub copy_item-requires-clause-written : goal.copy_item-requires-clause-written
copy_item-requires-clause-written g c = λ d other.
    let found = c.raw-old.ensures.nodes in
    let same = sym c.tree.ensures ∙ found.in_preorder in
    (both-here found.tree d c.items-item-items.result.now c.loop-item.item-index (item.Cloud 0) (c.requires.alike found.tree d same other)
    (c.raw-old.ensures.typed found.tree found.in_preorder) (c.raw-new.ensures.typed d other) (c.items-item-items.ensures found.tree (c.tree-2.ensures ∙ same)) c.loop-item-test.true).new.is_item

pub copy_item-requires-clause-alike : goal.copy_item-requires-clause-alike
copy_item-requires-clause-alike g c = λ e d same other.
    (both-here e d c.items-item-items.result.now c.loop-item.item-index (item.Cloud 0) (c.requires.alike e d same other)
    (c.raw-old.ensures.typed e (c.tree.ensures ∙ same)) (c.raw-new.ensures.typed d other) (c.items-item-items.ensures e (c.tree-2.ensures ∙ same)) c.loop-item-test.true).alike

pub returns-in-Err-clause-copies : goal.returns-in-Err-clause-copies
returns-in-Err-clause-copies g c = λ e d same other.
    let both = both-here e d c.items-item-items.result.now c.loop-item.item-index (item.Cloud 0) (c.requires.alike e d same other)
    (c.raw-old.ensures.typed e (c.tree.ensures ∙ same)) (c.raw-new.ensures.typed d other) (c.items-item-items.ensures e (c.tree-2.ensures ∙ same)) c.loop-item-test.true in
    first-lost g.T.Target.view c.args.chunk (c.args.pages.now.length / 1024) e d c.loop-item.item-index (slice_index_or c.items-item-items.result.now c.loop-item.item-index (item.Cloud 0))
    (g.S.Source.view c.args.pages.now.source) (g.S.Source.view c.loop-item.pages.source) (g.S.Source.view c.copy_item.new.pages.source) c.args.out.now c.loop-item.out c.copy_item.new.out c.loop-item.offsets.items c.in-Err.fault
    both c.requires.whole (c.loop-item.invariant.copies e d same other) (rw c.loop-item.invariant.length at (c.in-Err.ensures.copies e d same other))

pub returns-in-Err-push-clause-copies : goal.returns-in-Err-push-clause-copies
returns-in-Err-push-clause-copies g c = λ e d same other.
    let both = both-here e d c.items-item-items.result.now c.loop-item.item-index (item.Cloud 0) (c.requires.alike e d same other)
    (c.raw-old.ensures.typed e (c.tree.ensures ∙ same)) (c.raw-new.ensures.typed d other) (c.items-item-items.ensures e (c.tree-2.ensures ∙ same)) c.loop-item-test.true in
    let x = slice_index_or c.items-item-items.result.now c.loop-item.item-index (item.Cloud 0) in
    let old = g.S.Source.view c.args.pages.now.source in
    let new = g.S.Source.view c.copy_item.new.pages.source in
    let count = c.args.pages.now.length / 1024 in
    let done = first-more g.T.Target.view c.args.chunk count e d c.loop-item.item-index x old (g.S.Source.view c.loop-item.pages.source) new c.args.out.now c.loop-item.out c.copy_item.new.out c.loop-item.offsets.items c.in-Ok.offset
    both c.requires.whole (c.loop-item.invariant.copies e d same other) (rw c.loop-item.invariant.length at (c.in-Ok.ensures.copies e d same other)) in
    copies-unnoted g.T.Target.view c.args.chunk count (take (c.loop-item.item-index + 1) (stated_items (shape_of d))) (stated_items (shape_of d)) (take (c.loop-item.item-index + 1) (things_in e)) (things_in e) old new c.args.out.now c.copy_item.new.out (c.loop-item.offsets.items ++ c.in-Ok.offset ∷ []) done

pub loop-item-preserved : goal.loop-item-preserved
loop-item-preserved g c =
    let x = slice_index_or c.items-item-items.result.now c.loop-item.item-index (item.Cloud 0) in
    let view = g.T.Target.view in
    let old = g.S.Source.view c.args.pages.now.source in
    let new = g.S.Source.view c.copy_item.new.pages.source in
    let count = c.args.pages.now.length / 1024 in
    let j = c.loop-item.item-index in
    let offsets = c.loop-item.offsets.items ++ c.in-Ok.offset ∷ [] in
    let done : (e d : Element) → c.args.file.now ≡ preorder e → c.args.tree.now ≡ preorder d → CopiesFirst view c.args.chunk e d (j + 1) count old new c.args.out.now offsets c.copy_item.new.out
    = λ e d same other.
    first-more view c.args.chunk count e d j x old (g.S.Source.view c.loop-item.pages.source) new c.args.out.now c.loop-item.out c.copy_item.new.out c.loop-item.offsets.items c.in-Ok.offset
    (both-here e d c.items-item-items.result.now j (item.Cloud 0) (c.requires.alike e d same other)
    (c.raw-old.ensures.typed e (c.tree.ensures ∙ same)) (c.raw-new.ensures.typed d other) (c.items-item-items.ensures e (c.tree-2.ensures ∙ same)) c.loop-item-test.true)
    c.requires.whole (c.loop-item.invariant.copies e d same other) (rw c.loop-item.invariant.length at (c.in-Ok.ensures.copies e d same other)) in
    let e = c.raw-old.ensures.nodes.tree in
    let d = c.raw-new.ensures.nodes.tree in
    let ready = still-whole view c.args.chunk count (take (j + 1) (stated_items (shape_of d))) (take (j + 1) (things_in e)) old new c.args.out.now c.copy_item.new.out offsets c.requires.free c.requires.whole
    (done e d (sym c.tree.ensures ∙ c.raw-old.ensures.nodes.in_preorder) c.raw-new.ensures.nodes.in_preorder) in
    record {
      copies = λ e d same other.
          subst (λ (xs : List ℕ). CopiesFirst view c.args.chunk e d (j + 1) count old new c.args.out.now xs c.copy_item.new.out) (sym c.in_default.ensures.items) (done e d same other);
      length = c.in-Ok.ensures.length ∙ c.loop-item.invariant.length;
      header = c.in-Ok.ensures.header ∙ c.loop-item.invariant.header;
      unspent = ready.0;
      free = ready.1;
      whole = ready.2;
    }

pub returns-clause-copies : goal.returns-clause-copies
returns-clause-copies g c = λ e d same other.
    first-all g.T.Target.view c.args.chunk (c.args.pages.now.length / 1024) e d c.loop-item.item-index c.items-item-items.result.now
    (g.S.Source.view c.args.pages.now.source) (g.S.Source.view c.loop-item.pages.source) c.args.out.now c.loop-item.out c.loop-item.offsets.items
    (c.requires.alike e d same other) (c.items-item-items.ensures e (c.tree-2.ensures ∙ same)) (let past = c.loop-item-test.false in omega (arith, past)) (c.loop-item.invariant.copies e d same other)
