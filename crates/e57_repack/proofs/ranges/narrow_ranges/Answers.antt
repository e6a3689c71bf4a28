use Rattle.std.proofs.Common.{◌≡◌, ◌/◌, ◌∙◌, length, refl, sym, subst, ap, arith, List}
use Rattle.std.specs.Prelude.{slice_index_or}
use Rattle.e57_elements.specs.declared.tree.RawNode.{RawNode}
use Rattle.e57_tree.specs.declared.items.Item.TheVariants as item
use Rattle.e57_repack.specs.Ranges.{AreLimits}
use Rattle.e57_repack.proofs.Ranging.{blank-limits, found-all, item-here, items-none, not-found, widened-to}
use Rattle.e57_copy.proofs.OneTree.{good-tree}
use Rattle.e57_repack.proofs.ranges.narrow_ranges.Goals as goal

pub loop-item-init : goal.loop-item-init
loop-item-init g c =
    let many : c.len.result ≡ length c.args.file.now = c.len.ensures.len ∙ ap (λ (ns : List RawNode). length ns) (c.raw-raw.ensures.same ∙ c.tree.ensures) in
    record {
      widens = λ e same. items-none (c.args.pages.now.length / 1024) c.len.result (g.S.Source.view c.args.pages.now.source) c.in-Ok.ranges.items c.in-Ok.ensures;
      same_size = refl;
      same_header = refl;
      limits = subst (λ k. AreLimits k c.in-Ok.ranges.items) many (blank-limits c.len.result c.in-Ok.ranges.items c.in-Ok.ensures);
    }

pub widen_by_item-requires-clause-item : goal.widen_by_item-requires-clause-item
widen_by_item-requires-clause-item g c = λ e same.
    (item-here e c.items-item-items.result.now c.loop-item.item-index (item.Cloud 0) (c.raw-raw.ensures.typed e (c.tree.ensures ∙ sym c.tree-in-loop-item.ensures ∙ same))
    (c.items-item-items.ensures e (c.tree-2.ensures ∙ sym c.tree-in-loop-item.ensures ∙ same)) c.loop-item-test.true).is_item

pub widen_by_item-requires-clause-all : goal.widen_by_item-requires-clause-all
widen_by_item-requires-clause-all g c = c.loop-item.invariant.limits.all ∙ ap (λ (ns : List RawNode). length ns) (sym c.tree-in-loop-item.ensures)

pub widen_by_item-requires-clause-limits : goal.widen_by_item-requires-clause-limits
widen_by_item-requires-clause-limits g c = subst (λ k. AreLimits k c.loop-item.ranges.items) (sym c.loop-item.invariant.limits.all) c.loop-item.invariant.limits

pub returns-in-Err-widen_by_item-clause-ranges : goal.returns-in-Err-widen_by_item-clause-ranges
returns-in-Err-widen_by_item-clause-ranges g c = λ e same.
    let here = item-here e c.items-item-items.result.now c.loop-item.item-index (item.Cloud 0) (c.raw-raw.ensures.typed e (c.tree.ensures ∙ same)) (c.items-item-items.ensures e (c.tree-2.ensures ∙ same)) c.loop-item-test.true in
    not-found e c.loop-item.item-index (slice_index_or c.items-item-items.result.now c.loop-item.item-index (item.Cloud 0)) (c.args.pages.now.length / 1024)
    (g.S.Source.view c.args.pages.now.source) (g.S.Source.view c.loop-item.pages.source) (g.S.Source.view c.widen_by_item.new.pages.source) c.loop-item.ranges.items c.in-Err-widen_by_item.fault
    here (c.loop-item.invariant.widens e same) (rw c.loop-item.invariant.same_size at (c.in-Err-widen_by_item.ensures.widens e (c.tree-in-loop-item.ensures ∙ same)))

pub loop-item-preserved : goal.loop-item-preserved
loop-item-preserved g c = record {
  widens = λ e same.
      let here = item-here e c.items-item-items.result.now c.loop-item.item-index (item.Cloud 0) (c.raw-raw.ensures.typed e (c.tree.ensures ∙ same)) (c.items-item-items.ensures e (c.tree-2.ensures ∙ same)) c.loop-item-test.true in
      widened-to e c.loop-item.item-index (slice_index_or c.items-item-items.result.now c.loop-item.item-index (item.Cloud 0)) (c.args.pages.now.length / 1024)
      (g.S.Source.view c.args.pages.now.source) (g.S.Source.view c.loop-item.pages.source) (g.S.Source.view c.widen_by_item.new.pages.source) c.loop-item.ranges.items c.widen_by_item.new.ranges.items
      here (c.loop-item.invariant.widens e same) (rw c.loop-item.invariant.same_size at (c.in_default.ensures.widens e (c.tree-in-loop-item.ensures ∙ same)));
  same_size = c.in_default.ensures.length ∙ c.loop-item.invariant.same_size;
  same_header = c.in_default.ensures.header ∙ c.loop-item.invariant.same_header;
  limits = subst (λ k. AreLimits k c.widen_by_item.new.ranges.items) c.loop-item.invariant.limits.all c.in_default.ensures.limits;
}

pub returns-clause-ranges : goal.returns-clause-ranges
returns-clause-ranges g c = λ e same.
    let nodes = c.tree.ensures ∙ same in
    let past = c.loop-item-test.false in
    found-all e c.items-item-items.result.now c.loop-item.item-index (c.args.pages.now.length / 1024) (g.S.Source.view c.args.pages.now.source) (g.S.Source.view c.loop-item.pages.source) c.loop-item.ranges.items
    (good-tree c.tree.result.now e c.raw-raw.ensures.nodes c.raw-raw.ensures.typed nodes) (c.items-item-items.ensures e (c.tree-2.ensures ∙ same)) (omega (arith, past)) (c.loop-item.invariant.widens e same)
