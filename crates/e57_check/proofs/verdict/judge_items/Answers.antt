use Rattle.std.proofs.Common.{◌/◌, ◌∙◌, refl, arith}
use Rattle.e57_tree.specs.declared.items.Item.TheVariants as item
use Rattle.e57_check.proofs.Walking.{begins, next-item, ends}
use Rattle.e57_check.proofs.verdict.judge_items.Goals as goal

pub loop-item-init : goal.loop-item-init
loop-item-init g c = (
  λ e same. begins (c.args.pages.now.length / 1024) (g.S.Source.view c.args.pages.now.source) c.tree.result.now e c.raw-raw.ensures.nodes (c.tree.ensures ∙ same) (c.raw-raw.ensures.typed e (c.tree.ensures ∙ same)),
  refl,
  refl,
)

pub judge_item-requires : goal.judge_item-requires
judge_item-requires g c = λ e same.
    (next-item (c.args.pages.now.length / 1024) (g.S.Source.view c.args.pages.now.source) e c.loop-item.item-index c.loop-item.summary (g.S.Source.view c.loop-item.pages.source) c.items-item-items.result.now (item.Cloud 0)
    (c.loop-item.invariant.0 e same) (c.items-item-items.ensures e (c.tree-2.ensures ∙ same)) c.loop-item-test.true).fits

pub loop-item-preserved : goal.loop-item-preserved
loop-item-preserved g c = (
  λ e same.
      (next-item (c.args.pages.now.length / 1024) (g.S.Source.view c.args.pages.now.source) e c.loop-item.item-index c.loop-item.summary (g.S.Source.view c.loop-item.pages.source) c.items-item-items.result.now (item.Cloud 0)
      (c.loop-item.invariant.0 e same) (c.items-item-items.ensures e (c.tree-2.ensures ∙ same)) c.loop-item-test.true).goes_on
      c.in-Ok.next (g.S.Source.view c.judge_item.new.pages.source) (rw c.loop-item.invariant.1 at (c.in-Ok.ensures.thing e same)),
  c.in-Ok.ensures.length ∙ c.loop-item.invariant.1,
  c.in-Ok.ensures.header ∙ c.loop-item.invariant.2,
)

pub returns-in-Err-clause-things : goal.returns-in-Err-clause-things
returns-in-Err-clause-things g c = λ e same.
    (next-item (c.args.pages.now.length / 1024) (g.S.Source.view c.args.pages.now.source) e c.loop-item.item-index c.loop-item.summary (g.S.Source.view c.loop-item.pages.source) c.items-item-items.result.now (item.Cloud 0)
    (c.loop-item.invariant.0 e same) (c.items-item-items.ensures e (c.tree-2.ensures ∙ same)) c.loop-item-test.true).refuses
    c.in-Err.fault (g.S.Source.view c.judge_item.new.pages.source) (rw c.loop-item.invariant.1 at (c.in-Err.ensures.thing e same))

pub returns-clause-things : goal.returns-clause-things
returns-clause-things g c = λ e same.
    ends (c.args.pages.now.length / 1024) (g.S.Source.view c.args.pages.now.source) e c.loop-item.item-index c.loop-item.summary (g.S.Source.view c.loop-item.pages.source) c.items-item-items.result.now
    (c.loop-item.invariant.0 e same) (c.items-item-items.ensures e (c.tree-2.ensures ∙ same)) (let past = c.loop-item-test.false in omega (arith, past))
