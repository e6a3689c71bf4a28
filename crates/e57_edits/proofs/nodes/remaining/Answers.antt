use Rattle.std.proofs.Common.{◌+◌, ◌-◌, drop, ◌∙◌, ap, arith}
use Rattle.std.proofs.lemmas.List.{length-set}
use Rattle.e57_tree.specs.Flat.{raw_at}
use Rattle.e57_edits.specs.Nodes.{count_before}
use Rattle.e57_edits.proofs.Counted.{counts_all, counts_one_more, count_few}
use Rattle.e57_edits.proofs.nodes.remaining.Goals as goal

pub loop-n-init : goal.loop-n-init
loop-n-init c = record {
  all = omega (arith, c.in_ok-counts.ensures.len, c.in_ok-counts.counts.ok.0, c.len-all.ensures.len);
  same = counts_all c.args.changes.now c.args.raw.now c.in_ok-counts.counts.items c.len-all.result c.len-all.ensures.len (c.in_ok-counts.ensures.items_if_clones_equal (λ y same. same));
}

pub count_before-requires-clause-few : goal.count_before-requires-clause-few
count_before-requires-clause-few c =
    count_few c.args.changes.now c.args.raw.now c.deref.result.now (c.loop-n.n - 1 + 1) c.loop-n.n (omega (arith, c.loop-n-test.true)) (ap (drop c.loop-n.n) c.deref.ensures.value ∙ c.loop-n.invariant.same)

pub loop-n-preserved : goal.loop-n-preserved
loop-n-preserved c = record {
  all = length-set c.loop-n.counts.items (c.loop-n.n - 1) c.count_before.result ∙ c.loop-n.invariant.all;
  same =
      counts_one_more c.args.changes.now c.args.raw.now c.loop-n.counts.items (c.loop-n.n - 1) c.loop-n.n c.count_before.result c.change_at.result (omega (arith, c.loop-n-test.true))
      (omega (arith, c.loop-n-test.true, c.loop-n.auto.n, c.len-all.ensures.len)) c.loop-n.invariant.all c.change_at.ensures
      (c.count_before.ensures ∙ ap (λ xs. count_before c.change_at.result (raw_at c.args.raw.now (c.loop-n.n - 1)) (drop (c.loop-n.n - 1 + 1) xs)) c.deref.ensures.value) c.loop-n.invariant.same;
}
