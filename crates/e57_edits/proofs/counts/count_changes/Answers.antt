use Rattle.std.proofs.Common.{◌+◌, ◌++◌, drop, ◌∙◌, ap, arith, Bool, cond}
use mir.Val.{bool_byte}
use Rattle.e57_nodes.specs.Facts.{type_in}
use Rattle.e57_nodes.specs.Places.{has_section}
use Rattle.e57_edits.specs.Changes.{count_change, count_changes}
use Rattle.e57_edits.proofs.Planned.{at_most_one, one_if, ended, counts_go_on, counts_end}
use Rattle.e57_edits.proofs.counts.count_changes.Goals as goal

pub loop-n-preserved : goal.loop-n-preserved
loop-n-preserved c = record {
  same =
      ap (λ xs. xs ++ count_changes (drop (c.loop-n.used + bool_byte c.has_section.result) c.args.counts.now) (drop (c.loop-n.n + 1) c.args.raw.now)) c.in_ok-push.ensures.items
      ∙ counts_go_on c.args.counts.now c.args.raw.now c.loop-n.changes.items (count_changes c.args.counts.now c.args.raw.now) c.loop-n.n c.loop-n.used (c.loop-n.used + bool_byte c.has_section.result)
      c.node.result.now c.count_change.result c.node.ensures
      (c.count_change.ensures ∙ ap (λ t. count_change t c.count_at.result) c.element_type-node_type.ensures ∙ ap (count_change (type_in c.node.result.now.attrs)) c.count_at.ensures)
      (ap (λ k. c.loop-n.used + k) (one_if c.has_section.result ∙ ap (λ (b : Bool). cond b 1 0) (c.has_section.ensures ∙ ap has_section c.element_type-node_type.ensures)))
      c.loop-n.invariant.same;
  few = omega (arith, at_most_one c.has_section.result, c.loop-n.invariant.few);
}

pub returns : goal.returns
returns c =
    ended (count_changes c.args.counts.now c.args.raw.now) c.loop-n.changes.items (count_changes (drop c.loop-n.used c.args.counts.now) (drop c.loop-n.n c.args.raw.now))
    (counts_end c.args.counts.now c.args.raw.now c.loop-n.n c.loop-n.used (omega arith)) c.loop-n.invariant.same
