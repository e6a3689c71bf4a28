use Rattle.std.proofs.Common.{◌+◌, ◌++◌, drop, ◌∙◌, ap, arith, Bool, cond, ◌&&◌, ◌≡◌}
use mir.Val.{bool_byte}
use Rattle.e57_nodes.specs.Facts.{type_in}
use Rattle.e57_plain.specs.Pruned.{is_field_type}
use Rattle.e57_tree.specs.Flat.{nodes_between}
use Rattle.e57_edits.specs.Changes.{choice_change, choice_changes}
use Rattle.e57_edits.proofs.Planned.{at_most_one, one_if, same_field, ended, choices_go_on, choices_end}
use Rattle.e57_edits.proofs.cloud.choose_below.Goals as goal

pub loop-n-preserved : goal.loop-n-preserved
loop-n-preserved c =
    let field : c.is_field-is_field.result ≡ is_field_type (type_in c.node.result.now.attrs) = c.is_field-is_field.ensures ∙ same_field c.element_type.result ∙ ap is_field_type c.element_type.ensures in
    record {
      same =
          ap (λ xs. xs ++ choice_changes (drop (c.loop-n.used + bool_byte c.is_field-is_field.result) c.args.chosen.now) (nodes_between c.args.raw.now (c.loop-n.n + 1) c.end_of-end.result)) c.in_ok-push.ensures.items
          ∙ choices_go_on c.args.chosen.now c.args.raw.now c.loop-n.changes.items (c.args.changes.now.items ++ choice_changes c.args.chosen.now (nodes_between c.args.raw.now (c.args.prototype + 1) c.end_of-end.result))
          c.loop-n.n c.end_of-end.result c.loop-n.used (c.loop-n.used + bool_byte c.is_field-is_field.result) c.node.result.now c.choice_change.result c.node.ensures c.loop-n-test.true
          (c.choice_change.ensures ∙ ap (λ b. choice_change (b && c.is_chosen.result)) field ∙ ap (λ b. choice_change (is_field_type (type_in c.node.result.now.attrs) && b)) c.is_chosen.ensures)
          (ap (λ k. c.loop-n.used + k) (one_if c.is_field-is_field.result ∙ ap (λ (b : Bool). cond b 1 0) field))
          c.loop-n.invariant.same;
      few = omega (arith, at_most_one c.is_field-is_field.result, c.loop-n.invariant.few);
    }

pub returns : goal.returns
returns c =
    ended (c.args.changes.now.items ++ choice_changes c.args.chosen.now (nodes_between c.args.raw.now (c.args.prototype + 1) c.end_of-end.result)) c.loop-n.changes.items
    (choice_changes (drop c.loop-n.used c.args.chosen.now) (nodes_between c.args.raw.now c.loop-n.n c.end_of-end.result))
    (choices_end c.args.chosen.now c.args.raw.now c.loop-n.n c.end_of-end.result c.loop-n.used (omega arith)) c.loop-n.invariant.same
    ∙ ap (λ end. c.args.changes.now.items ++ choice_changes c.args.chosen.now (nodes_between c.args.raw.now (c.args.prototype + 1) end)) c.end_of-end.ensures.end
