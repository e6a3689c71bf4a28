use Rattle.std.proofs.Common.{◌+◌, ◌++◌, drop, ◌∙◌, ap, arith}
use Rattle.e57_nodes.specs.Places.{with_value}
use Rattle.e57_edits.proofs.Valued.{values_left, values_go_on, values_end}
use Rattle.e57_edits.proofs.attrs.with_value.Goals as goal

pub loop-i-preserved : goal.loop-i-preserved
loop-i-preserved c =
    ap (λ xs. xs ++ values_left c.next_attr.new.is_set c.args.name.now c.args.text.now (drop (c.loop-i.i + 1) c.args.attrs.now)) c.in_ok-push.ensures.ok
    ∙ values_go_on c.loop-i.is_set c.next_attr.new.is_set c.args.name.now c.args.text.now c.args.attrs.now c.loop-i.new (with_value c.args.name.now c.args.text.now c.args.attrs.now) c.loop-i.i c.get.result.now c.in_ok-next_attr.field-0
    c.get.ensures c.in_ok-next_attr.ensures.copy c.in_ok-next_attr.ensures.set c.loop-i.invariant

pub returns : goal.returns
returns c =
    values_end c.loop-i.is_set c.args.name.now c.args.text.now c.args.attrs.now c.loop-i.new (with_value c.args.name.now c.args.text.now c.args.attrs.now) c.loop-i.i (omega arith) c.loop-i.invariant
