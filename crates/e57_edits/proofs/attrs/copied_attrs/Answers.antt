use Rattle.std.proofs.Common.{◌+◌, ◌++◌, drop, ◌∙◌, ap}
use Rattle.e57_edits.proofs.Valued.{copies_go_on}
use Rattle.e57_edits.proofs.attrs.copied_attrs.Goals as goal

pub loop-i-preserved : goal.loop-i-preserved
loop-i-preserved c =
    ap (λ xs. xs ++ drop (c.loop-i.i + 1) c.args.attrs.now) c.in_ok-push.ensures.ok
    ∙ copies_go_on c.args.attrs.now c.loop-i.new c.loop-i.i c.get.result.now c.in_ok-copied_attr.field-0 c.get.ensures c.in_ok-copied_attr.ensures c.loop-i.invariant
