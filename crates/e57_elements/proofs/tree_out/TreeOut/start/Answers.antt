use Rattle.std.proofs.Common.{[], ◌∷◌, ◌++◌, ◌≡◌, length, ap, ◌∙◌, arith}
use Rattle.e57_elements.proofs.Sets.{start_set, one_node}
use Rattle.e57_elements.specs.declared.tree.RawNode.{RawNode}
use Rattle.e57_elements.proofs.tree_out.TreeOut.start.Goals as goal

pub invariant_of-self-in_default : goal.invariant_of-self-in_default
invariant_of-self-in_default c =
    let is_len : c.len.result ≡ length c.self.inside.nodes.items = omega arith in
    let one = one_node c.new.result c.args.name.now c.new-4.result c.new-2.result (c.new.ensures ∙ c.in_ok-from_slice.ensures.items) c.new-2.ensures (c.new-4.ensures ∙ c.new-3.ensures.items) in
    start_set c.args.self.now c.self.inside.nodes.items c.self.inside.begun.items c.args.name.now c.requires c.self.view_is c.self.invariant c.push-2.new.self.items c.push.new.self.items
    (c.in_default.ensures.items ∙ ap (λ (x : RawNode). c.self.inside.nodes.items ++ x ∷ []) one)
    (c.in_ok-push.ensures.items ∙ ap (λ k. c.self.inside.begun.items ++ k ∷ []) is_len)
