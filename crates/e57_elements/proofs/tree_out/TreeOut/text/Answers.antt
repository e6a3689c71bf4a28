use Rattle.std.proofs.Common.{◌≡◌, length, refl, ap, ◌∙◌, arith}
use Rattle.e57_elements.specs.Making.{set_text}
use Rattle.e57_elements.proofs.Sets.{text_set, changes}
use Rattle.e57_elements.proofs.tree_out.TreeOut.text.Goals as goal

pub invariant_of-self : goal.invariant_of-self
invariant_of-self c =
    let is_len : c.len-last.result ≡ length c.self.inside.nodes.items = omega arith in
    text_set c.args.self.now c.self.inside.nodes.items c.self.inside.begun.items c.args.text.now c.requires c.index_mut.result.now c.len-last.result c.new-text.result
    c.self.view_is c.self.invariant is_len c.index_mut.ensures.value (c.new-text.ensures ∙ c.in_ok-from_slice.ensures.items)

pub returns-clause-ok : goal.returns-clause-ok
returns-clause-ok c =
    let read = c.index_mut.result.now in
    let is_len : c.len-last.result ≡ length c.self.inside.nodes.items = omega arith in
    changes c.args.self.now _ c.self.inside.nodes.items c.self.inside.begun.items read (set_text c.new-text.result read) c.len-last.result (set_text c.args.text.now)
    c.self.view_is refl is_len c.index_mut.ensures.value (ap (λ bs. set_text bs read) (c.new-text.ensures ∙ c.in_ok-from_slice.ensures.items))
