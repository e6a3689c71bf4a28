use Rattle.std.proofs.Common.{[], ◌∷◌, ◌++◌, ◌≡◌, length, refl, ap, ◌∙◌, arith}
use Rattle.e57_elements.specs.Making.{add_attr}
use Rattle.e57_elements.proofs.Elements.{on_ok}
use Rattle.e57_elements.proofs.Sets.{ok_or_err, attr_set, added, changes, set_attrs, one_attr}
use Rattle.e57_elements.proofs.tree_out.TreeOut.attr.Goals as goal

pub invariant_of-self : goal.invariant_of-self
invariant_of-self c =
    let read = c.index_mut.result.now in
    let is_len : c.len-last.result ≡ length c.self.inside.nodes.items = omega arith in
    let one = one_attr c.new.result c.args.name.now c.new-2.result c.args.value.now (c.new.ensures ∙ c.in_ok-from_slice.ensures.items) (c.new-2.ensures ∙ c.in_ok-from_slice-2.ensures.items) in
    attr_set c.args.self.now c.self.inside.nodes.items c.self.inside.begun.items c.args.name.now c.args.value.now c.requires read c.len-last.result c.push.new.self
    c.self.view_is c.self.invariant is_len c.index_mut.ensures.value
    (ok_or_err _ _ c.push.result (on_ok _ _ c.push.result (λ e. e ∙ ap (λ a. read.attrs ++ a ∷ []) one) c.push.ensures.ok) c.push.ensures.err)

pub returns-clause-ok : goal.returns-clause-ok
returns-clause-ok c =
    let read = c.index_mut.result.now in
    let is_len : c.len-last.result ≡ length c.self.inside.nodes.items = omega arith in
    let one = one_attr c.new.result c.args.name.now c.new-2.result c.args.value.now (c.new.ensures ∙ c.in_ok-from_slice.ensures.items) (c.new-2.ensures ∙ c.in_ok-from_slice-2.ensures.items) in
    on_ok _ _ c.push.result
    (λ e. changes c.args.self.now _ c.self.inside.nodes.items c.self.inside.begun.items read (set_attrs c.push.new.self read) c.len-last.result (add_attr c.args.name.now c.args.value.now)
    c.self.view_is refl is_len c.index_mut.ensures.value (added c.push.new.self c.args.name.now c.args.value.now read (e ∙ ap (λ a. read.attrs ++ a ∷ []) one)))
    c.push.ensures.ok
