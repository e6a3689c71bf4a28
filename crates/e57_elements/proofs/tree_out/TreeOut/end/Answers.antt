use Rattle.std.proofs.Common.{ℕ, ◌++◌, ◌≡◌, length, refl, ap, ◌∙◌, Option, arith}
use Rattle.std.specs.Option.{option_to_list}
use Rattle.e57_elements.proofs.Sets.{taken, end_set, ends}
use Rattle.e57_elements.proofs.tree_out.TreeOut.end.Goals as goal

pub overflow_sub-size : goal.overflow_sub-size
overflow_sub-size c =
    let popped = c.pop.ensures.items ∙ ap (λ (o : Option ℕ). c.pop.new.self.items ++ option_to_list o) c.unwrap-place.ensures in
    let t = taken c.self.inside.nodes.items c.self.inside.begun.items c.pop.new.self.items c.unwrap-place.result c.self.invariant popped in
    let l = t.inside in
    omega arith

pub index_mut-requires : goal.index_mut-requires
index_mut-requires c =
    let popped = c.pop.ensures.items ∙ ap (λ (o : Option ℕ). c.pop.new.self.items ++ option_to_list o) c.unwrap-place.ensures in
    let t = taken c.self.inside.nodes.items c.self.inside.begun.items c.pop.new.self.items c.unwrap-place.result c.self.invariant popped in
    let l = t.inside in
    omega arith

pub invariant_of-self : goal.invariant_of-self
invariant_of-self c =
    let popped = c.pop.ensures.items ∙ ap (λ (o : Option ℕ). c.pop.new.self.items ++ option_to_list o) c.unwrap-place.ensures in
    let is_len : c.len.result ≡ length c.self.inside.nodes.items = omega arith in
    end_set c.self.inside.nodes.items c.self.inside.begun.items c.pop.new.self.items c.unwrap-place.result c.len.result c.index_mut.result.now c.self.invariant popped is_len c.index_mut.ensures.value

pub returns : goal.returns
returns c outer before below node at_places at_nodes =
    let popped = c.pop.ensures.items ∙ ap (λ (o : Option ℕ). c.pop.new.self.items ++ option_to_list o) c.unwrap-place.ensures in
    let is_len : c.len.result ≡ length c.self.inside.nodes.items = omega arith in
    ends c.args.self.now _ c.self.inside.nodes.items c.self.inside.begun.items c.pop.new.self.items c.unwrap-place.result c.len.result c.index_mut.result.now
    c.self.view_is popped is_len c.index_mut.ensures.value refl outer before below node at_places at_nodes
