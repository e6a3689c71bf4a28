use Rattle.std.proofs.Common.{ℕ, List, [], sym, subst}
use Rattle.e57_elements.specs.declared.tree.RawNode.{RawNode}
use Rattle.e57_elements.specs.Making.{IsLawfulSoFar}
use Rattle.e57_elements.proofs.Makes.{so_far, new_lawful}
use Rattle.e57_elements.proofs.tree_out.TreeOut.new.Goals as goal

pub invariant_of-result : goal.invariant_of-result
invariant_of-result c =
    subst (λ (ns : List RawNode). IsLawfulSoFar (so_far ns c.in_ok-with_capacity.field-0.items)) (sym c.new.ensures.items)
    (subst (λ (ps : List ℕ). IsLawfulSoFar (so_far [] ps)) (sym c.in_ok-with_capacity.ensures.items) new_lawful)
