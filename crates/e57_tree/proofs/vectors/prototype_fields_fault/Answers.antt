use Rattle.std.proofs.Common.{Option, ◌∙◌, sym, ap, length}
use Rattle.std.specs.Prelude.{codes}
use Rattle.std.specs.Option.{option_or}
use Rattle.e57_base.specs.declared.fault.Fault.{Fault}
use Rattle.e57_nodes.specs.Shape.{Node, children_of}
use Rattle.e57_nodes.specs.Fields.{child_named, fields_below, fields_of}
use Rattle.e57_nodes.specs.Typed.{field_count_fault, prototype_fault}
use Rattle.e57_tree.specs.Flat.{node_in}
use Rattle.e57_tree.proofs.vectors.prototype_fields_fault.Goals as goal

pub returns-in-Some : goal.returns-in-Some
returns-in-Some c =
    let found = ap (λ (o : Option Node). prototype_fault c.args.n o) (sym (c.child_named-prototype.ensures.child ∙ ap (λ w. child_named w (children_of (node_in c.args.raw.now c.args.n))) c.as_slice.ensures)) ∙ sym c.prototype_fault.ensures ∙ c.in-Some.is in
    sym (ap (λ o. option_or o (field_count_fault c.args.n (length (fields_of (node_in c.args.raw.now c.args.n))))) found)

pub returns : goal.returns
unfolding fields_of
returns c =
    let nothing = ap (λ (o : Option Node). prototype_fault c.args.n o) (sym (c.child_named-prototype.ensures.child ∙ ap (λ w. child_named w (children_of (node_in c.args.raw.now c.args.n))) c.as_slice.ensures)) ∙ sym c.prototype_fault.ensures ∙ c.in_default.is in
    let count = c.field_count.ensures ∙ ap (λ (o : Option Node). length (fields_below o)) (c.child_named-prototype.ensures.child ∙ ap (λ w. child_named w (children_of (node_in c.args.raw.now c.args.n))) c.as_slice.ensures) in
    c.field_count_fault.ensures ∙ ap (field_count_fault c.args.n) count
    ∙ sym (ap (λ (o : Option Fault). option_or o (field_count_fault c.args.n (length (fields_below (child_named (codes "prototype") (children_of (node_in c.args.raw.now c.args.n))))))) nothing)
