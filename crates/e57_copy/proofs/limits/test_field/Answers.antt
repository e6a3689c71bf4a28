use Rattle.std.proofs.Common.{rules, arith, w64, to_z, of_z, subst}
use Rattle.std.proofs.lemmas.Int.{to_z-of_z}
use Rattle.e57_layout.specs.Values.{item_kind}
use Rattle.e57_layout.specs.Items.{AreItems}
use Rattle.e57_column.specs.Column.{kind_of}
use Rattle.e57_blocks.specs.Runs.{held_values}
use Rattle.e57_copy.proofs.Alike.{same_items}
use Rattle.e57_copy.proofs.Testing.{field_outside, held_many}
use Rattle.e57_copy.proofs.limits.test_field.Goals as goal

pub returns-in_default : goal.returns-in_default
returns-in_default c =
    same_items (kind_of c.args.block.now.column.items) (item_kind c.args.field.now.kind) (held_values c.args.block.now c.args.i c.args.n) c.requires.alike c.in_default.ensures
    (subst (AreItems (kind_of c.args.block.now.column.items)) c.run-run.ensures.values c.run-run.ensures.within)

pub overflow_add-i : goal.overflow_add-i
overflow_add-i c =
    let many = held_many c.args.block.now c.args.i c.args.n c.in-Ints.items.now c.in-Ints.ensures.values in
    let below = c.in-Some-first_outside.ensures.0 in
    let last = c.requires.last in
    record { fits = omega (arith, many, below, last) }

pub returns-in-Some-first_outside : goal.returns-in-Some-first_outside
returns-in-Some-first_outside c =
    field_outside c.args.block.now c.args.i c.args.n c.in-Ints.items.now c.in-Ints.ensures.values c.args.field.now c.in-Some-first_outside.k c.in-Some.low c.in-Some.high (to_z w64 (of_z w64 c.in-Some.low)) (to_z w64 (of_z w64 c.in-Some.high)) c.new.result
    c.requires.have c.in-Some.ensures (to_z-of_z w64 c.in-Some.low (search rules)) (to_z-of_z w64 c.in-Some.high (search rules)) c.in-Some-first_outside.ensures.0 c.in-Some-first_outside.ensures.1 c.new.ensures
