use Rattle.std.proofs.Common.{◌∙◌, ℕ, List, map, take, pos, subst, sym, ap, arith}
use Rattle.e57_layout.specs.Items.{AreItems}
use Rattle.e57_layout.specs.Values.{ItemKind, integers, Value, whole}
use Rattle.e57_chunk_out.specs.CloudCalls.{with_items}
use Rattle.e57_trial.proofs.Columns.{rows_are, held_items}
use Rattle.e57_trial.proofs.Handing.{kind_at}
use Rattle.e57_trial.proofs.block.hand_rows.Goals as goal

pub ints-requires-clause-items : goal.ints-requires-clause-items
ints-requires-clause-items c =
    let room = c.requires.room in
    let a = c.args in
    let held = held_items whole (λ (i : ℕ). pos 0) c.row_indices-values.result 0 a.n (pos 0) (omega (arith, room)) (λ k below. c.row_indices-values.ensures k (omega (arith, below, room))) in
    subst (λ (kind : ItemKind). AreItems kind (map whole (take a.n c.row_indices-values.result))) (sym (kind_at a.cloud.now 3 c.requires.kinds))
    (subst (λ (values : List Value). AreItems (integers (pos 0) (pos 0)) values) (sym held) (rows_are 0 a.n))

pub returns : goal.returns
returns c = λ first.
    let room = c.requires.room in
    let a = c.args in
    let held = held_items whole (λ (i : ℕ). pos 0) c.row_indices-values.result first a.n (pos 0) (omega (arith, room)) (λ k below. c.row_indices-values.ensures k (omega (arith, below, room))) in
    c.ints.ensures.items ∙ ap (with_items a.cloud.now 3) held
