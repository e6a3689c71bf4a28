use Rattle.std.proofs.Common.{◌∙◌, List, map, take, pos, subst, sym, ap, arith}
use Rattle.e57_layout.specs.Items.{AreItems}
use Rattle.e57_layout.specs.Values.{ItemKind, integers, Value, whole}
use Rattle.e57_chunk_out.specs.CloudCalls.{with_items}
use Rattle.e57_trial.specs.Records.{coordinate_at}
use Rattle.e57_trial.proofs.Columns.{coordinates_are, held_items}
use Rattle.e57_trial.proofs.Handing.{coordinate_kind}
use Rattle.e57_trial.proofs.block.hand_coordinates.Goals as goal

pub ints-requires-clause-items : goal.ints-requires-clause-items
ints-requires-clause-items c =
    let room = c.requires.room in
    let a = c.args in
    let held = held_items whole (λ i. pos (coordinate_at a.start a.factor i)) c.coordinates-values.result a.first a.n (pos 0) (omega (arith, room)) (λ k below. c.coordinates-values.ensures k (omega (arith, below, room))) in
    subst (λ (kind : ItemKind). AreItems kind (map whole (take a.n c.coordinates-values.result))) (sym (coordinate_kind a.cloud.now a.f c.requires.kinds c.requires.field))
    (subst (λ (values : List Value). AreItems (integers (pos 0) (pos 1048575)) values) (sym held) (coordinates_are a.start a.factor a.first a.n))

pub returns : goal.returns
returns c =
    let room = c.requires.room in
    let a = c.args in
    let held = held_items whole (λ i. pos (coordinate_at a.start a.factor i)) c.coordinates-values.result a.first a.n (pos 0) (omega (arith, room)) (λ k below. c.coordinates-values.ensures k (omega (arith, below, room))) in
    c.ints.ensures.items ∙ ap (with_items a.cloud.now a.f) held
