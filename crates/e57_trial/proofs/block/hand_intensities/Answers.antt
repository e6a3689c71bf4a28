use Rattle.std.proofs.Common.{◌∙◌, List, map, take, pos, subst, sym, ap, arith}
use Rattle.e57_layout.specs.Items.{AreItems}
use Rattle.e57_layout.specs.Values.{ItemKind, integers, Value, whole}
use Rattle.e57_chunk_out.specs.CloudCalls.{with_items}
use Rattle.e57_trial.specs.Content.{intensity_at}
use Rattle.e57_trial.proofs.Columns.{intensities_are, held_items}
use Rattle.e57_trial.proofs.Handing.{kind_at}
use Rattle.e57_trial.proofs.block.hand_intensities.Goals as goal

pub ints-requires-clause-items : goal.ints-requires-clause-items
ints-requires-clause-items c =
    let room = c.requires.room in
    let a = c.args in
    let held = held_items whole (λ i. pos (intensity_at i)) c.intensities-values.result a.first a.n (pos 0) (omega (arith, room)) (λ k below. c.intensities-values.ensures k (omega (arith, below, room))) in
    subst (λ (kind : ItemKind). AreItems kind (map whole (take a.n c.intensities-values.result))) (sym (kind_at a.cloud.now 2 c.requires.kinds))
    (subst (λ (values : List Value). AreItems (integers (pos 0) (pos 255)) values) (sym held) (intensities_are a.first a.n))

pub returns : goal.returns
returns c =
    let room = c.requires.room in
    let a = c.args in
    let held = held_items whole (λ i. pos (intensity_at i)) c.intensities-values.result a.first a.n (pos 0) (omega (arith, room)) (λ k below. c.intensities-values.ensures k (omega (arith, below, room))) in
    c.ints.ensures.items ∙ ap (with_items a.cloud.now 2) held
