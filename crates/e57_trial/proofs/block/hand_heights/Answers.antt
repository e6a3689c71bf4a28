use Rattle.std.proofs.Common.{◌∙◌, ap, arith}
use Rattle.e57_layout.specs.Values.{word}
use Rattle.e57_chunk_out.specs.CloudCalls.{with_items}
use Rattle.e57_trial.specs.Content.{z_at}
use Rattle.e57_trial.proofs.Columns.{held_items}
use Rattle.e57_trial.proofs.block.hand_heights.Goals as goal

pub returns : goal.returns
returns c =
    let room = c.requires.room in
    let a = c.args in
    let held = held_items word z_at c.heights-bits.result a.first a.n 0 (omega (arith, room)) (λ k below. c.heights-bits.ensures k (omega (arith, below, room))) in
    c.bits32.ensures.items ∙ ap (with_items a.cloud.now 4) held
