use Rattle.std.specs.Prelude.{get_or, pos}
use Rattle.std.proofs.Common.{rules, w64, to_z, of_z, ◌∙◌}
use Rattle.std.proofs.lemmas.Int.{to_z-of_z}
use Rattle.e57_repack.proofs.Joining.{range-more}
use Rattle.e57_repack.proofs.widening.extremes.Goals as goal

pub loop-k-preserved : goal.loop-k-preserved
loop-k-preserved c =
    let z = get_or c.args.items.now c.loop-k.k (pos 0) in
    let is = to_z-of_z w64 z (search rules) in
    let low = to_z-of_z w64 c.min-low.result (search rules) in
    let high = to_z-of_z w64 c.max-high.result (search rules) in
    let wider = range-more c.args.items.now c.loop-k.k (pos 0) (to_z w64 c.loop-k.low-bits) (to_z w64 c.loop-k.high-bits) (to_z w64 (of_z w64 z)) (to_z w64 (of_z w64 c.min-low.result)) (to_z w64 (of_z w64 c.max-high.result)) c.loop-k-test.true
    c.loop-k.invariant.range c.loop-k.invariant.ordered is (low ∙ c.min-low.ensures.value) (high ∙ c.max-high.ensures.value) in
    record { range = wider.0; ordered = wider.1 }
