use Rattle.std.proofs.Common.{arith}
use Rattle.std.proofs.lemmas.Grind.{common_steps}
use Rattle.e57_trial.proofs.Tags.{tags_more}
use Rattle.e57_trial.proofs.items.tag_ends.Goals as goal

pub loop-k-preserved : goal.loop-k-preserved
loop-k-preserved c =
    let inv = c.loop-k.invariant in
    let next = tags_more c.args.first c.loop-k.k in
    let end = inv.1 in
    let few = inv.2 in
    (grind (arith, common_steps), omega (arith, next, end), omega (arith, few), λ j below. grind (arith, common_steps, next, end, inv.3 j))
