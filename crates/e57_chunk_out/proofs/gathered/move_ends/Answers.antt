use Rattle.std.proofs.Common.{◌≡◌, ℕ, ◌+◌, ◌-◌, ap, ◌∙◌, arith, get_or, slice_set, length}
use Rattle.std.proofs.lemmas.List.{get_or_default}
use Rattle.std.proofs.lemmas.List.Edits.{map_over_more}
use Rattle.e57_chunk_out.proofs.gathered.move_ends.Goals as goal

turned : (x begin start : ℕ) → x - begin + start ≡ start + (x - begin)
turned x begin start = omega arith

pub loop-k-preserved : goal.loop-k-preserved
loop-k-preserved c =
    let begin = c.args.begin in
    let start = c.args.start in
    let x : ℕ = get_or c.loop-k.ends c.loop-k.k 0 in
    let same : length c.loop-k.ends ≡ length c.args.ends.now = c.loop-k.auto.ends in
    ap (slice_set c.loop-k.ends c.loop-k.k) (turned x begin start)
    ∙ map_over_more (λ e. start + (e - begin)) c.args.ends.now c.loop-k.ends c.loop-k.k x c.loop-k-test.true c.loop-k.invariant (get_or_default c.loop-k.ends c.loop-k.k 0 x (omega (arith, same, c.loop-k-test.true)))
