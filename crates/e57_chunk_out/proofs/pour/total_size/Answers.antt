use Rattle.std.proofs.Common.{◌+◌, ℕ, List, length, ap, arith}
use Rattle.e57_chunk_out.specs.Cutting.{streams_of}
use Rattle.e57_chunk_out.proofs.Cuts.{total-more, total-take, stream-at, length-streams}
use Rattle.e57_chunk_out.proofs.pour.total_size.Goals as goal

pub overflow_add-size : goal.overflow_add-size
overflow_add-size c =
    let ss = streams_of c.args.fields.now in
    let size = ap (λ (xs : List ℕ). length xs) (stream-at c.args.fields.now c.loop-k.k c.index-fields-k.result c.stream.result.now c.loop-k-test.true c.index-fields-k.is c.stream.ensures) in
    let more = total-more ss c.loop-k.k (omega (arith, length-streams c.args.fields.now, c.loop-k-test.true)) in
    let most = total-take ss (c.loop-k.k + 1) in
    omega (arith, size, more, most, c.loop-k.invariant, c.requires.limit)

pub loop-k-preserved : goal.loop-k-preserved
loop-k-preserved c =
    let ss = streams_of c.args.fields.now in
    let size = ap (λ (xs : List ℕ). length xs) (stream-at c.args.fields.now c.loop-k.k c.index-fields-k.result c.stream.result.now c.loop-k-test.true c.index-fields-k.is c.stream.ensures) in
    let more = total-more ss c.loop-k.k (omega (arith, length-streams c.args.fields.now, c.loop-k-test.true)) in
    omega (arith, size, more, c.loop-k.invariant)
