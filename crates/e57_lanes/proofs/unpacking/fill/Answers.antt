use Rattle.std.proofs.Common.{◌≡◌, ◌+◌, ◌*◌, sym, ap, ◌∙◌, arith, ℤ, pos, ◌+ℤ◌, w64, to_z, of_z}
use Rattle.std.proofs.lemmas.Int.{ints}
use Rattle.e57_bits.proofs.BitLaws.{number-zero}
use Rattle.e57_lanes.specs.Unpack.{stored}
use Rattle.e57_lanes.proofs.Items.{Written-more}
use Rattle.e57_lanes.proofs.unpacking.fill.Goals as goal

plus_zero : (z : ℤ) → z ≡ z +ℤ pos 0
plus_zero z = omega (arith, ints)

pub loop-k-preserved : goal.loop-k-preserved
loop-k-preserved c =
    let least = to_z w64 (of_z w64 c.args.min) in
    let none : stored c.args.bytes.now c.args.phase 0 c.loop-k.k ≡ 0 = number-zero c.args.bytes.now (c.args.phase + c.loop-k.k * 0) in
    Written-more c.args.bytes.now c.args.phase 0 least c.args.span 0 c.loop-k.k c.args.out.now c.loop-k.out _
    c.loop-k.invariant (omega arith) c.loop-k-test.true (rw none (omega arith))
    (plus_zero least ∙ ap (λ n. least +ℤ pos n) (sym none))
