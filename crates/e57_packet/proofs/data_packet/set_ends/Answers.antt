use Rattle.std.proofs.Common.{◌≡◌, ◌+◌, ◌*◌, ◌≤◌, ◌∙◌, ◌++◌, ◌∷◌, [], length, refl, sym, ap, arith, length-set}
use Rattle.std.specs.Prelude.{sum}
use Rattle.e57_bits.specs.Bits.{number}
use Rattle.e57_packet.specs.Reading.{stream_ends}
use Rattle.std.proofs.lemmas.List.{take_more_set}
use Rattle.e57_layout.specs.Packets.{lengths_at}
use Rattle.e57_packet.proofs.Lengths.{lengths-push, sum-lengths, sum-lengths-le, ends-push}
use Rattle.e57_packet.proofs.data_packet.set_ends.Goals as goal

pub loop-k-init : goal.loop-k-init
unfolding lengths_at
loop-k-init c = record { long = refl; end = omega arith; done = refl }

pub overflow_add-end-in-loop-k : goal.overflow_add-end-in-loop-k
overflow_add-end-in-loop-k c =
    let small : sum (lengths_at c.args.packet.now 6 c.loop-k.k) ≤ 65535 * c.loop-k.k = sum-lengths-le c.args.packet.now 6 c.loop-k.k in
    let end = c.loop-k.invariant.end in
    omega arith

pub loop-k-preserved : goal.loop-k-preserved
loop-k-preserved c =
    let kept = c.loop-k.invariant in
    let b = c.args.packet.now in
    let k = c.loop-k.k in
    let begin = 6 + 2 * length c.args.ends.now in
    let more = sum-lengths b 6 k in
    let here = c.loop-k-test.true in
    let value : c.loop-k.end + c.u16_at.result ≡ begin + sum (lengths_at b 6 k) + number b (8 * (6 + 2 * k)) 16 = rw (kept.end, c.u16_at.ensures) refl in
    let next : stream_ends begin (lengths_at b 6 (k + 1)) ≡ stream_ends begin (lengths_at b 6 k) ++ (begin + sum (lengths_at b 6 k) + number b (8 * (6 + 2 * k)) 16) ∷ [] = ap (λ ns. stream_ends begin ns) (lengths-push b 6 k) ∙ ends-push begin (number b (8 * (6 + 2 * k)) 16) (lengths_at b 6 k) in
    record {
      long = length-set c.loop-k.ends k (c.loop-k.end + c.u16_at.result) ∙ kept.long;
      end = rw more (omega (arith, value));
      done = take_more_set c.loop-k.ends k (c.loop-k.end + c.u16_at.result) (omega (arith, here, kept.long)) ∙ rw (kept.done, value) (sym next);
    }
