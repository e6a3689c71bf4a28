use Rattle.std.proofs.Common.{◌+◌, ◌*◌, refl, sym, ◌∙◌, arith}
use Rattle.std.proofs.Math.Nat.{mod-one}
use Rattle.e57_bits.proofs.BitLaws.{number-zero}
use Rattle.e57_lanes.proofs.Packs.{byte_more, byte_same, same-join, same_at}
use Rattle.e57_lanes.proofs.packing.put_bytes.Goals as goal

pub loop-i-init : goal.loop-i-init
loop-i-init c = record { put = number-zero c.args.out.now (8 * c.args.at) ∙ sym (mod-one c.args.word); others = λ t h. refl }

pub loop-i-preserved : goal.loop-i-preserved
loop-i-preserved c =
    let i = c.loop-i.i in
    let at = c.args.at in
    record {
      put = byte_more c.loop-i.out at i c.args.word c.loop-i.invariant.put (omega arith);
      others = same-join c.args.out.now c.loop-i.out _ (8 * at) (8 * (at + i)) (8 * (at + (i + 1))) c.loop-i.invariant.others
          (same_at c.loop-i.out _ (8 * (at + i)) (8 * (at + i + 1)) (8 * (at + i)) (8 * (at + (i + 1))) (byte_same c.loop-i.out (at + i) _) refl (omega arith)) (omega arith) (omega arith);
    }
