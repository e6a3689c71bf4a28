use Rattle.std.proofs.Common.{◌+◌, ◌*◌, ◌/◌, ◌%◌, ◌^◌, refl, sym, ◌∙◌, arith}
use Rattle.std.proofs.Math.Nat.{mod-one}
use Rattle.e57_bits.proofs.BitLaws.{number-zero}
use Rattle.e57_lanes.proofs.Packs.{bit_more, bit_value, same-join, same_at}
use Rattle.e57_lanes.proofs.packing.pack_bits.Goals as goal

pub loop-j-init : goal.loop-j-init
loop-j-init c = record { put = number-zero c.args.out.now (8 * c.args.at + c.args.shift) ∙ sym (mod-one c.args.whole); others = λ t h. refl }

pub loop-j-preserved : goal.loop-j-preserved
loop-j-preserved c =
    let t = 8 * c.args.at + c.args.shift in
    let m = 8 * (c.args.at + (c.args.shift + c.loop-j.j) / 8) + (c.args.shift + c.loop-j.j) % 8 in
    record {
      put = bit_more c.loop-j.out c.put_bit.new.out t c.loop-j.j m c.args.whole _ c.loop-j.invariant.put c.put_bit.ensures.others c.put_bit.ensures.bit
          (bit_value (c.args.whole / 2 ^ c.loop-j.j)) (omega arith);
      others = same-join c.args.out.now c.loop-j.out c.put_bit.new.out t (t + c.loop-j.j) (t + (c.loop-j.j + 1)) c.loop-j.invariant.others
          (same_at c.loop-j.out c.put_bit.new.out m (m + 1) (t + c.loop-j.j) (t + (c.loop-j.j + 1)) c.put_bit.ensures.others (omega arith) (omega arith)) (omega arith) (omega arith);
    }
