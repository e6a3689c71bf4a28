use Rattle.std.proofs.Common.{◌&&◌, ℕ, ℤ, pos, Bool, false, get_or, ap, ◌∙◌, arith, rules, w64, to_z, of_z}
use Rattle.std.proofs.lemmas.Int.{to_z-of_z}
use Rattle.std.proofs.lemmas.List.{length-set}
use Rattle.e57_layout.specs.Values.{whole}
use Rattle.e57_plain.specs.Kept.{is_between}
use Rattle.e57_filter.proofs.Marks.{set_later, set_more}
use Rattle.e57_filter.proofs.mark.mark_items.Goals as goal

pub loop-k-preserved : goal.loop-k-preserved
loop-k-preserved c =
    let inv = c.loop-k.invariant in
    let low = to_z w64 (of_z w64 c.args.low) in
    let high = to_z w64 (of_z w64 c.args.high) in
    let here = get_or c.loop-k.flags c.loop-k.k false && c.is_inside.result in
    record {
      long = length-set c.loop-k.flags c.loop-k.k here ∙ inv.long;
      marks = set_more (λ (t : ℕ). get_or c.args.flags.now t false && is_between low high (whole (get_or c.args.items.now t (pos 0)))) c.loop-k.flags c.loop-k.k here
          (let below = c.loop-k-test.true in let long = inv.long in let same = c.requires.long in omega (arith, below, long, same)) inv.marks
          (ap (λ (b : Bool). b && c.is_inside.result) (inv.still c.loop-k.k (omega arith)) ∙ ap (λ (b : Bool). get_or c.args.flags.now c.loop-k.k false && b) (c.is_inside.ensures ∙ ap (λ (z : ℤ). is_between low high (whole z)) (to_z-of_z w64 (get_or c.args.items.now c.loop-k.k (pos 0)) (search rules))));
      still = λ t after. set_later c.loop-k.flags c.loop-k.k here t after ∙ inv.still t (omega (arith, after));
    }
