use Rattle.std.proofs.Common.{◌≡◌, ◌+◌, ◌*◌, ◌/◌, ◌%◌, ℕ, arith, sym}
use Rattle.e57_bits.proofs.BitLaws.{number-byte}
use Rattle.e57_lanes.proofs.Fields.{field, same_eight, in_one}
use Rattle.e57_lanes.proofs.parts.eight_parts.Goals as goal

pub returns : goal.returns
returns c =
    let b = c.args.bytes.now in
    let at = c.args.at in
    let p = c.args.phase in
    let w = c.args.width in
    let small = λ (k : ℕ). (c.type_inv.bytes k).fits in
    let part = λ (j m : ℕ) (g : m ≡ p + j * w). in_one p w j m c.requires.phase.1 c.requires.width g in
    rw c.eight_shifts.ensures
    (same_eight
    (field b at (p % 8) w 8 _ _ (sym (number-byte b at (small at))) (part 0 _ (omega arith)) (omega arith) (omega arith))
    (field b (at + (p + w) / 8) ((p + w) % 8) w 8 _ _ (sym (number-byte b (at + (p + w) / 8) (small (at + (p + w) / 8)))) (part 1 _ (omega arith)) (omega arith) (omega arith))
    (field b (at + (p + 2 * w) / 8) ((p + 2 * w) % 8) w 8 _ _ (sym (number-byte b (at + (p + 2 * w) / 8) (small (at + (p + 2 * w) / 8)))) (part 2 _ (omega arith)) (omega arith) (omega arith))
    (field b (at + (p + 3 * w) / 8) ((p + 3 * w) % 8) w 8 _ _ (sym (number-byte b (at + (p + 3 * w) / 8) (small (at + (p + 3 * w) / 8)))) (part 3 _ (omega arith)) (omega arith) (omega arith))
    (field b (at + (p + 4 * w) / 8) ((p + 4 * w) % 8) w 8 _ _ (sym (number-byte b (at + (p + 4 * w) / 8) (small (at + (p + 4 * w) / 8)))) (part 4 _ (omega arith)) (omega arith) (omega arith))
    (field b (at + (p + 5 * w) / 8) ((p + 5 * w) % 8) w 8 _ _ (sym (number-byte b (at + (p + 5 * w) / 8) (small (at + (p + 5 * w) / 8)))) (part 5 _ (omega arith)) (omega arith) (omega arith))
    (field b (at + (p + 6 * w) / 8) ((p + 6 * w) % 8) w 8 _ _ (sym (number-byte b (at + (p + 6 * w) / 8) (small (at + (p + 6 * w) / 8)))) (part 6 _ (omega arith)) (omega arith) (omega arith))
    (field b (at + (p + 7 * w) / 8) ((p + 7 * w) % 8) w 8 _ _ (sym (number-byte b (at + (p + 7 * w) / 8) (small (at + (p + 7 * w) / 8)))) (part 7 _ (omega arith)) (omega arith) (omega arith)))
