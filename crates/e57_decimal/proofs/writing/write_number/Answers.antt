use Rattle.std.proofs.Common.{◌≡◌, ℕ, ◌*◌, ◌^◌, List, ◌++◌, ◌-◌, ℤ, ap, ◌∙◌, arith}
use Rattle.std.specs.Prelude.{unsigned_abs}
use Rattle.std.proofs.lemmas.Int.{to_z-of_z}
use mir.Syntax.{w128}
use Rattle.e57_decimal.specs.Writing.{magnitude_text, sign_text}
use Rattle.e57_decimal.proofs.Denominators.{lowered_shift, raised_shift}
use Rattle.e57_decimal.proofs.writing.write_number.Goals as goal

-- the text is a sign and a magnitude
by_pieces : (text sign piece : List ℕ) (number : ℤ) (n up : ℕ) → sign ≡ sign_text number → n ≡ unsigned_abs number → text ≡ sign ++ piece → piece ≡ magnitude_text (n * 10 ^ up) 60 → text ≡ sign_text number ++ magnitude_text (unsigned_abs number * 10 ^ up) 60
by_pieces text sign piece number n up s e t p =
    t ∙ ap (λ (bs : List ℕ). bs ++ piece) s ∙ ap (λ (bs : List ℕ). sign_text number ++ bs) (p ∙ ap (λ k. magnitude_text (k * 10 ^ up) 60) e)

pub returns-then-up-lt-SHIFT_LIMIT : goal.returns-then-up-lt-SHIFT_LIMIT
returns-then-up-lt-SHIFT_LIMIT c =
    let magnitude = c.unsigned_abs-magnitude.ensures.value ∙ ap unsigned_abs (to_z-of_z w128 c.args.number c.ranges.number) in
    by_pieces _ _ _ c.args.number c.unsigned_abs-magnitude.result c.args.up (c.write_sign.ensures.sign ∙ ap sign_text (to_z-of_z w128 c.args.number c.ranges.number)) magnitude c.put_lowered.ensures
    (lowered_shift c.unsigned_abs-magnitude.result c.args.up (60 - c.args.up) (omega arith))

pub returns-else-up-lt-SHIFT_LIMIT : goal.returns-else-up-lt-SHIFT_LIMIT
returns-else-up-lt-SHIFT_LIMIT c =
    let magnitude = c.unsigned_abs-magnitude.ensures.value ∙ ap unsigned_abs (to_z-of_z w128 c.args.number c.ranges.number) in
    by_pieces _ _ _ c.args.number c.unsigned_abs-magnitude.result c.args.up (c.write_sign.ensures.sign ∙ ap sign_text (to_z-of_z w128 c.args.number c.ranges.number)) magnitude c.put_raised.ensures
    (raised_shift c.unsigned_abs-magnitude.result c.args.up (c.args.up - 60) (omega arith))
