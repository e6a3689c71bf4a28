use Rattle.std.proofs.Common.{◌≡◌, ℤ, sym, subst, ◌∙◌, rules, to_z, of_z}
use Rattle.std.proofs.lemmas.Int.{to_z-of_z}
use mir.Syntax.{w16, w128}
use Rattle.e57_decimal.specs.Fractions.{IsDecimal, IsSame, signed, fraction_of}
use Rattle.e57_decimal.proofs.Texts.{no_shift, is_decimal}
use Rattle.e57_decimal.proofs.Forms.{fraction, decimal}
use Rattle.e57_decimal.proofs.reading.decimal_of.Goals as goal

pub returns-in_err-shift : goal.returns-in_err-shift
returns-in_err-shift c =
    rw c.from_residual.ensures (λ d. no_shift c.args.negative c.args.magnitude c.args.up c.args.down d (λ e. c.if-magnitude-eq0.false (c.requires.tens e)) c.in_err-shift.ensures)

pub returns : goal.returns
returns c =
    let m = c.args.magnitude in
    let s = c.in_ok-shift.shift in
    let kept = c.in_ok-shift.ensures in
    let whole : to_z w128 (of_z w128 c.signed.result) ≡ signed c.args.negative m = to_z-of_z w128 c.signed.result (search rules) ∙ c.signed.ensures in
    let shift : to_z w16 (of_z w16 s) ≡ s = to_z-of_z w16 s (search rules) in
    let P : ℤ → ℤ → Type 0 = λ w t. IsDecimal (decimal w t) × IsSame (fraction (signed c.args.negative m) c.args.up c.args.down) (fraction_of (decimal w t)) in
    subst (λ w. P w (to_z w16 (of_z w16 s))) (sym whole) (subst (λ t. P (signed c.args.negative m) t) (sym shift)
    (is_decimal c.args.negative m c.args.up c.args.down s c.requires.within (λ e. c.if-magnitude-eq0.false (c.requires.tens e)) kept.0 kept.1 kept.2))
