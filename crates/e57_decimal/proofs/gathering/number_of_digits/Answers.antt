use Rattle.std.proofs.Common.{◌≡◌, ℕ, ◌+◌, ◌≤◌, ◌++◌, sym, ap, subst, ◌∙◌, length, Option, Some, None, arith}
use Rattle.e57_decimal.specs.declared.gathering.Gathered.{Gathered}
use Rattle.e57_decimal.specs.Reading.{number_after}
use Rattle.e57_decimal.specs.Gathering.{IsTooLong, Gathers, total}
use Rattle.e57_decimal.proofs.Fronts.{number-append}
use Rattle.e57_decimal.proofs.Zeros.{too_long_on}
use Rattle.e57_decimal.proofs.gathering.number_of_digits.Goals as goal

-- the answer for the same number, of at most as many zeros
of_number : (n m few most : ℕ) (r : Option Gathered) → n ≡ m → few ≤ most → Gathers n few r → Gathers m most r
of_number n m few most None e l h = let P : ℕ → Type 0 = λ k. IsTooLong k in subst P e h
of_number n m few most (Some more) e l h = let low = h.2 in (h.0, h.1 ∙ e, omega arith)

pub returns-in_err-with_digits : goal.returns-in_err-with_digits
returns-in_err-with_digits c =
    let P : ℕ → Type 0 = λ n. IsTooLong n in
    rw c.from_residual.ensures (subst P (sym (number-append 0 c.args.whole.now c.args.places.now)) (too_long_on (number_after 0 c.args.whole.now) c.args.places.now c.requires.places c.in_err-with_digits.ensures))

pub returns : goal.returns
returns c =
    let same : number_after (total c.in_ok-with_digits.field-0) c.args.places.now ≡ number_after 0 (c.args.whole.now ++ c.args.places.now) =
    ap (λ n. number_after n c.args.places.now) c.in_ok-with_digits.ensures.1 ∙ sym (number-append 0 c.args.whole.now c.args.places.now) in
    let few = c.in_ok-with_digits.ensures.2 in
    of_number _ _ (c.in_ok-with_digits.field-0.zeros + length c.args.places.now) (length c.args.whole.now + length c.args.places.now) c.with_digits-2.result same (omega arith) c.with_digits-2.ensures
