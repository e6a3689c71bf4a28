use Rattle.std.proofs.Common.{◌≡◌, ℕ, ◌+◌, ◌-◌, ◌*◌, get_or, drop, sym, ap, subst, ◌∙◌, arith}
use Rattle.e57_decimal.specs.Reading.{is_digit, number_after}
use Rattle.e57_decimal.specs.Gathering.{IsTooLong, total}
use Rattle.e57_decimal.proofs.Fronts.{digit_at, number_more, number_end, each_drop}
use Rattle.e57_decimal.proofs.Zeros.{too_long_on}
use Rattle.e57_decimal.proofs.gathering.with_digits.Goals as goal

pub overflow_sub-b : goal.overflow_sub-b
overflow_sub-b c = (digit_at c.args.digits.now c.loop-b.b-index c.requires.each c.loop-b-test.true).0

pub appended-requires-clause-digit : goal.appended-requires-clause-digit
appended-requires-clause-digit c = let within = digit_at c.args.digits.now c.loop-b.b-index c.requires.each c.loop-b-test.true in omega arith

pub returns-in_err-number : goal.returns-in_err-number
returns-in_err-number c =
    let i = c.loop-b.b-index in
    let now = total c.loop-b.number * 10 + (get_or c.args.digits.now i 0 - 48) in
    let P : ℕ → Type 0 = λ n. IsTooLong n in
    let same : number_after now (drop (i + 1) c.args.digits.now) ≡ number_after (total c.args.number) c.args.digits.now =
    number_more (total c.loop-b.number) c.args.digits.now i c.loop-b-test.true ∙ c.loop-b.invariant.rest in
    rw c.from_residual.ensures (subst P same (too_long_on now (drop (i + 1) c.args.digits.now) (each_drop is_digit c.args.digits.now (i + 1) c.requires.each) c.in_err-number.ensures))

pub loop-b-preserved : goal.loop-b-preserved
loop-b-preserved c =
    let i = c.loop-b.b-index in
    let few = c.loop-b.invariant.few in
    let more = c.in_ok-number.ensures.2 in
    record {
      kept = c.in_ok-number.ensures.0;
      few = omega arith;
      rest = ap (λ n. number_after n (drop (i + 1) c.args.digits.now)) c.in_ok-number.ensures.1 ∙ number_more (total c.loop-b.number) c.args.digits.now i c.loop-b-test.true ∙ c.loop-b.invariant.rest;
    }

pub returns : goal.returns
returns c =
    let few = c.loop-b.invariant.few in
    (c.loop-b.invariant.kept, sym (number_end (total c.loop-b.number) c.args.digits.now c.loop-b.b-index c.loop-b-test.false) ∙ c.loop-b.invariant.rest, omega arith)
