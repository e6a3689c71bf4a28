use Rattle.std.proofs.Common.{◌≡◌, ℕ, ◌+◌, ◌*◌, ◌-◌, ◌^◌, ◌<◌, get_or, drop, sym, ap, ◌∙◌, arith}
use Rattle.e57_decimal.specs.Reading.{number_after}
use Rattle.e57_decimal.proofs.Fronts.{digit_at, number_more, number_end}
use Rattle.e57_decimal.proofs.Tens.{below_more, pow-le}
use Rattle.e57_decimal.proofs.parts.number.Goals as goal

pub overflow_sub-b : goal.overflow_sub-b
overflow_sub-b c = (digit_at c.args.digits.now c.loop-b.b-index c.requires.each c.loop-b-test.true).0

pub loop-b-preserved : goal.loop-b-preserved
loop-b-preserved c =
    let i = c.loop-b.b-index in
    let b = get_or c.args.digits.now i 0 in
    let within = digit_at c.args.digits.now i c.requires.each c.loop-b-test.true in
    let digit : c.from.result ≡ b - 48 = c.from.ensures in
    record {
      small = below_more c.loop-b.number c.from.result i c.loop-b.invariant.small (omega arith);
      rest = ap (λ d. number_after (c.loop-b.number * 10 + d) (drop (i + 1) c.args.digits.now)) digit ∙ number_more c.loop-b.number c.args.digits.now i c.loop-b-test.true ∙ c.loop-b.invariant.rest;
    }

pub returns : goal.returns
returns c = sym (number_end c.loop-b.number c.args.digits.now c.loop-b.b-index c.loop-b-test.false) ∙ c.loop-b.invariant.rest

-- one digit more leaves at most nine of them
has_room : (n i : ℕ) → n < 10 ^ i → i < 9 → n * 10 + 9 < 2 ^ 32
has_room n i low few = let l = pow-le i 8 (omega arith) in omega arith

pub overflow_mul-number : goal.overflow_mul-number
overflow_mul-number c =
    let few = c.requires.few in
    let test = c.loop-b-test.true in
    let room = has_room c.loop-b.number c.loop-b.b-index c.loop-b.invariant.small (omega arith) in
    record { fits = omega arith }

pub overflow_add-number : goal.overflow_add-number
overflow_add-number c =
    let few = c.requires.few in
    let test = c.loop-b-test.true in
    let within = digit_at c.args.digits.now c.loop-b.b-index c.requires.each c.loop-b-test.true in
    let digit = c.from.ensures in
    let room = has_room c.loop-b.number c.loop-b.b-index c.loop-b.invariant.small (omega arith) in
    record { fits = omega arith }
