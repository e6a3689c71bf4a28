use Rattle.std.proofs.Common.{length, ◌∙◌, arith, sym, rules}
use Rattle.e57_decimal.specs.Reading.{is_digit}
use Rattle.e57_decimal.proofs.Fronts.{run_to}
use Rattle.e57_decimal.proofs.parts.split_digits.Goals as goal

pub returns-then-not-is_digit-clause-front : goal.returns-then-not-is_digit-clause-front
returns-then-not-is_digit-clause-front c = c.split_at.ensures.front ∙ sym (run_to is_digit c.args.text.now c.loop-i.i (omega arith) c.loop-i.invariant (λ lt. search rules)).0

pub returns-then-not-is_digit-clause-rest : goal.returns-then-not-is_digit-clause-rest
returns-then-not-is_digit-clause-rest c = c.split_at.ensures.back ∙ sym (run_to is_digit c.args.text.now c.loop-i.i (omega arith) c.loop-i.invariant (λ lt. search rules)).1

pub returns-clause-front : goal.returns-clause-front
returns-clause-front c = c.split_at-2.ensures.front ∙ sym (run_to is_digit c.args.text.now (length c.args.text.now) (omega arith) (λ k lt. c.loop-i.invariant k (omega arith)) (λ lt. absurd (omega arith))).0

pub returns-clause-rest : goal.returns-clause-rest
returns-clause-rest c = c.split_at-2.ensures.back ∙ sym (run_to is_digit c.args.text.now (length c.args.text.now) (omega arith) (λ k lt. c.loop-i.invariant k (omega arith)) (λ lt. absurd (omega arith))).1
