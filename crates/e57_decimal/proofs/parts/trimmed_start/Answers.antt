use Rattle.std.proofs.Common.{length, ◌∙◌, arith, sym, rules}
use Rattle.e57_decimal.specs.Reading.{is_space}
use Rattle.e57_decimal.proofs.Fronts.{run_to}
use Rattle.e57_decimal.proofs.parts.trimmed_start.Goals as goal

pub returns-then-not-is_space : goal.returns-then-not-is_space
returns-then-not-is_space c = c.split_at.ensures.back ∙ sym (run_to is_space c.args.text.now c.loop-i.i (omega arith) c.loop-i.invariant (λ lt. search rules)).1

pub returns : goal.returns
returns c = c.split_at-2.ensures.back ∙ sym (run_to is_space c.args.text.now (length c.args.text.now) (omega arith) (λ k lt. c.loop-i.invariant k (omega arith)) (λ lt. absurd (omega arith))).1
