use Rattle.std.proofs.Common.{◌≡◌, ◌-◌, suc, ◌∙◌, sym, ap, reverse, take, arith}
use Rattle.e57_decimal.specs.Reading.{is_space, after}
use Rattle.e57_decimal.proofs.Fronts.{back_more, back_stop, back_all}
use Rattle.e57_decimal.proofs.parts.trimmed_end.Goals as goal

pub returns-then-not-is_space : goal.returns-then-not-is_space
returns-then-not-is_space c =
    let last : c.loop-end.end ≡ suc (c.loop-end.end - 1) = omega arith in
    c.split_at.ensures.front ∙ sym (back_stop is_space c.args.text.now c.loop-end.end (c.loop-end.end - 1) last c.loop-end.invariant.within (sym c.if-not-is_space.ensures))
    ∙ ap reverse c.loop-end.invariant.same

pub loop-end-preserved : goal.loop-end-preserved
loop-end-preserved c =
    let last : c.loop-end.end ≡ suc (c.loop-end.end - 1) = omega arith in
    let within = c.loop-end.invariant.within in
    record {
      within = omega arith;
      same = back_more is_space c.args.text.now c.loop-end.end (c.loop-end.end - 1) last within (sym c.if-not-is_space.ensures) ∙ c.loop-end.invariant.same;
    }

pub returns : goal.returns
returns c =
    let none : c.loop-end.end ≡ 0 = omega arith in
    c.split_at-2.ensures.front ∙ sym (back_all is_space c.args.text.now)
    ∙ ap (λ k. reverse (after is_space (reverse (take k c.args.text.now)))) (sym none) ∙ ap reverse c.loop-end.invariant.same
