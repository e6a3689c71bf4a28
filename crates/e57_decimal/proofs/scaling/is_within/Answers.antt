use Rattle.std.proofs.Common.{◌≡◌, ◌+◌, ◌*◌, leb, ap, ◌∙◌}
use Rattle.std.specs.Prelude.{unsigned_abs}
use Rattle.std.proofs.lemmas.Int.{to_z-of_z}
use mir.Syntax.{w128}
use Rattle.e57_decimal.specs.Fractions.{limit}
use Rattle.e57_decimal.proofs.scaling.is_within.Goals as goal

pub returns : goal.returns
returns c =
    let factor : c.unsigned_abs.result ≡ unsigned_abs c.args.factor = c.unsigned_abs.ensures.value ∙ ap unsigned_abs (to_z-of_z w128 c.args.factor c.ranges.factor) in
    let summand : c.unsigned_abs-2.result ≡ unsigned_abs c.args.summand = c.unsigned_abs-2.ensures.value ∙ ap unsigned_abs (to_z-of_z w128 c.args.summand c.ranges.summand) in
    let product = c.in-Some.ensures.1 ∙ ap (λ n. n * c.unsigned_abs.result) c.from.ensures ∙ ap (λ n. c.args.reach * n) factor in
    ap (λ n. leb n limit) (c.in-Some-checked_add.ensures.1 ∙ ap (λ n. n + c.unsigned_abs-2.result) product ∙ ap (λ n. c.args.reach * unsigned_abs c.args.factor + n) summand)
