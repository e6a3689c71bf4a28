use Rattle.std.proofs.Common.{Some, sym, ap, subst, ◌∙◌, rules, to_z, of_z, w64}
use Rattle.std.proofs.lemmas.Int.{to_z-of_z}
use Rattle.std.proofs.lemmas.Bool.{leb-true}
use mir.Syntax.{w128}
use Rattle.e57_decimal.specs.declared.scaling.Linear.TheInside.{Inside}
use Rattle.e57_decimal.specs.Holding.{IsLinear}
use Rattle.e57_decimal.specs.Scaling.{line_with}
use Rattle.e57_decimal.proofs.Lines.{no_factor, no_summand, no_room, some_line, room_is, same_held}
use Rattle.e57_decimal.proofs.scaling.Linear.new.Goals as goal

pub returns-in_err-factor-clause-linear : goal.returns-in_err-factor-clause-linear
returns-in_err-factor-clause-linear c = c.from_residual.ensures ∙ no_factor c.args.scale c.args.offset c.args.min c.args.max c.common_up-up.result c.common_up-up.ensures.up c.in_err-factor.ensures

pub returns-in_err-summand-clause-linear : goal.returns-in_err-summand-clause-linear
returns-in_err-summand-clause-linear c = c.from_residual-in_err-summand.ensures ∙ no_summand c.args.scale c.args.offset c.args.min c.args.max c.common_up-up.result c.common_up-up.ensures.up c.in_err-summand.ensures

pub returns-then-not-is_within-clause-linear : goal.returns-then-not-is_within-clause-linear
returns-then-not-is_within-clause-linear c =
    let low = to_z-of_z w64 c.args.min c.ranges.min in
    let high = to_z-of_z w64 c.args.max c.ranges.max in
    let factor = to_z-of_z w128 c.in_ok-factor.factor (search rules) in
    let summand = to_z-of_z w128 c.in_ok-summand.summand (search rules) in
    let room = room_is c.is_within.result c.reach_of.result c.args.min _ c.args.max _ c.in_ok-factor.factor _ c.in_ok-summand.summand _ low high factor summand c.reach_of.ensures c.is_within.ensures in
    no_room c.args.scale c.args.offset c.args.min c.args.max c.common_up-up.result c.in_ok-factor.factor c.in_ok-summand.summand c.common_up-up.ensures.up c.in_ok-factor.ensures.1 c.in_ok-summand.ensures.1 (sym room ∙ c.if-not-is_within.true)

pub invariant_of-result : goal.invariant_of-result
invariant_of-result c =
    let low = to_z-of_z w64 c.args.min c.ranges.min in
    let high = to_z-of_z w64 c.args.max c.ranges.max in
    let factor = to_z-of_z w128 c.in_ok-factor.factor (search rules) in
    let summand = to_z-of_z w128 c.in_ok-summand.summand (search rules) in
    let room = room_is c.is_within.result c.reach_of.result c.args.min _ c.args.max _ c.in_ok-factor.factor _ c.in_ok-summand.summand _ low high factor summand c.reach_of.ensures c.is_within.ensures in
    let P : Inside → Type 0 = λ l. IsLinear l in
    subst P (sym (same_held c.args.scale c.args.offset c.common_up-up.result c.args.min _ c.args.max _ c.in_ok-factor.factor _ c.in_ok-summand.summand _ low high factor summand))
    (record {
      scale_kept = c.requires.scale;
      offset_kept = c.requires.offset;
      common = c.common_up-up.ensures.up;
      high = c.common_up-up.ensures.high;
      factor = c.in_ok-factor.ensures.1;
      summand = c.in_ok-summand.ensures.1;
      within = leb-true _ _ (sym room ∙ c.if-not-is_within.false);
    })

pub returns-clause-linear : goal.returns-clause-linear
returns-clause-linear c =
    let low = to_z-of_z w64 c.args.min c.ranges.min in
    let high = to_z-of_z w64 c.args.max c.ranges.max in
    let factor = to_z-of_z w128 c.in_ok-factor.factor (search rules) in
    let summand = to_z-of_z w128 c.in_ok-summand.summand (search rules) in
    let room = room_is c.is_within.result c.reach_of.result c.args.min _ c.args.max _ c.in_ok-factor.factor _ c.in_ok-summand.summand _ low high factor summand c.reach_of.ensures c.is_within.ensures in
    ap (λ z. Some (line_with c.args.scale c.args.offset z (to_z w64 (of_z w64 c.args.max)))) low ∙ ap (λ z. Some (line_with c.args.scale c.args.offset c.args.min z)) high
    ∙ some_line c.args.scale c.args.offset c.args.min c.args.max c.common_up-up.result c.in_ok-factor.factor c.in_ok-summand.summand c.common_up-up.ensures.up c.in_ok-factor.ensures.1 c.in_ok-summand.ensures.1 c.in_ok-factor.ensures.0 c.in_ok-summand.ensures.0 (sym room ∙ c.if-not-is_within.false)

pub returns-clause-line : goal.returns-clause-line
returns-clause-line c =
    let low = to_z-of_z w64 c.args.min c.ranges.min in
    let high = to_z-of_z w64 c.args.max c.ranges.max in
    ap (λ z. line_with c.args.scale c.args.offset z (to_z w64 (of_z w64 c.args.max))) low ∙ ap (λ z. line_with c.args.scale c.args.offset c.args.min z) high
