use Rattle.std.proofs.Common.{◌≡◌, ℕ, ◌*◌, ◌^◌, ◌<◌, ◌≤◌, ℤ, pos, ◌*ℤ◌, refl, sym, ap, subst, ◌∙◌, arith, rules, to_z, of_z}
use Rattle.std.specs.Prelude.{unsigned_abs}
use Rattle.std.proofs.lemmas.Int.{to_z-of_z, unsigned_abs-mul}
use Rattle.std.proofs.Math.Nat.{zero-mul, mul-le-mul_left}
use mir.Syntax.{w128}
use mir.Val.{SFits}
use lib.Signed.{lt_z}
use Rattle.e57_decimal.specs.Fractions.{limit, signed}
use Rattle.e57_decimal.proofs.Signs.{of_z-zero, abs-some, signed-sign}
use Rattle.e57_decimal.proofs.scaling.raised.Goals as goal

-- 0 stays 0
of_zero : (z : ℤ) (p : ℕ) → z ≡ pos 0 → (unsigned_abs (z *ℤ pos p) ≤ limit) × (pos 0 ≡ z *ℤ pos p)
of_zero z p e = let P : ℤ → Type 0 = λ w. (unsigned_abs (w *ℤ pos p) ≤ limit) × (pos 0 ≡ w *ℤ pos p) in subst P (sym e) (let none = zero-mul p in (omega arith, ap pos (sym none)))

-- a product past the limit
too_large : (z : ℤ) (p n : ℕ) → n ≡ unsigned_abs z * p → limit < n → unsigned_abs (z *ℤ pos p) ≤ limit → ⊥
too_large z p n e above within = let size = unsigned_abs-mul z (pos p) in absurd (omega arith)

pub returns-then-whole-eq0 : goal.returns-then-whole-eq0
returns-then-whole-eq0 c = of_zero c.args.whole (10 ^ c.args.k) (of_z-zero c.args.whole c.ranges.whole c.if-whole-eq0.true)

pub returns-in_err-power : goal.returns-in_err-power
returns-in_err-power c =
    let same : c.from.result ≡ c.args.k = c.from.ensures in
    let wide : 10 ^ c.args.k < 2 ^ 128 → ⊥ = λ h. c.in_err-power.ensures (rw same h) in
    let some = abs-some c.args.whole (λ e. c.if-whole-eq0.false (ap (of_z w128) e)) in
    let more : 10 ^ c.args.k * 1 ≤ 10 ^ c.args.k * unsigned_abs c.args.whole = mul-le-mul_left (10 ^ c.args.k) some in
    rw c.from_residual.ensures (too_large c.args.whole (10 ^ c.args.k) (unsigned_abs c.args.whole * 10 ^ c.args.k) refl (omega arith))

pub returns-in_err-magnitude : goal.returns-in_err-magnitude
returns-in_err-magnitude c =
    let power : c.in_ok-power.power ≡ 10 ^ c.args.k = c.in_ok-power.ensures.1 ∙ ap (λ k. 10 ^ k) c.from.ensures in
    let size : c.unsigned_abs.result ≡ unsigned_abs c.args.whole = c.unsigned_abs.ensures.value ∙ ap unsigned_abs (to_z-of_z w128 c.args.whole c.ranges.whole) in
    let product : c.unsigned_abs.result * c.in_ok-power.power ≡ unsigned_abs c.args.whole * 10 ^ c.args.k = ap (λ n. n * c.in_ok-power.power) size ∙ ap (λ n. unsigned_abs c.args.whole * n) power in
    let none = c.in_err-magnitude.ensures in
    rw c.from_residual-in_err-magnitude.ensures (too_large c.args.whole (10 ^ c.args.k) (c.unsigned_abs.result * c.in_ok-power.power) product (omega arith))

pub returns-then-magnitude-gt-LIMIT : goal.returns-then-magnitude-gt-LIMIT
returns-then-magnitude-gt-LIMIT c =
    let power : c.in_ok-power.power ≡ 10 ^ c.args.k = c.in_ok-power.ensures.1 ∙ ap (λ k. 10 ^ k) c.from.ensures in
    let size : c.unsigned_abs.result ≡ unsigned_abs c.args.whole = c.unsigned_abs.ensures.value ∙ ap unsigned_abs (to_z-of_z w128 c.args.whole c.ranges.whole) in
    let product = c.in_ok-magnitude.ensures.1 ∙ ap (λ n. n * c.in_ok-power.power) size ∙ ap (λ n. unsigned_abs c.args.whole * n) power in
    too_large c.args.whole (10 ^ c.args.k) c.in_ok-magnitude.magnitude product c.if-magnitude-gt-LIMIT.true

pub returns : goal.returns
returns c =
    let same : to_z w128 (of_z w128 c.args.whole) ≡ c.args.whole = to_z-of_z w128 c.args.whole c.ranges.whole in
    let power : c.in_ok-power.power ≡ 10 ^ c.args.k = c.in_ok-power.ensures.1 ∙ ap (λ k. 10 ^ k) c.from.ensures in
    let size : c.unsigned_abs.result ≡ unsigned_abs c.args.whole = c.unsigned_abs.ensures.value ∙ ap unsigned_abs same in
    let product : c.in_ok-magnitude.magnitude ≡ unsigned_abs c.args.whole * 10 ^ c.args.k = c.in_ok-magnitude.ensures.1 ∙ ap (λ n. n * c.in_ok-power.power) size ∙ ap (λ n. unsigned_abs c.args.whole * n) power in
    let magnitude = unsigned_abs-mul c.args.whole (pos (10 ^ c.args.k)) in
    let within = c.if-magnitude-gt-LIMIT.false in
    let fits : SFits w128 c.signed.result = search rules in
    let whole = to_z-of_z w128 c.signed.result fits ∙ c.signed.ensures ∙ ap (signed (lt_z (to_z w128 (of_z w128 c.args.whole)) (pos 0))) product
    ∙ ap (λ z. signed (lt_z z (pos 0)) (unsigned_abs c.args.whole * 10 ^ c.args.k)) same ∙ signed-sign c.args.whole (10 ^ c.args.k) in
    (omega arith, whole)
