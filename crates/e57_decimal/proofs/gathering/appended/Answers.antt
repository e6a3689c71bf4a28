use Rattle.std.proofs.Common.{◌≡◌, ◌+◌, ◌*◌, ◌^◌, ◌<◌, ◌%◌, refl, ap, ◌∙◌, arith}
use Rattle.std.proofs.Math.Nat.{mul-one}
use Rattle.e57_decimal.proofs.Tens.{last_digit}
use Rattle.e57_decimal.proofs.Zeros.{one_more, too_long, too_long_power}
use Rattle.e57_decimal.proofs.gathering.appended.Goals as goal

pub returns-then-digit-eq0 : goal.returns-then-digit-eq0
returns-then-digit-eq0 c =
    let m = c.args.number.magnitude in
    let z = c.args.number.zeros in
    let e : m * 10 ^ (z + 1) ≡ m * 10 ^ z * 10 + c.args.digit = omega (arith, one_more m z 0) in
    (record { within = c.requires.kept.within; tens = c.requires.kept.tens; zero = λ n. absurd (omega arith) }, e, omega arith)

pub returns-in_err-power : goal.returns-in_err-power
returns-in_err-power c =
    let m = c.args.number.magnitude in
    let z = c.args.number.zeros in
    let same : c.from.result ≡ z = c.from.ensures in
    let wide : 10 ^ (z + 1) < 2 ^ 128 → ⊥ = λ h. c.in_err-power.ensures (rw same h) in
    rw c.from_residual.ensures (too_long_power m z c.args.digit c.requires.digit (λ e. absurd (omega arith)) c.requires.kept.zero wide)

pub returns-in_err-checked_mul : goal.returns-in_err-checked_mul
returns-in_err-checked_mul c =
    let m = c.args.number.magnitude in
    let z = c.args.number.zeros in
    let power : c.in_ok-power.power ≡ 10 ^ (z + 1) = c.in_ok-power.ensures.1 ∙ ap (λ k. 10 ^ (k + 1)) c.from.ensures in
    let product = ap (λ p. m * p) power in
    let none = c.in_err-checked_mul.ensures in
    rw c.from_residual-in_err-checked_mul.ensures (too_long m z c.args.digit c.requires.digit (λ e. absurd (omega arith)) (omega arith))

pub returns-in_err-magnitude : goal.returns-in_err-magnitude
returns-in_err-magnitude c =
    let m = c.args.number.magnitude in
    let z = c.args.number.zeros in
    let power : c.in_ok-power.power ≡ 10 ^ (z + 1) = c.in_ok-power.ensures.1 ∙ ap (λ k. 10 ^ (k + 1)) c.from.ensures in
    let product = c.in_ok-checked_mul.ensures.1 ∙ ap (λ p. m * p) power in
    let digit : c.from-2.result ≡ c.args.digit = c.from-2.ensures in
    let none = c.in_err-magnitude.ensures in
    rw c.from_residual-in_err-magnitude.ensures (too_long m z c.args.digit c.requires.digit (λ e. absurd (omega arith)) (omega arith))

pub returns-then-magnitude-gt-LIMIT : goal.returns-then-magnitude-gt-LIMIT
returns-then-magnitude-gt-LIMIT c =
    let m = c.args.number.magnitude in
    let z = c.args.number.zeros in
    let power : c.in_ok-power.power ≡ 10 ^ (z + 1) = c.in_ok-power.ensures.1 ∙ ap (λ k. 10 ^ (k + 1)) c.from.ensures in
    let product = c.in_ok-checked_mul.ensures.1 ∙ ap (λ p. m * p) power in
    let digit : c.from-2.result ≡ c.args.digit = c.from-2.ensures in
    let sum = c.in_ok-magnitude.ensures.1 in
    too_long m z c.args.digit c.requires.digit (λ e. absurd (omega arith)) (omega arith)

pub returns : goal.returns
returns c =
    let m = c.args.number.magnitude in
    let z = c.args.number.zeros in
    let power : c.in_ok-power.power ≡ 10 ^ (z + 1) = c.in_ok-power.ensures.1 ∙ ap (λ k. 10 ^ (k + 1)) c.from.ensures in
    let product = c.in_ok-checked_mul.ensures.1 ∙ ap (λ p. m * p) power in
    let digit : c.from-2.result ≡ c.args.digit = c.from-2.ensures in
    let sum : c.in_ok-magnitude.magnitude ≡ m * 10 ^ (z + 1) + c.args.digit = omega (arith, c.in_ok-magnitude.ensures.1, product, digit) in
    let last : c.in_ok-magnitude.magnitude % 10 ≡ c.args.digit = ap (λ n. n % 10) sum ∙ last_digit m z c.args.digit c.requires.digit in
    (record { within = omega arith; tens = λ e. absurd (omega arith); zero = λ e. refl }, mul-one c.in_ok-magnitude.magnitude ∙ sum ∙ one_more m z c.args.digit, omega arith)
