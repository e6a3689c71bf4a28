-- The digits before the point.
use Rattle.std.proofs.Common.{◌≡◌, ℕ, zero, suc, ◌+◌, ◌*◌, ◌/◌, ◌%◌, ◌^◌, ◌<◌, ◌≤◌, List, [], ◌∷◌, ◌++◌, length, replicate, refl, sym, ap, ◌∙◌, add-one, arith, lit≤, decimal, append_assoc}
use Rattle.std.proofs.lemmas.Bool.{lt-ltb, le-ltb}
use Rattle.std.proofs.lemmas.Fmt.{decimal_from_appends_wide, length-decimal-le_wide}
use Rattle.std.proofs.lemmas.List.{append-nil, replicate_more}
use Rattle.std.proofs.Math.Nat.{add-zero, mul-one, mul-div_cancel, mul-mod_left, mul_assoc, pow-suc, mul-pos}
use Rattle.e57_decimal.specs.Writing.{whole_digits}
use Rattle.e57_decimal.proofs.Tens.{pow-pos}

pub one_digit : (k n : ℕ) → n < 10 → whole_digits (suc k) n ≡ (48 + n) ∷ []
unfolding whole_digits
one_digit k n h = rw (lt-ltb n 10 h) refl

pub more_digits : (k n : ℕ) → 10 ≤ n → whole_digits (suc k) n ≡ whole_digits k (n / 10) ++ ((48 + n % 10) ∷ [])
unfolding whole_digits
more_digits k n h = rw (le-ltb n 10 h) refl

pub whole_decimal : (k n : ℕ) → n < 10 ^ 64 → length (decimal n) ≤ k → whole_digits k n ≡ decimal n
whole_decimal k n low short = decimal_from_appends_wide whole_digits (record { one = one_digit; more = more_digits }) k n low short

pub decimal_short : (n : ℕ) → n < 2 ^ 128 → length (decimal n) ≤ 39
decimal_short n h =
    let room : 2 ^ 128 ≤ 10 ^ 39 = lit≤ tt in
    let wide : 10 ^ 39 ≤ 10 ^ 64 = lit≤ tt in
    length-decimal-le_wide 39 n (omega arith) (omega arith) (omega arith)

-- a number with zeros at its end
pub raised_digits : (k m z : ℕ) → 0 < m → whole_digits (k + z) (m * 10 ^ z) ≡ whole_digits k m ++ replicate z 48
raised_digits k m zero some = ap (λ j. whole_digits j (m * 10 ^ 0)) (add-zero k) ∙ ap (whole_digits k) (mul-one m) ∙ sym (append-nil (whole_digits k m))
raised_digits k m (suc z) some =
    let tens : m * 10 ^ suc z ≡ m * 10 ^ z * 10 = ap (λ p. m * p) (pow-suc 10 z) ∙ sym (mul_assoc m (10 ^ z) 10) in
    let more : 0 < m * 10 ^ z = mul-pos some (pow-pos z) in
    let fuel : k + suc z ≡ suc (k + z) = omega arith in
    let front : m * 10 ^ z * 10 / 10 ≡ m * 10 ^ z = mul-div_cancel (m * 10 ^ z) (omega arith) in
    let last : m * 10 ^ z * 10 % 10 ≡ 0 = mul-mod_left (m * 10 ^ z) 10 in
    ap (λ j. whole_digits j (m * 10 ^ suc z)) fuel ∙ ap (whole_digits (suc (k + z))) tens ∙ more_digits (k + z) (m * 10 ^ z * 10) (omega arith)
    ∙ ap (λ n. whole_digits (k + z) n ++ ((48 + m * 10 ^ z * 10 % 10) ∷ [])) front ∙ ap (λ d. whole_digits (k + z) (m * 10 ^ z) ++ ((48 + d) ∷ [])) last
    ∙ ap (λ (bs : List ℕ). bs ++ 48 ∷ []) (raised_digits k m z some) ∙ append_assoc (whole_digits k m) (replicate z 48) (48 ∷ [])
    ∙ ap (λ (bs : List ℕ). whole_digits k m ++ bs) (replicate_more z 48 ∙ ap (λ n. replicate n 48) (add-one z))
