-- Powers of ten.
use Rattle.std.proofs.Common.{◌≡◌, ℕ, ◌+◌, ◌*◌, ◌/◌, ◌%◌, ◌^◌, ◌<◌, ◌≤◌, ap, ◌∙◌, add-one, arith, lit≤, lit<}
use Rattle.std.proofs.Math.Nat.{pow-le-pow_right, one-le-pow, pow-suc, mul_assoc, mul-add-mod_self_right, mod-eq_of_lt, mul-div_cancel}

pub pow-pos : (k : ℕ) → 0 < 10 ^ k
pow-pos k = one-le-pow k 10 (omega arith)

pub pow-le : (j k : ℕ) → j ≤ k → 10 ^ j ≤ 10 ^ k
pow-le j k h = pow-le-pow_right (omega arith) h

-- from 10 ^ 39 on a power has no room in 128 bits
pub pow_wide : (k : ℕ) → 38 < k → 2 ^ 128 ≤ 10 ^ k
pow_wide k h = let l : 10 ^ 39 ≤ 10 ^ k = pow-le 39 k (omega arith) in let wide : 2 ^ 128 ≤ 10 ^ 39 = lit≤ tt in omega arith

-- one digit more
pub below_more : (n d k : ℕ) → n < 10 ^ k → d < 10 → n * 10 + d < 10 ^ (k + 1)
below_more n d k h small = let e : 10 ^ (k + 1) ≡ 10 ^ k * 10 = ap (λ j. 10 ^ j) (add-one k) ∙ pow-suc 10 k in omega arith

pub pow-next : (k : ℕ) → 10 ^ (k + 1) ≡ 10 ^ k * 10
pow-next k = ap (λ j. 10 ^ j) (add-one k) ∙ pow-suc 10 k

-- a number of the form m * 10 ^ (z + 1) + d ends in d
pub last_digit : (m z d : ℕ) → d < 10 → (m * 10 ^ (z + 1) + d) % 10 ≡ d
last_digit m z d h =
    let e : m * 10 ^ (z + 1) + d ≡ m * 10 ^ z * 10 + d = omega (arith, ap (λ p. m * p) (pow-next z), mul_assoc m (10 ^ z) 10) in
    ap (λ n. n % 10) e ∙ mul-add-mod_self_right (m * 10 ^ z) 10 d ∙ mod-eq_of_lt h

-- one power less
pub pow-less : (p left k : ℕ) → left ≡ k + 1 → p ≡ 10 ^ left → p / 10 ≡ 10 ^ k
pow-less p left k l e = ap (λ n. n / 10) (e ∙ ap (λ j. 10 ^ j) l ∙ pow-next k) ∙ mul-div_cancel (10 ^ k) (omega arith)

pub pow-short : (k : ℕ) → k ≤ 19 → 10 ^ k < 2 ^ 64
pow-short k h = let l : 10 ^ k ≤ 10 ^ 19 = pow-le k 19 h in let room : 10 ^ 19 < 2 ^ 64 = lit< tt in omega arith
