-- Numbers that digits write.
use Rattle.std.proofs.Common.{◌≡◌, ℕ, suc, zero, ◌+◌, ◌*◌, ◌^◌, ◌<◌, ◌≤◌, ◌&&◌, ◌||◌, Bool, true, false, List, [], ◌∷◌, length, refl, sym, ap, ◌∙◌, arith, add-one, pow-suc, mul_comm, mul_assoc, lt_of_lt_of_le, lit<}
use Rattle.std.specs.Char.{digit_value}
use Rattle.std.specs.List.{list_all}
use Rattle.std.proofs.Math.Nat.{mul-le-mul_left, mul-le-mul_right, pow-le-pow_right}
use Rattle.std.proofs.lemmas.Bool.{and_parts}
use Rattle.std.proofs.lemmas.Bool.Decides.{nat_tests}
use Rattle.e57_pieces.specs.Words.{numeral_from, is_hexadecimal}

-- one more digit of at most 20
pub numeral_fits : (base n d i : ℕ) → base ≤ 16 → d ≤ 36 → i < 20 → n < 64 ^ i → (n * base + d < 64 ^ (i + 1)) × (n * base + d < 2 ^ 120)
numeral_fits base n d i low small few below =
    let product : n * base ≤ n * 16 = mul-le-mul_left n low in
    let next : 64 ^ (i + 1) ≡ 64 * 64 ^ i = rw (add-one, pow-suc) (mul_comm (64 ^ i) 64) in
    let within : i + 1 ≤ 20 = omega arith in
    let most : 64 ^ (i + 1) ≤ 64 ^ 20 = pow-le-pow_right {n = 64} (lit< tt) {i = i + 1} {j = 20} within in
    (omega (arith, product, next), omega (arith, product, next, most))

pub numeral_small : (n i : ℕ) → i ≤ 20 → n < 64 ^ i → n < 2 ^ 120
numeral_small n i few below =
    let most : 64 ^ i ≤ 64 ^ 20 = pow-le-pow_right {n = 64} (lit< tt) {i = i} {j = 20} few in
    omega (arith, most)

-- ---- hexadecimal digits

by_ranges : (b : ℕ) → is_hexadecimal b ≡ true → digit_value b < 16
unfolding is_hexadecimal
by_ranges b is = grind (arith, nat_tests)

hexadecimal_from : (n : ℕ) (ds : List ℕ) → list_all is_hexadecimal ds ≡ true → numeral_from 16 n ds < (n + 1) * 16 ^ length ds
unfolding numeral_from
hexadecimal_from n [] are = omega arith
hexadecimal_from n (d ∷ ds) are =
    let parts = and_parts (is_hexadecimal d) (list_all is_hexadecimal ds) are in
    let small = by_ranges d parts.0 in
    let rest = hexadecimal_from (n * 16 + digit_value d) ds parts.1 in
    let wide : (n * 16 + digit_value d + 1) * 16 ^ length ds ≤ ((n + 1) * 16) * 16 ^ length ds = mul-le-mul_right (16 ^ length ds) (omega (arith, small)) in
    let power : 16 ^ suc (length ds) ≡ 16 * 16 ^ length ds = rw pow-suc (mul_comm (16 ^ length ds) 16) in
    let next : ((n + 1) * 16) * 16 ^ length ds ≡ (n + 1) * 16 ^ suc (length ds) = mul_assoc (n + 1) 16 (16 ^ length ds) ∙ ap (λ p. (n + 1) * p) (sym power) in
    lt_of_lt_of_le rest (rw (← next) wide)

-- a number of so many digits
pub hexadecimal_small : (ds : List ℕ) → list_all is_hexadecimal ds ≡ true → numeral_from 16 0 ds < 16 ^ length ds
hexadecimal_small ds are = let most = hexadecimal_from 0 ds are in omega (arith, most)
