-- Each value has one decimal.
use Rattle.std.proofs.Common.{◌≡◌, ℕ, zero, suc, ◌+◌, ◌*◌, ◌%◌, ◌^◌, ◌<◌, ◌≤◌, ◌≢◌, ℤ, refl, sym, ap, ◌∙◌, arith}
use Rattle.std.specs.Prelude.{unsigned_abs}
use Rattle.std.proofs.lemmas.Nat.{pow-add}
use Rattle.std.proofs.lemmas.Int.{ints}
use Rattle.std.proofs.Math.Nat.{mul_assoc, mul-mod_left, pow-suc, eq_of_mul-eq-mul_right, zero-mul, pos_of_ne-zero, mul-pos}
use Rattle.e57_decimal.specs.declared.values.Decimal.{Decimal}
use Rattle.e57_decimal.specs.Fractions.{Fraction, IsSame, IsDecimal, shift_limit, up_of, fraction_of}
use Rattle.e57_decimal.proofs.Tens.{pow-pos}
use Rattle.e57_decimal.proofs.Signs.{same_abs}

-- a number that ends in 0
ends : (b j : ℕ) → (b * 10 ^ suc j) % 10 ≡ 0
ends b j = ap (λ n. n % 10) (ap (λ p. b * p) (pow-suc 10 j) ∙ sym (mul_assoc b (10 ^ j) 10)) ∙ mul-mod_left (b * 10 ^ j) 10

-- a number has one form without a 0 at its end
pub same_tens : (a b i j : ℕ) → a % 10 ≢ 0 → b % 10 ≢ 0 → a * 10 ^ i ≡ b * 10 ^ j → (a ≡ b) × (i ≡ j)
same_tens a b zero zero ha hb e = (omega arith, refl)
same_tens a b zero (suc j) ha hb e = let f : a ≡ b * 10 ^ suc j = omega arith in absurd (ha (ap (λ n. n % 10) f ∙ ends b j))
same_tens a b (suc i) zero ha hb e = let f : b ≡ a * 10 ^ suc i = omega arith in absurd (hb (ap (λ n. n % 10) f ∙ ends a i))
same_tens a b (suc i) (suc j) ha hb e =
    let left = ap (λ p. a * p) (pow-suc 10 i) ∙ sym (mul_assoc a (10 ^ i) 10) in
    let right = ap (λ p. b * p) (pow-suc 10 j) ∙ sym (mul_assoc b (10 ^ j) 10) in
    let less = same_tens a b i j ha hb (eq_of_mul-eq-mul_right 10 (omega arith) (a * 10 ^ i) (b * 10 ^ j) (sym left ∙ e ∙ right)) in
    (less.0, ap suc less.1)

pub one_power : (m u k : ℕ) → m * (10 ^ u * 10 ^ k) ≡ m * 10 ^ (u + k)
one_power m u k = ap (λ p. m * p) (sym (pow-add 10 u k))

pub two_powers : (m z k : ℕ) → m * 10 ^ z * 10 ^ k ≡ m * 10 ^ (z + k)
two_powers m z k = mul_assoc m (10 ^ z) (10 ^ k) ∙ one_power m z k

zero_product : (w p : ℕ) → w ≡ 0 → w * p ≡ 0
zero_product w p e = ap (λ n. n * p) e ∙ zero-mul p

some_product : (m k : ℕ) → m % 10 ≢ 0 → m * 10 ^ k ≢ 0
some_product m k some e =
    let more : 0 < m = pos_of_ne-zero (λ z. some (ap (λ n. n % 10) z)) in
    let p : 0 < m * 10 ^ k = mul-pos more (pow-pos k) in
    absurd (omega arith)

-- the whole number and the shift of a decimal, from any form of its value
pub same_whole : (x : Fraction) (d : Decimal) (m z : ℕ) → unsigned_abs x.whole ≡ m * 10 ^ z → m % 10 ≢ 0 → IsDecimal d → IsSame x (fraction_of d) → (m ≡ unsigned_abs d.whole) × (z + (x.up + shift_limit) ≡ up_of d + x.down)
same_whole x d m z whole last kept same =
    let w = unsigned_abs d.whole in
    let left : unsigned_abs x.whole * (10 ^ x.up * 10 ^ shift_limit) ≡ m * 10 ^ (z + (x.up + shift_limit)) =
    one_power (unsigned_abs x.whole) x.up shift_limit ∙ ap (λ n. n * 10 ^ (x.up + shift_limit)) whole ∙ two_powers m z (x.up + shift_limit) in
    let both : m * 10 ^ (z + (x.up + shift_limit)) ≡ w * 10 ^ (up_of d + x.down) = sym left ∙ same_abs x (fraction_of d) same ∙ one_power w (up_of d) x.down in
    let some : w % 10 ≢ 0 = λ e. some_product m (z + (x.up + shift_limit)) last (both ∙ zero_product w (10 ^ (up_of d + x.down)) (ap unsigned_abs (kept.tens e))) in
    same_tens m w (z + (x.up + shift_limit)) (up_of d + x.down) last some both

pub up_of-le : (d : Decimal) → IsDecimal d → up_of d ≤ 120
up_of-le d kept = let low = kept.low in let high = kept.high in omega (arith, ints)

abbrev pub fraction : ℤ → ℕ → ℕ → Fraction
fraction whole up down = record { whole = whole; up = up; down = down }

abbrev pub decimal : ℤ → ℤ → Decimal
decimal whole shift = record { whole = whole; shift = shift }
