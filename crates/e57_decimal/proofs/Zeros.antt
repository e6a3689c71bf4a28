-- Digits behind a number whose last zeros are counted apart.
use Rattle.std.proofs.Common.{◌≡◌, ℕ, ◌+◌, ◌-◌, ◌*◌, ◌^◌, ◌<◌, ◌≤◌, ◌≢◌, inl, inr, List, [], ◌∷◌, Bool, true, false, ◌&&◌, refl, sym, ap, subst, ◌∙◌, arith}
use Rattle.std.specs.List.{list_all}
use Rattle.std.proofs.Math.Nat.{mul_assoc, eq-zero-or-pos, mul-le-mul_left, mul-one}
use Rattle.e57_decimal.specs.Fractions.{limit}
use Rattle.e57_decimal.specs.Reading.{is_digit, number_after}
use Rattle.e57_decimal.specs.Gathering.{IsTooLong}
use Rattle.e57_decimal.proofs.Fronts.{digit_within}
use Rattle.e57_decimal.proofs.Tens.{pow-pos, pow-next, last_digit}

pub one_more : (m z d : ℕ) → m * 10 ^ (z + 1) + d ≡ m * 10 ^ z * 10 + d
one_more m z d = omega (arith, ap (λ p. m * p) (pow-next z), mul_assoc m (10 ^ z) 10)

-- a last digit other than 0 makes the number too long
pub too_long : (m z d : ℕ) → d < 10 → d ≢ 0 → limit < m * 10 ^ (z + 1) + d → IsTooLong (m * 10 ^ z * 10 + d)
too_long m z d low some above = record {
  front = m * 10 ^ (z + 1) + d;
  zeros = 0;
  whole = sym (one_more m z d) ∙ sym (mul-one (m * 10 ^ (z + 1) + d));
  last = λ e. some (sym (last_digit m z d low) ∙ e);
  above = above;
}

-- so does a power without room
pub too_long_power : (m z d : ℕ) → d < 10 → d ≢ 0 → (m ≡ 0 → z ≡ 0) → (10 ^ (z + 1) < 2 ^ 128 → ⊥) → IsTooLong (m * 10 ^ z * 10 + d)
too_long_power m z d low some none wide =
    elim (eq-zero-or-pos m) [
      | inl e ↦ absurd (wide (let f : 10 ^ (z + 1) ≡ 10 = ap (λ k. 10 ^ (k + 1)) (none e) in omega arith))
      | inr more ↦
          let l : 10 ^ (z + 1) * 1 ≤ 10 ^ (z + 1) * m = mul-le-mul_left (10 ^ (z + 1)) more in
          too_long m z d low some (omega arith)
    ]

-- what is too long stays so with one digit more
too_long_more : (n d : ℕ) → d < 10 → IsTooLong n → IsTooLong (n * 10 + d)
too_long_more n d low h =
    elim (eq-zero-or-pos d) [
      | inl none ↦ record {
        front = h.front;
        zeros = h.zeros + 1;
        whole = let e : n * 10 + d ≡ h.front * 10 ^ h.zeros * 10 + 0 = omega (arith, h.whole) in e ∙ sym (one_more h.front h.zeros 0) ∙ (let z : h.front * 10 ^ (h.zeros + 1) + 0 ≡ h.front * 10 ^ (h.zeros + 1) = omega arith in z);
        last = h.last;
        above = h.above;
      }
      | inr some ↦
          let l : h.front * 1 ≤ h.front * 10 ^ (h.zeros + 1) = mul-le-mul_left h.front (pow-pos (h.zeros + 1)) in
          let e : h.front * 10 ^ h.zeros * 10 + d ≡ n * 10 + d = omega (arith, h.whole) in
          let above = h.above in
          let P : ℕ → Type 0 = λ k. IsTooLong k in
          subst P e (too_long h.front h.zeros d low (λ z. absurd (omega arith)) (omega arith))
    ]

and_left : (a b : Bool) → (a && b) ≡ true → a ≡ true
and_left true b e = refl
and_left false b e = e

and_right : (a b : Bool) → (a && b) ≡ true → b ≡ true
and_right true b e = e
and_right false b e = absurd (cc)

pub too_long_on : (n : ℕ) (bs : List ℕ) → list_all is_digit bs ≡ true → IsTooLong n → IsTooLong (number_after n bs)
unfolding number_after
too_long_on n [] each h = h
too_long_on n (b ∷ bs) each h =
    let within = digit_within b (and_left (is_digit b) (list_all is_digit bs) each) in
    too_long_on (n * 10 + (b - 48)) bs (and_right (is_digit b) (list_all is_digit bs) each) (too_long_more n (b - 48) (omega arith) h)
