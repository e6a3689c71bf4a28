-- The text of a number doesn't depend on the power of ten below it.
use Rattle.std.proofs.Common.{◌≡◌, ℕ, zero, suc, ◌+◌, ◌*◌, ◌/◌, ◌%◌, ◌^◌, ◌<◌, inl, inr, List, ◌∷◌, ◌++◌, sym, ap, ◌∙◌, add-suc, arith}
use Rattle.std.proofs.Math.Nat.{eq-zero-or-pos, pow-suc, mul-div-mul_right, mul-one, mul_assoc, add_comm, add-zero, zero-add}
use Rattle.e57_decimal.specs.Writing.{whole_digits, most_digits, point_text, magnitude_text}
use Rattle.e57_decimal.proofs.Tens.{pow-pos}
use Rattle.e57_decimal.proofs.Forms.{two_powers}
use Rattle.e57_decimal.proofs.Places.{point_none, point_some, places_tens, mod-tens, rest_below}

point_tens : (d r : ℕ) → r < 10 ^ d → point_text (suc d) (r * 10) ≡ point_text d r
point_tens d r low =
    elim (eq-zero-or-pos r) [
      | inl none ↦ point_none (suc d) (r * 10) (omega arith) ∙ sym (point_none d r none)
      | inr some ↦ point_some (suc d) (r * 10) (λ e. absurd (omega arith)) ∙ ap (λ (bs : List ℕ). 46 ∷ bs) (places_tens d r low) ∙ sym (point_some d r (λ e. absurd (omega arith)))
    ]

text_tens : (n d : ℕ) → magnitude_text (n * 10) (suc d) ≡ magnitude_text n d
unfolding magnitude_text
text_tens n d =
    let power : 10 ^ suc d ≡ 10 ^ d * 10 = pow-suc 10 d in
    let whole : n * 10 / 10 ^ suc d ≡ n / 10 ^ d = ap (λ p. n * 10 / p) power ∙ mul-div-mul_right n (10 ^ d) (omega arith) in
    let rest : n * 10 % 10 ^ suc d ≡ n % 10 ^ d * 10 = ap (λ p. n * 10 % p) power ∙ mod-tens n (10 ^ d) (pow-pos d) in
    ap (λ k. whole_digits most_digits k ++ point_text (suc d) (n * 10 % 10 ^ suc d)) whole
    ∙ ap (λ r. whole_digits most_digits (n / 10 ^ d) ++ point_text (suc d) r) rest
    ∙ ap (λ (bs : List ℕ). whole_digits most_digits (n / 10 ^ d) ++ bs) (point_tens d (n % 10 ^ d) (rest_below d n))

pub text_scaled : (n d k : ℕ) → magnitude_text (n * 10 ^ k) (d + k) ≡ magnitude_text n d
text_scaled n d zero = ap (magnitude_text (n * 10 ^ 0)) (add-zero d) ∙ ap (λ m. magnitude_text m d) (mul-one n)
text_scaled n d (suc k) =
    let tens : n * 10 ^ suc k ≡ n * 10 ^ k * 10 = ap (λ p. n * p) (pow-suc 10 k) ∙ sym (mul_assoc n (10 ^ k) 10) in
    ap (λ m. magnitude_text m (d + suc k)) tens ∙ ap (magnitude_text (n * 10 ^ k * 10)) (add-suc d k) ∙ text_tens (n * 10 ^ k) (d + k) ∙ text_scaled n d k

-- ---- the text by a shift

pub lowered_shift : (n up places : ℕ) → up + places ≡ 60 → magnitude_text n places ≡ magnitude_text (n * 10 ^ up) 60
lowered_shift n up places e = sym (ap (magnitude_text (n * 10 ^ up)) (sym e ∙ add_comm up places) ∙ text_scaled n places up)

pub raised_shift : (n up zeros : ℕ) → up ≡ zeros + 60 → magnitude_text (n * 10 ^ zeros) 0 ≡ magnitude_text (n * 10 ^ up) 60
raised_shift n up zeros e = by_down 60 e where
  by_down : (k : ℕ) → up ≡ zeros + k → magnitude_text (n * 10 ^ zeros) 0 ≡ magnitude_text (n * 10 ^ up) k
  by_down k e =
      let powers : n * 10 ^ up ≡ n * 10 ^ zeros * 10 ^ k = ap (λ j. n * 10 ^ j) e ∙ sym (two_powers n zeros k) in
      sym (ap (λ m. magnitude_text m k) powers ∙ ap (magnitude_text (n * 10 ^ zeros * 10 ^ k)) (sym (zero-add k)) ∙ text_scaled (n * 10 ^ zeros) 0 k)
