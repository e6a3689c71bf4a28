-- Magnitudes and signs.
use Rattle.std.proofs.Common.{◌≡◌, ℕ, zero, suc, ◌*◌, ◌^◌, Bool, true, false, ℤ, pos, negsuc, neg_ℤ, ◌*ℤ◌, ◌+ℤ◌, ◌<◌, [], ◌∷◌, refl, sym, ap, ◌∙◌, arith, SFits, of_z}
use Rattle.std.specs.Prelude.{unsigned_abs}
use Rattle.std.proofs.lemmas.Int.{ints, unsigned_abs-mul}
use Rattle.std.proofs.Math.IntN.{neg_ℤ-neg_ℤ, *ℤ-zero, *ℤ_comm, suc_ℤ-*ℤ}
use Rattle.std.proofs.Math.Nat.{zero-mul, mul-zero, mul_assoc, mul-pos, zero-lt-suc, pos_of_ne-zero}
use Rattle.std.proofs.lemmas.Bool.{le-ltb}
use mir.Syntax.{w128}
use lib.Signed.{lt_z}
use Rattle.e57_decimal.specs.Fractions.{Fraction, IsSame, signed}
use Rattle.e57_decimal.specs.Writing.{sign_text}

pub signed-mul : (b : Bool) (n k : ℕ) → signed b n *ℤ pos k ≡ signed b (n * k)
signed-mul true zero k = ap pos (zero-mul k) ∙ ap (λ n. neg_ℤ (pos n)) (sym (zero-mul k))
signed-mul true (suc n) k = refl
signed-mul false n k = refl

pub abs-signed : (b : Bool) (n : ℕ) → unsigned_abs (signed b n) ≡ n
abs-signed true zero = refl
abs-signed true (suc n) = refl
abs-signed false n = refl

pub abs-zero : (z : ℤ) → unsigned_abs z ≡ 0 → z ≡ pos 0
abs-zero (pos n) e = ap pos e
abs-zero (negsuc n) e = absurd (cc)

pub same_abs : (x y : Fraction) → IsSame x y → unsigned_abs x.whole * (10 ^ x.up * 10 ^ y.down) ≡ unsigned_abs y.whole * (10 ^ y.up * 10 ^ x.down)
same_abs x y h =
    sym (unsigned_abs-mul x.whole (pos (10 ^ x.up * 10 ^ y.down))) ∙ ap unsigned_abs h.crosswise ∙ unsigned_abs-mul y.whole (pos (10 ^ y.up * 10 ^ x.down))

pub signed-sign : (z : ℤ) (p : ℕ) → signed (lt_z z (pos 0)) (unsigned_abs z * p) ≡ z *ℤ pos p
signed-sign (pos n) p = ap (λ b. signed b (n * p)) (le-ltb n 0 (omega arith))
signed-sign (negsuc n) p = refl

pub of_z-zero : (z : ℤ) → SFits w128 z → of_z w128 z ≡ 0 → z ≡ pos 0
of_z-zero (pos n) fits e = ap pos e
of_z-zero (negsuc n) fits e = let low : n < 2 ^ 127 = fits.sfits in absurd (omega arith)

pub abs-some : (z : ℤ) → (z ≡ pos 0 → ⊥) → 0 < unsigned_abs z
abs-some z some = pos_of_ne-zero (λ e. some (abs-zero z e))

-- ---- products and sums

neg-mul : (z : ℤ) (p : ℕ) → neg_ℤ z *ℤ pos p ≡ neg_ℤ (z *ℤ pos p)
neg-mul (pos zero) p = ap pos (zero-mul p) ∙ sym (ap (λ n. neg_ℤ (pos n)) (zero-mul p))
neg-mul (pos (suc n)) p = refl
neg-mul (negsuc n) p = sym (neg_ℤ-neg_ℤ (pos (suc n * p)))

mul-neg : (a z : ℤ) → a *ℤ neg_ℤ z ≡ neg_ℤ (a *ℤ z)
mul-neg (pos m) (pos zero) = ap pos (mul-zero m) ∙ sym (ap (λ n. neg_ℤ (pos n)) (mul-zero m))
mul-neg (pos m) (pos (suc n)) = refl
mul-neg (pos m) (negsuc n) = sym (neg_ℤ-neg_ℤ (pos (m * suc n)))
mul-neg (negsuc m) (pos zero) = ap (λ n. neg_ℤ (pos n)) (mul-zero (suc m)) ∙ sym (ap (λ n. neg_ℤ (neg_ℤ (pos n))) (mul-zero (suc m)))
mul-neg (negsuc m) (pos (suc n)) = sym (neg_ℤ-neg_ℤ (pos (suc m * suc n)))
mul-neg (negsuc m) (negsuc n) = refl

mul_assoc-pos : (a : ℤ) (n p : ℕ) → (a *ℤ pos n) *ℤ pos p ≡ a *ℤ pos (n * p)
mul_assoc-pos (pos m) n p = ap pos (mul_assoc m n p)
mul_assoc-pos (negsuc m) n p = neg-mul (pos (suc m * n)) p ∙ ap (λ k. neg_ℤ (pos k)) (mul_assoc (suc m) n p)

pub int-mul_assoc : (a b : ℤ) (p : ℕ) → (a *ℤ b) *ℤ pos p ≡ a *ℤ (b *ℤ pos p)
int-mul_assoc a (pos n) p = mul_assoc-pos a n p
int-mul_assoc a (negsuc n) p =
    ap (λ z. z *ℤ pos p) (mul-neg a (pos (suc n))) ∙ neg-mul (a *ℤ pos (suc n)) p ∙ ap neg_ℤ (mul_assoc-pos a (suc n) p)
    ∙ sym (mul-neg a (pos (suc n * p)))

mul-next : (z : ℤ) (q : ℕ) → z *ℤ pos (suc q) ≡ z *ℤ pos q +ℤ z
mul-next z q = *ℤ_comm z (pos (suc q)) ∙ suc_ℤ-*ℤ (pos q) z ∙ ap (λ w. w +ℤ z) (*ℤ_comm (pos q) z)

four : (a b c d : ℤ) → (a +ℤ b) +ℤ (c +ℤ d) ≡ (a +ℤ c) +ℤ (b +ℤ d)
four a b c d = omega (arith, ints)

pub int-add-mul : (a b : ℤ) (q : ℕ) → (a +ℤ b) *ℤ pos q ≡ a *ℤ pos q +ℤ b *ℤ pos q
int-add-mul a b zero = *ℤ-zero (a +ℤ b) ∙ sym (ap (λ z. z +ℤ b *ℤ pos 0) (*ℤ-zero a) ∙ ap (λ z. pos 0 +ℤ z) (*ℤ-zero b))
int-add-mul a b (suc q) =
    mul-next (a +ℤ b) q ∙ ap (λ z. z +ℤ (a +ℤ b)) (int-add-mul a b q) ∙ four (a *ℤ pos q) (b *ℤ pos q) a b
    ∙ ap (λ z. z +ℤ (b *ℤ pos q +ℤ b)) (sym (mul-next a q)) ∙ ap (λ z. a *ℤ pos (suc q) +ℤ z) (sym (mul-next b q))

-- ---- signs of texts

text_negative : (k : ℕ) → 0 < k → sign_text (neg_ℤ (pos k)) ≡ 45 ∷ []
text_negative zero some = absurd (omega arith)
text_negative (suc k) some = refl

pub sign_text-mul : (z : ℤ) (q : ℕ) → 0 < q → sign_text (z *ℤ pos q) ≡ sign_text z
sign_text-mul (pos n) q some = refl
sign_text-mul (negsuc n) q some = text_negative (suc n * q) (mul-pos (zero-lt-suc n) some)
