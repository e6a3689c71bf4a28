-- Equal values: one text, one decimal, one sum.
use Rattle.std.proofs.Common.{◌≡◌, ℕ, ◌+◌, ◌*◌, ◌%◌, ◌^◌, ◌<◌, ◌≢◌, Bool, true, false, eqb, ℤ, pos, negsuc, neg_ℤ, ◌+ℤ◌, ◌*ℤ◌, ◌≤ℤ◌, List, ◌++◌, refl, sym, ap, ◌∙◌, arith}
use Rattle.std.specs.Prelude.{unsigned_abs}
use Rattle.std.proofs.lemmas.Nat.{pow-add}
use Rattle.std.proofs.lemmas.Int.{ints}
use Rattle.std.proofs.lemmas.Bool.{eqb-true, eq-eqb}
use Rattle.std.proofs.Math.Nat.{mul_assoc, mul-pos, add_comm, eq_of_mul-eq-mul_right, zero-mul, one-mul}
use Rattle.e57_decimal.specs.declared.values.Decimal.{Decimal}
use Rattle.e57_decimal.specs.Fractions.{Fraction, IsSame, IsDecimal, shift_limit, up_of, fraction_of, combined}
use Rattle.e57_decimal.specs.Writing.{sign_text, magnitude_text, decimal_text}
use Rattle.e57_decimal.proofs.Tens.{pow-pos}
use Rattle.e57_decimal.proofs.Forms.{same_whole, decimal}
use Rattle.e57_decimal.proofs.Denominators.{text_scaled}
use Rattle.e57_decimal.proofs.Signs.{same_abs, abs-zero, sign_text-mul, int-mul_assoc, int-add-mul}

both_pos : (i j : ℕ) → 0 < 10 ^ i * 10 ^ j
both_pos i j = mul-pos (pow-pos i) (pow-pos j)

pub same_sign : (x y : Fraction) → IsSame x y → sign_text x.whole ≡ sign_text y.whole
same_sign x y h =
    sym (sign_text-mul x.whole (10 ^ x.up * 10 ^ y.down) (both_pos x.up y.down)) ∙ ap sign_text h.crosswise ∙ sign_text-mul y.whole (10 ^ y.up * 10 ^ x.down) (both_pos y.up x.down)

-- over one denominator
same_magnitude : (x y : Fraction) → IsSame x y → magnitude_text (unsigned_abs x.whole * 10 ^ x.up) x.down ≡ magnitude_text (unsigned_abs y.whole * 10 ^ y.up) y.down
same_magnitude x y h =
    let product : unsigned_abs x.whole * 10 ^ x.up * 10 ^ y.down ≡ unsigned_abs y.whole * 10 ^ y.up * 10 ^ x.down =
    mul_assoc (unsigned_abs x.whole) (10 ^ x.up) (10 ^ y.down) ∙ same_abs x y h ∙ sym (mul_assoc (unsigned_abs y.whole) (10 ^ y.up) (10 ^ x.down)) in
    sym (text_scaled (unsigned_abs x.whole * 10 ^ x.up) x.down y.down) ∙ ap (λ n. magnitude_text n (x.down + y.down)) product
    ∙ ap (magnitude_text (unsigned_abs y.whole * 10 ^ y.up * 10 ^ x.down)) (add_comm x.down y.down) ∙ text_scaled (unsigned_abs y.whole * 10 ^ y.up) y.down x.down

pub same_text : (x y : Fraction) → IsSame x y → decimal_text x ≡ decimal_text y
unfolding decimal_text
same_text x y h =
    ap (λ (bs : List ℕ). bs ++ magnitude_text (unsigned_abs x.whole * 10 ^ x.up) x.down) (same_sign x y h)
    ∙ ap (λ (bs : List ℕ). sign_text y.whole ++ bs) (same_magnitude x y h)

-- ---- one decimal

pub same_number : (z w : ℤ) → unsigned_abs z ≡ unsigned_abs w → sign_text z ≡ sign_text w → z ≡ w
same_number (pos m) (pos n) e s = ap pos e
same_number (pos m) (negsuc n) e s = absurd (cc)
same_number (negsuc m) (pos n) e s = absurd (cc)
same_number (negsuc m) (negsuc n) e s = let f : m ≡ n = omega arith in ap negsuc f

pub same_shift : (s t : ℤ) → neg_ℤ (pos 60) ≤ℤ s → neg_ℤ (pos 60) ≤ℤ t → unsigned_abs (s +ℤ pos 60) ≡ unsigned_abs (t +ℤ pos 60) → s ≡ t
same_shift s t low less e = omega (arith, ints)

pub by_fields : (a b : Decimal) → a.whole ≡ b.whole → a.shift ≡ b.shift → a ≡ b
by_fields a b w s = ap (λ z. decimal z a.shift) w ∙ ap (λ z. decimal b.whole z) s

from_zero : (a b : Decimal) → IsDecimal a → IsDecimal b → IsSame (fraction_of a) (fraction_of b) → a.whole ≡ pos 0 → a ≡ b
from_zero a b ha hb same none =
    let size = same_abs (fraction_of a) (fraction_of b) same in
    let empty : unsigned_abs a.whole * (10 ^ up_of a * 10 ^ shift_limit) ≡ 0 = ap (λ n. n * (10 ^ up_of a * 10 ^ shift_limit)) (ap unsigned_abs none) ∙ zero-mul (10 ^ up_of a * 10 ^ shift_limit) in
    let other : unsigned_abs b.whole ≡ 0 = eq_of_mul-eq-mul_right (10 ^ up_of b * 10 ^ shift_limit) (both_pos (up_of b) shift_limit) (unsigned_abs b.whole) 0 (sym size ∙ empty ∙ sym (zero-mul (10 ^ up_of b * 10 ^ shift_limit))) in
    let nothing = abs-zero b.whole other in
    by_fields a b (none ∙ sym nothing) (ha.zero none ∙ sym (hb.zero nothing))

pub same_decimal : (a b : Decimal) → IsDecimal a → IsDecimal b → IsSame (fraction_of a) (fraction_of b) → a ≡ b
same_decimal a b ha hb same = by_last (eqb (unsigned_abs a.whole % 10) 0) refl where
  by_last : (t : Bool) → eqb (unsigned_abs a.whole % 10) 0 ≡ t → a ≡ b
  by_last true e = from_zero a b ha hb same (ha.tens (eqb-true (unsigned_abs a.whole % 10) 0 e))
  by_last false e =
      let last : unsigned_abs a.whole % 10 ≢ 0 = λ z. let f : eqb (unsigned_abs a.whole % 10) 0 ≡ true = eq-eqb (unsigned_abs a.whole % 10) 0 z in absurd (cc) in
      let w = same_whole (fraction_of a) b (unsigned_abs a.whole) 0 (omega arith) last hb same in
      let up : up_of a ≡ up_of b = omega (arith, w.1) in
      by_fields a b (same_number a.whole b.whole w.0 (same_sign (fraction_of a) (fraction_of b) same)) (same_shift a.shift b.shift ha.low hb.low up)

-- ---- one sum

-- a term of the sum, over the other denominators
term : (z w : ℤ) (zu zd wu wd k l : ℕ) → z *ℤ pos (10 ^ zu * 10 ^ wd) ≡ w *ℤ pos (10 ^ wu * 10 ^ zd) → (z *ℤ pos (10 ^ (zu + k))) *ℤ pos (10 ^ (wd + l)) ≡ (w *ℤ pos (10 ^ (wu + l))) *ℤ pos (10 ^ (zd + k))
term z w zu zd wu wd k l e =
    let left : 10 ^ (zu + k) * 10 ^ (wd + l) ≡ 10 ^ zu * 10 ^ wd * 10 ^ (k + l) =
    sym (pow-add 10 (zu + k) (wd + l)) ∙ ap (λ j. 10 ^ j) (let s : zu + k + (wd + l) ≡ zu + wd + (k + l) = omega arith in s) ∙ pow-add 10 (zu + wd) (k + l) ∙ ap (λ p. p * 10 ^ (k + l)) (pow-add 10 zu wd) in
    let right : 10 ^ (wu + l) * 10 ^ (zd + k) ≡ 10 ^ wu * 10 ^ zd * 10 ^ (k + l) =
    sym (pow-add 10 (wu + l) (zd + k)) ∙ ap (λ j. 10 ^ j) (let s : wu + l + (zd + k) ≡ wu + zd + (k + l) = omega arith in s) ∙ pow-add 10 (wu + zd) (k + l) ∙ ap (λ p. p * 10 ^ (k + l)) (pow-add 10 wu zd) in
    int-mul_assoc z (pos (10 ^ (zu + k))) (10 ^ (wd + l)) ∙ ap (λ p. z *ℤ pos p) left ∙ sym (int-mul_assoc z (pos (10 ^ zu * 10 ^ wd)) (10 ^ (k + l)))
    ∙ ap (λ y. y *ℤ pos (10 ^ (k + l))) e
    ∙ int-mul_assoc w (pos (10 ^ wu * 10 ^ zd)) (10 ^ (k + l)) ∙ ap (λ p. w *ℤ pos p) (sym right) ∙ sym (int-mul_assoc w (pos (10 ^ (wu + l))) (10 ^ (zd + k)))

times : (raw : ℤ) (x y : Fraction) → IsSame x y → (raw *ℤ x.whole) *ℤ pos (10 ^ x.up * 10 ^ y.down) ≡ (raw *ℤ y.whole) *ℤ pos (10 ^ y.up * 10 ^ x.down)
times raw x y h =
    int-mul_assoc raw x.whole (10 ^ x.up * 10 ^ y.down) ∙ ap (λ z. raw *ℤ z) h.crosswise ∙ sym (int-mul_assoc raw y.whole (10 ^ y.up * 10 ^ x.down))

pub same_sum : (a b c d : Fraction) (raw : ℤ) → IsSame a b → IsSame c d → IsSame (combined a c raw) (combined b d raw)
same_sum a b c d raw ab cd =
    let first = term (raw *ℤ a.whole) (raw *ℤ b.whole) a.up a.down b.up b.down c.down d.down (times raw a b ab) in
    let second : (c.whole *ℤ pos (10 ^ (c.up + a.down))) *ℤ pos (10 ^ (b.down + d.down)) ≡ (d.whole *ℤ pos (10 ^ (d.up + b.down))) *ℤ pos (10 ^ (a.down + c.down)) =
    ap (λ j. (c.whole *ℤ pos (10 ^ (c.up + a.down))) *ℤ pos (10 ^ j)) (add_comm b.down d.down)
    ∙ term c.whole d.whole c.up c.down d.up d.down a.down b.down cd.crosswise
    ∙ ap (λ j. (d.whole *ℤ pos (10 ^ (d.up + b.down))) *ℤ pos (10 ^ j)) (add_comm c.down a.down) in
    let left = (raw *ℤ a.whole) *ℤ pos (10 ^ (a.up + c.down)) in
    let right = (raw *ℤ b.whole) *ℤ pos (10 ^ (b.up + d.down)) in
    record {
      crosswise =
          ap (λ p. (combined a c raw).whole *ℤ pos p) (one-mul (10 ^ (b.down + d.down)))
          ∙ int-add-mul left (c.whole *ℤ pos (10 ^ (c.up + a.down))) (10 ^ (b.down + d.down))
          ∙ ap (λ z. z +ℤ (c.whole *ℤ pos (10 ^ (c.up + a.down))) *ℤ pos (10 ^ (b.down + d.down))) first
          ∙ ap (λ z. right *ℤ pos (10 ^ (a.down + c.down)) +ℤ z) second
          ∙ sym (int-add-mul right (d.whole *ℤ pos (10 ^ (d.up + b.down))) (10 ^ (a.down + c.down)))
          ∙ ap (λ p. (combined b d raw).whole *ℤ pos p) (sym (one-mul (10 ^ (a.down + c.down))));
    }
