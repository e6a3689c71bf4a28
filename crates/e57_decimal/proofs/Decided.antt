-- The decimal that is worked out of a value is its decimal.
use Rattle.std.proofs.Common.{◌≡◌, ℕ, zero, suc, ◌+◌, ◌*◌, ◌/◌, ◌%◌, ◌^◌, ◌<◌, ◌≤◌, ◌≢◌, ◌&&◌, inl, inr, Bool, true, false, cond, eqb, leb, ℤ, pos, negsuc, neg_ℤ, ◌+ℤ◌, ◌*ℤ◌, ◌≤ℤ◌, List, Option, Some, None, refl, sym, ap, subst, ◌∙◌, arith, lit≤}
use Rattle.std.specs.Prelude.{unsigned_abs}
use Rattle.std.specs.Option.{MatchOption, IsSomeAnd}
use Rattle.std.proofs.lemmas.Bool.{eqb-true, eqb-false, leb-true, leb-false}
use Rattle.std.proofs.lemmas.Int.{ints}
use Rattle.std.proofs.Math.Nat.{pow-suc, mul_assoc, mul-one, zero-mul, mul-pos, eq_of_mul-eq-mul_right}
use Rattle.e57_decimal.specs.declared.values.Decimal.{Decimal}
use Rattle.e57_decimal.specs.Fractions.{Fraction, IsSame, IsDecimal, limit, shift_limit, signed, fraction_of}
use Rattle.e57_decimal.specs.Reading.{IsReadAs, fraction_in}
use Rattle.e57_decimal.specs.Deciding.{Decides}
use Rattle.e57_decimal.specs.Decided.{cut_zeros, is_negative, decimal_at, decimal_of, decimal_of_some, decimal_in}
use Rattle.e57_decimal.proofs.Tens.{pow-pos}
use Rattle.e57_decimal.proofs.Forms.{same_whole, fraction, decimal}
use Rattle.e57_decimal.proofs.Signs.{same_abs, abs-zero, abs-signed}
use Rattle.e57_decimal.proofs.Same.{same_sign, same_number, same_shift, by_fields}
use Rattle.e57_decimal.proofs.Texts.{no_shift, is_decimal, moved}

-- ---- the last zeros

below_power : (n : ℕ) → n < 10 ^ n
below_power zero = omega arith
below_power (suc n) = let rest = below_power n in omega (arith, pow-suc 10 n, rest)

abbrev IsCut : ℕ → ℕ × ℕ → Type 0
IsCut n front = (front.0 * 10 ^ front.1 ≡ n) × (front.0 % 10 ≢ 0)

one_zero : (n : ℕ) (front : ℕ × ℕ) → n % 10 ≡ 0 → IsCut (n / 10) front → IsCut n (front.0, suc front.1)
one_zero n front last (whole, end) =
    let tens : front.0 * 10 ^ suc front.1 ≡ front.0 * 10 ^ front.1 * 10 = ap (λ p. front.0 * p) (pow-suc 10 front.1) ∙ sym (mul_assoc front.0 (10 ^ front.1) 10) in
    let same : n / 10 * 10 ≡ n = omega (arith, last) in
    (tens ∙ ap (λ k. k * 10) whole ∙ same, end)

cut_is : (most n : ℕ) → 0 < n → n < 10 ^ most → IsCut n (cut_zeros most n)
unfolding cut_zeros
cut_is zero n some below = absurd (omega (arith, some, below))
cut_is (suc most) n some below = by_last (eqb (n % 10) 0) refl (λ more. cut_is most (n / 10) more (omega (arith, below, pow-suc 10 most)))
  where
    by_last : (t : Bool) → eqb (n % 10) 0 ≡ t → (0 < n / 10 → IsCut (n / 10) (cut_zeros most (n / 10))) → IsCut n (cond {A = ℕ × ℕ} t ((cut_zeros most (n / 10)).0, suc (cut_zeros most (n / 10)).1) (n, 0))
    by_last true is rest = let last = eqb-true (n % 10) 0 is in one_zero n (cut_zeros most (n / 10)) last (rest (omega (arith, some, last)))
    by_last false is rest = (mul-one n, eqb-false (n % 10) 0 is)

-- ---- a number that doesn't end in 0

past_limit : (negative : Bool) (m up down : ℕ) (d : Decimal) → m % 10 ≢ 0 → limit < m → IsDecimal d → IsSame (fraction (signed negative m) up down) (fraction_of d) → ⊥
past_limit negative m up down d last above kept same =
    let w = same_whole (fraction (signed negative m) up down) d m 0 (abs-signed negative m ∙ sym (mul-one m)) last kept same in
    let within = kept.within in
    absurd (omega (arith, w.0))

shift_low : (up down : ℕ) → down ≤ up + 60 → neg_ℤ (pos 60) ≤ℤ (pos up +ℤ neg_ℤ (pos down))
shift_low up down high = omega (arith, ints)

shift_high : (up down : ℕ) → up ≤ down + 60 → (pos up +ℤ neg_ℤ (pos down)) ≤ℤ pos 60
shift_high up down low = omega (arith, ints)

shift_sum : (up down : ℕ) → down ≤ up + 60 → unsigned_abs ((pos up +ℤ neg_ℤ (pos down)) +ℤ pos 60) + down ≡ up + 60
shift_sum up down high = omega (arith, ints)

decides_at : (negative : Bool) (m up down : ℕ) → m % 10 ≢ 0 → Decides (fraction (signed negative m) up down) (decimal_at negative m up down)
unfolding decimal_at
decides_at negative m up down last = by_limit (leb m limit) (leb up (down + shift_limit)) (leb down (up + shift_limit)) refl refl refl
  where
    answer : Bool → Option Decimal
    answer t = cond t (Some (decimal (signed negative m) (pos up +ℤ neg_ℤ (pos down)))) None

    by_limit : (a b c : Bool) → leb m limit ≡ a → leb up (down + shift_limit) ≡ b → leb down (up + shift_limit) ≡ c → Decides (fraction (signed negative m) up down) (answer (a && (b && c)))
    by_limit false b c in_a in_b in_c = λ d kept same. past_limit negative m up down d last (let above = leb-false m limit in_a in omega (arith, above)) kept same
    by_limit true false c in_a in_b in_c = λ d kept same. no_shift negative m up down d last (inr (let far = leb-false up (down + shift_limit) in_b in omega (arith, far))) kept same
    by_limit true true false in_a in_b in_c = λ d kept same. no_shift negative m up down d last (inl (let far = leb-false down (up + shift_limit) in_c in omega (arith, far))) kept same
    by_limit true true true in_a in_b in_c =
        let high = leb-true up (down + shift_limit) in_b in
        let low = leb-true down (up + shift_limit) in_c in
        is_decimal negative m up down (pos up +ℤ neg_ℤ (pos down)) (leb-true m limit in_a) last (shift_low up down low) (shift_high up down high) (shift_sum up down low)

-- ---- any value

sign_apart : (z : ℤ) → signed (is_negative z) (unsigned_abs z) ≡ z
sign_apart (pos n) = refl
sign_apart (negsuc n) = refl

-- what is answered of a form without zeros is what is answered of the value
moved_answer : (x : Fraction) (m z : ℕ) (r : Option Decimal) → m * 10 ^ z ≡ unsigned_abs x.whole → Decides (fraction (signed (is_negative x.whole) m) (z + x.up) x.down) r → Decides x r
moved_answer x m z r whole answer = by_answer r answer
  where
    crosswise : (y : Fraction) → x.whole *ℤ pos (10 ^ x.up * 10 ^ y.down) ≡ signed (is_negative x.whole) m *ℤ pos (10 ^ (z + x.up) * 10 ^ y.down)
    crosswise y = ap (λ w. w *ℤ pos (10 ^ x.up * 10 ^ y.down)) (sym (sign_apart x.whole)) ∙ moved (is_negative x.whole) (unsigned_abs x.whole) m z x.up y.down whole

    by_answer : (r : Option Decimal) → Decides (fraction (signed (is_negative x.whole) m) (z + x.up) x.down) r → Decides x r
    by_answer None never = λ d kept same. never d kept (record { crosswise = sym (crosswise (fraction_of d)) ∙ same.crosswise })
    by_answer (Some d) (kept, same) = (kept, record { crosswise = crosswise (fraction_of d) ∙ same.crosswise })

zero_decimal : IsDecimal (decimal (pos 0) (pos 0))
zero_decimal = record { within = lit≤ tt; low = omega (arith, ints); high = omega (arith, ints); tens = λ e. refl; zero = λ e. refl }

zero_same : (x : Fraction) → x.whole ≡ pos 0 → IsSame x (fraction_of (decimal (pos 0) (pos 0)))
zero_same x none = record {
  crosswise =
      ap (λ w. w *ℤ pos (10 ^ x.up * 10 ^ shift_limit)) none ∙ ap pos (zero-mul (10 ^ x.up * 10 ^ shift_limit)) ∙ sym (ap pos (zero-mul (10 ^ 60 * 10 ^ x.down)));
}

decides : (x : Fraction) → Decides x (decimal_of x)
unfolding decimal_of
decides x = by_zero (eqb (unsigned_abs x.whole) 0) refl
  where
    n : ℕ
    n = unsigned_abs x.whole

    by_zero : (t : Bool) → eqb (unsigned_abs x.whole) 0 ≡ t → Decides x (cond t (Some (decimal (pos 0) (pos 0))) (decimal_at (is_negative x.whole) (cut_zeros n n).0 ((cut_zeros n n).1 + x.up) x.down))
    by_zero true is = (zero_decimal, zero_same x (abs-zero x.whole (eqb-true (unsigned_abs x.whole) 0 is)))
    by_zero false is =
        let some = eqb-false (unsigned_abs x.whole) 0 is in
        let cut = cut_is n n (omega (arith, some)) (below_power n) in
        moved_answer x (cut_zeros n n).0 (cut_zeros n n).1 (decimal_at (is_negative x.whole) (cut_zeros n n).0 ((cut_zeros n n).1 + x.up) x.down) cut.0
        (decides_at (is_negative x.whole) (cut_zeros n n).0 ((cut_zeros n n).1 + x.up) x.down cut.1)

-- ---- one answer

no_whole : (x : Fraction) (d : Decimal) → unsigned_abs x.whole ≡ 0 → IsSame x (fraction_of d) → d.whole ≡ pos 0
no_whole x d none same =
    let size = same_abs x (fraction_of d) same in
    let left : unsigned_abs x.whole * (10 ^ x.up * 10 ^ shift_limit) ≡ 0 = ap (λ k. k * (10 ^ x.up * 10 ^ shift_limit)) none ∙ zero-mul (10 ^ x.up * 10 ^ shift_limit) in
    let p = 10 ^ (fraction_of d).up * 10 ^ x.down in
    abs-zero d.whole (eq_of_mul-eq-mul_right p (mul-pos (pow-pos (fraction_of d).up) (pow-pos x.down)) (unsigned_abs d.whole) 0 (sym size ∙ left ∙ sym (zero-mul p)))

one_of_value : (x : Fraction) (a b : Decimal) → IsDecimal a → IsDecimal b → IsSame x (fraction_of a) → IsSame x (fraction_of b) → a ≡ b
one_of_value x a b ha hb sa sb = by_zero (eqb (unsigned_abs x.whole) 0) refl
  where
    by_zero : (t : Bool) → eqb (unsigned_abs x.whole) 0 ≡ t → a ≡ b
    by_zero true is =
        let none = eqb-true (unsigned_abs x.whole) 0 is in
        let wa = no_whole x a none sa in
        let wb = no_whole x b none sb in
        by_fields a b (wa ∙ sym wb) (ha.zero wa ∙ sym (hb.zero wb))
    by_zero false is =
        let n = unsigned_abs x.whole in
        let some = eqb-false n 0 is in
        let cut = cut_is n n (omega (arith, some)) (below_power n) in
        let m = (cut_zeros n n).0 in
        let z = (cut_zeros n n).1 in
        let wa = same_whole x a m z (sym cut.0) cut.1 ha sa in
        let wb = same_whole x b m z (sym cut.0) cut.1 hb sb in
        by_fields a b (same_number a.whole b.whole (sym wa.0 ∙ wb.0) (sym (same_sign x (fraction_of a) sa) ∙ same_sign x (fraction_of b) sb))
        (same_shift a.shift b.shift ha.low hb.low (omega (arith, wa.1, wb.1)))

both_answers : (x : Fraction) (p q : Option Decimal) → Decides x p → Decides x q → p ≡ q
both_answers x None None a b = refl
both_answers x None (Some d) a b = absurd (a d b.0 b.1)
both_answers x (Some d) None a b = absurd (b d a.0 a.1)
both_answers x (Some d) (Some e) a b = ap Some (one_of_value x d e a.0 b.0 a.1 b.1)

-- what is read of a text is what is worked out
pub read_is : (text : List ℕ) (r : Option Decimal) → MatchOption r ((d : Decimal) → IsReadAs text d → ⊥) (λ d. IsReadAs text d) → r ≡ decimal_in text
unfolding decimal_in
read_is text r read = by_value (fraction_in text) refl r read
  where
    by_value : (o : Option Fraction) → fraction_in text ≡ o → (r : Option Decimal) → MatchOption r ((d : Decimal) → IsReadAs text d → ⊥) (λ d. IsReadAs text d) → r ≡ decimal_of_some o
    by_value None is None read = refl
    by_value None is (Some d) read = absurd (subst (λ (o : Option Fraction). IsSomeAnd o (λ y. IsSame y (fraction_of d))) is read.value)
    by_value (Some x) is None read =
        both_answers x None (decimal_of x) (λ d kept same. read d (record { kept = kept; value = subst (λ (o : Option Fraction). IsSomeAnd o (λ y. IsSame y (fraction_of d))) (sym is) same })) (decides x)
    by_value (Some x) is (Some d) read =
        both_answers x (Some d) (decimal_of x) (read.kept, subst (λ (o : Option Fraction). IsSomeAnd o (λ y. IsSame y (fraction_of d))) is read.value) (decides x)
