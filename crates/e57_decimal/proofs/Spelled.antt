-- The parts of the text of a value, and their value.
use Rattle.std.proofs.Common.{◌≡◌, ℕ, suc, ◌+◌, ◌*◌, ◌/◌, ◌%◌, ◌^◌, ◌<◌, ◌⊎◌, inl, inr, Bool, true, false, ◌&&◌, not, ℤ, pos, negsuc, ◌*ℤ◌, List, [], ◌∷◌, ◌++◌, length, Some, refl, sym, ap, subst, ◌∙◌, arith}
use Rattle.std.specs.Prelude.{unsigned_abs}
use Rattle.std.specs.List.{list_all}
use Rattle.std.proofs.lemmas.List.{append-nil}
use Rattle.std.proofs.lemmas.List.Folds.{list_all-append}
use Rattle.std.proofs.lemmas.Bool.{ne_eqb}
use Rattle.std.proofs.Math.Nat.{eq-zero-or-pos, mul_assoc, one-mul, add-zero, div-add-mod'}
use Rattle.e57_decimal.specs.Fractions.{Fraction, IsSame, signed}
use Rattle.e57_decimal.specs.Reading.{Parts, is_space, is_digit, run, after, trimmed, number_after, sign_at, places_at, exponent_in, unsigned_in, parts_in, value_of, fraction_in, HasValue}
use Rattle.e57_decimal.specs.Writing.{whole_digits, most_digits, places_of, point_text, magnitude_text, sign_text, decimal_text}
use Rattle.e57_decimal.proofs.Fronts.{number-append, digit_within}
use Rattle.e57_decimal.proofs.Signs.{signed-mul}
use Rattle.e57_decimal.proofs.Places.{places_none, point_none, point_some, rest_below}
use Rattle.e57_decimal.proofs.Again.{whole_are_digits, places_are_digits, whole_number, places_number, run_front, clear_trimmed, both_true, some_digits}

abbrev clear : List ℕ → Bool
clear xs = list_all (λ b. not (is_space b)) xs

digit_clear : (b : ℕ) → is_digit b ≡ true → not (is_space b) ≡ true
unfolding is_space
digit_clear b e =
    let within = digit_within b e in
    rw (ne_eqb b 32 (λ e. absurd (omega arith)), ne_eqb b 9 (λ e. absurd (omega arith)), ne_eqb b 13 (λ e. absurd (omega arith)), ne_eqb b 10 (λ e. absurd (omega arith))) refl

digits_clear : (xs : List ℕ) → list_all is_digit xs ≡ true → clear xs ≡ true
digits_clear [] e = refl
digits_clear (x ∷ xs) e = both_true (not (is_space x)) (clear xs) (digit_clear x (by_head (is_digit x) e)) (digits_clear xs (by_rest (is_digit x) e)) where
  by_rest : (t : Bool) → (t && list_all is_digit xs) ≡ true → list_all is_digit xs ≡ true
  by_rest true e = e
  by_rest false e = absurd (cc)

  by_head : (t : Bool) → (t && list_all is_digit xs) ≡ true → t ≡ true
  by_head true e = refl
  by_head false e = e

-- nothing, or a point and digits
abbrev IsPoint : List ℕ → List ℕ → Type 0
IsPoint point places = ((point ≡ []) × (places ≡ [])) ⊎ (point ≡ 46 ∷ places)

point_clear : (point places : List ℕ) → IsPoint point places → list_all is_digit places ≡ true → clear point ≡ true
unfolding is_space
point_clear point places (inl none) e = ap clear none.0
point_clear point places (inr some) e = ap clear some ∙ digits_clear places e

abbrev sign_bytes : Bool → List ℕ
sign_bytes true = 45 ∷ []
sign_bytes false = []

sign_clear : (negative : Bool) → clear (sign_bytes negative) ≡ true
unfolding is_space
sign_clear true = refl
sign_clear false = refl

sign_read : (negative : Bool) (rest : List ℕ) → list_all is_digit rest ≡ true → 0 < length rest → (more : List ℕ) → sign_at (sign_bytes negative ++ (rest ++ more)) ≡ (negative, rest ++ more)
unfolding sign_at
sign_read true rest e some more = refl
sign_read false [] e some more = absurd (omega arith)
sign_read false (x ∷ xs) e some more =
    let within = digit_within x (by_head (is_digit x) e) in
    rw (ne_eqb x 45 (λ e. absurd (omega arith)), ne_eqb x 43 (λ e. absurd (omega arith))) refl where
      by_head : (t : Bool) → (t && list_all is_digit xs) ≡ true → t ≡ true
      by_head true e = refl
      by_head false e = e

point_stops : (point places : List ℕ) → IsPoint point places → (run is_digit point ≡ []) × (after is_digit point ≡ point)
unfolding run after is_digit
point_stops point places (inl none) = (ap (run is_digit) none.0, ap (after is_digit) none.0 ∙ sym none.0)
point_stops point places (inr some) = (ap (run is_digit) some, ap (after is_digit) some ∙ sym some)

ends_here : (run is_digit [] ≡ []) × (after is_digit [] ≡ [])
unfolding run after
ends_here = (refl, refl)

point_read : (point places : List ℕ) → IsPoint point places → list_all is_digit places ≡ true → places_at point ≡ (places, [])
unfolding places_at
point_read point places (inl none) e = ap places_at none.0 ∙ ap (λ (bs : List ℕ). (bs, [])) (sym none.1)
point_read point places (inr some) e =
    let all = run_front places [] e ends_here in
    let same = append-nil places in
    let P : List ℕ → Type 0 = λ bs. (run is_digit bs ≡ places) × (after is_digit bs ≡ []) in
    let read : P places = subst P same all in
    ap places_at some ∙ ap (λ (bs : List ℕ). (bs, after is_digit places)) read.0 ∙ ap (λ (bs : List ℕ). (places, bs)) read.1

abbrev parts : Bool → List ℕ → List ℕ → Parts
parts negative whole places = record { negative = negative; whole = whole; places = places; raised = 0; lowered = 0 }

unsigned_read : (negative : Bool) (text whole places : List ℕ) → run is_digit text ≡ whole → places_at (after is_digit text) ≡ (places, []) → 0 < length whole → unsigned_in negative text ≡ Some (parts negative whole places)
unfolding unsigned_in exponent_in
unsigned_read negative text whole places w p some = rw (w, p, ne_eqb (length whole + length places) 0 (λ e. absurd (omega arith))) refl

parts_read : (negative : Bool) (whole point places : List ℕ) → list_all is_digit whole ≡ true → list_all is_digit places ≡ true → 0 < length whole → IsPoint point places → parts_in (sign_bytes negative ++ (whole ++ point)) ≡ Some (parts negative whole places)
unfolding parts_in
parts_read negative whole point places w p some is_point =
    let text = sign_bytes negative ++ (whole ++ point) in
    let rest = list_all-append (λ b. not (is_space b)) whole point ∙ both_true (clear whole) (clear point) (digits_clear whole w) (point_clear point places is_point p) in
    let all = list_all-append (λ b. not (is_space b)) (sign_bytes negative) (whole ++ point) ∙ both_true (clear (sign_bytes negative)) (clear (whole ++ point)) (sign_clear negative) rest in
    let signs : sign_at (trimmed text) ≡ (negative, whole ++ point) = ap sign_at (clear_trimmed text all) ∙ sign_read negative whole w some point in
    let front = run_front whole point w (point_stops point places is_point) in
    ap (λ (s : Bool × List ℕ). unsigned_in s.0 s.1) signs
    ∙ unsigned_read negative (whole ++ point) whole places front.0 (ap places_at front.1 ∙ point_read point places is_point p) some

-- ---- the value

abbrev is_negative : ℤ → Bool
is_negative (pos n) = false
is_negative (negsuc n) = true

signed_whole : (z : ℤ) → z ≡ signed (is_negative z) (unsigned_abs z)
signed_whole (pos n) = refl
signed_whole (negsuc n) = refl

sign_is : (z : ℤ) → sign_text z ≡ sign_bytes (is_negative z)
sign_is (pos n) = refl
sign_is (negsuc n) = refl

point_of : (k r : ℕ) → IsPoint (point_text k r) (places_of k r)
point_of k r =
    elim (eq-zero-or-pos r) [
      | inl none ↦ inl (point_none k r none, places_none k r none)
      | inr some ↦ inr (point_some k r (λ e. absurd (omega arith)))
    ]

same_value : (negative : Bool) (n size up len k : ℕ) → n * 10 ^ k ≡ size * 10 ^ up * 10 ^ len → signed negative n *ℤ pos (10 ^ 0 * 10 ^ k) ≡ signed negative size *ℤ pos (10 ^ up * 10 ^ (len + 0))
same_value negative n size up len k e =
    let product : n * (10 ^ 0 * 10 ^ k) ≡ size * (10 ^ up * 10 ^ (len + 0)) =
    ap (λ p. n * p) (one-mul (10 ^ k)) ∙ e ∙ mul_assoc size (10 ^ up) (10 ^ len) ∙ ap (λ j. size * (10 ^ up * 10 ^ j)) (sym (add-zero len)) in
    signed-mul negative n (10 ^ 0 * 10 ^ k) ∙ ap (signed negative) product ∙ sym (signed-mul negative size (10 ^ up * 10 ^ (len + 0)))

value_same : (x : Fraction) (whole places : List ℕ) → number_after 0 (whole ++ places) * 10 ^ x.down ≡ unsigned_abs x.whole * 10 ^ x.up * 10 ^ length places → IsSame (value_of (parts (is_negative x.whole) whole places)) x
unfolding value_of
value_same x whole places e = record {
  crosswise =
      same_value (is_negative x.whole) (number_after 0 (whole ++ places)) (unsigned_abs x.whole) x.up (length places) x.down e
      ∙ ap (λ z. z *ℤ pos (10 ^ x.up * 10 ^ (length places + 0))) (sym (signed_whole x.whole));
}

read_as : (text : List ℕ) (p : Parts) (x : Fraction) → parts_in text ≡ Some p → IsSame (value_of p) x → HasValue text x
unfolding fraction_in
read_as text p x e same = rw e same

-- a text of at most so many digits is read as its value
by_digits : (fuel : ℕ) (x : Fraction) → (let n = unsigned_abs x.whole * 10 ^ x.up in n / 10 ^ x.down < 10 ^ suc fuel → HasValue (sign_text x.whole ++ (whole_digits (suc fuel) (n / 10 ^ x.down) ++ point_text x.down (n % 10 ^ x.down))) x)
by_digits fuel x low =
    let n = unsigned_abs x.whole * 10 ^ x.up in
    let k = x.down in
    let q = n / 10 ^ k in
    let r = n % 10 ^ k in
    let whole = whole_digits (suc fuel) q in
    let places = places_of k r in
    let number : number_after 0 (whole ++ places) * 10 ^ k ≡ n * 10 ^ length places =
    ap (λ m. m * 10 ^ k) (number-append 0 whole places ∙ ap (λ m. number_after m places) (whole_number (suc fuel) q low))
    ∙ places_number k q r (rest_below k n) ∙ ap (λ m. m * 10 ^ length places) (div-add-mod' n (10 ^ k)) in
    let read : parts_in (sign_bytes (is_negative x.whole) ++ (whole ++ point_text k r)) ≡ Some (parts (is_negative x.whole) whole places) =
    parts_read (is_negative x.whole) whole (point_text k r) places (whole_are_digits (suc fuel) q) (places_are_digits k r (rest_below k n)) (some_digits fuel q) (point_of k r) in
    let sign = ap (λ (bs : List ℕ). parts_in (bs ++ (whole ++ point_text k r))) (sign_is x.whole) in
    read_as (sign_text x.whole ++ (whole ++ point_text k r)) (parts (is_negative x.whole) whole places) x (sign ∙ read) (value_same x whole places number)

pub text_read : (x : Fraction) → unsigned_abs x.whole * 10 ^ x.up / 10 ^ x.down < 10 ^ most_digits → HasValue (decimal_text x) x
unfolding decimal_text magnitude_text
text_read x low = by_digits 127 x low
