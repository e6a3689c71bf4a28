-- Parts of a text, and the decimal of their value.
use Rattle.std.proofs.Common.{◌≡◌, ℕ, ◌+◌, ◌*◌, ◌%◌, ◌^◌, ◌≤◌, ◌≢◌, inl, inr, Bool, true, false, cond, eqb, ℤ, pos, neg_ℤ, ◌*ℤ◌, ◌+ℤ◌, ◌≤ℤ◌, List, [], ◌∷◌, ◌++◌, length, Option, Some, None, option_map, refl, sym, ap, subst, ◌∙◌, arith}
use Rattle.std.specs.Prelude.{unsigned_abs}
use Rattle.std.specs.List.{list_all}
use Rattle.std.proofs.lemmas.Nat.{pow-add}
use Rattle.std.proofs.Math.Nat.{add_assoc}
use Rattle.std.specs.Option.{MatchOption}
use Rattle.e57_decimal.specs.declared.values.Decimal.{Decimal}
use Rattle.e57_decimal.specs.Fractions.{Fraction, IsSame, IsDecimal, limit, shift_limit, signed, fraction_of}
use Rattle.e57_decimal.specs.Reading.{Parts, is_digit, run, after, places_at, exponent_in, unsigned_in, parts_in, value_of, fraction_in, IsReadAs, number_after, sign_at, trimmed}
use Rattle.e57_decimal.specs.Gathering.{IsTooLong}
use Rattle.e57_decimal.specs.Deciding.{Decides, IsFar}
use Rattle.e57_decimal.proofs.Fronts.{run_each}
use Rattle.e57_decimal.proofs.Forms.{same_whole, up_of-le, fraction, decimal, one_power, two_powers}
use Rattle.e57_decimal.proofs.Signs.{signed-mul, abs-signed}

-- ---- the digits of the parts

pub record AreDigits (parts : Parts) : Type 0 where
  pub whole : list_all is_digit parts.whole ≡ true
  pub places : list_all is_digit parts.places ≡ true

abbrev made : Bool → List ℕ → List ℕ → ℕ × ℕ → Parts
made negative whole places e = record { negative = negative; whole = whole; places = places; raised = e.0; lowered = e.1 }

by_exponent : (t : Bool) (o : Option (ℕ × ℕ)) (negative : Bool) (whole places : List ℕ) (p : Parts) → list_all is_digit whole ≡ true → list_all is_digit places ≡ true → cond t None (option_map (made negative whole places) o) ≡ Some p → AreDigits p
by_exponent true o negative whole places p w q e = absurd (cc)
by_exponent false None negative whole places p w q e = absurd (cc)
by_exponent false (Some x) negative whole places p w q e =
    let same : made negative whole places x ≡ p = cc in
    let P : Parts → Type 0 = λ parts. AreDigits parts in
    subst P same (record { whole = w; places = q })

places_digits : (text : List ℕ) → list_all is_digit (places_at text).0 ≡ true
unfolding places_at
places_digits [] = refl
places_digits (b ∷ bs) = by_point (eqb b 46) where
  by_point : (t : Bool) → list_all is_digit (cond {A = List ℕ × List ℕ} t (run is_digit bs, after is_digit bs) ([], b ∷ bs)).0 ≡ true
  by_point true = run_each is_digit bs
  by_point false = refl

pub parts_digits : (text : List ℕ) (p : Parts) → parts_in text ≡ Some p → AreDigits p
unfolding parts_in unsigned_in
parts_digits text p e =
    let rest = (sign_at (trimmed text)).1 in
    by_exponent _ (exponent_in (places_at (after is_digit rest)).1) _ (run is_digit rest) (places_at (after is_digit rest)).0 p (run_each is_digit rest) (places_digits (after is_digit rest)) e

-- ---- no decimal

pub not_read : (text : List ℕ) (d : Decimal) → parts_in text ≡ None → IsReadAs text d → ⊥
unfolding fraction_in
not_read text d e h = rw e at h.value

pub read_value : (text : List ℕ) (p : Parts) (d : Decimal) → parts_in text ≡ Some p → IsReadAs text d → IsSame (value_of p) (fraction_of d)
unfolding fraction_in
read_value text p d e h = rw e at h.value

pub value_read : (text : List ℕ) (p : Parts) (d : Decimal) → parts_in text ≡ Some p → IsDecimal d → IsSame (value_of p) (fraction_of d) → IsReadAs text d
unfolding fraction_in
value_read text p d e kept same = record { kept = kept; value = rw e same }

pub too_long_for : (p : Parts) (d : Decimal) → IsTooLong (number_after 0 (p.whole ++ p.places)) → IsDecimal d → IsSame (value_of p) (fraction_of d) → ⊥
unfolding value_of
too_long_for p d long kept same =
    let w = same_whole (value_of p) d long.front long.zeros (abs-signed p.negative (number_after 0 (p.whole ++ p.places)) ∙ long.whole) long.last kept same in
    let above = long.above in
    let within = kept.within in
    absurd (omega arith)

pub no_shift : (negative : Bool) (m up down : ℕ) (d : Decimal) → m % 10 ≢ 0 → IsFar up down → IsDecimal d → IsSame (fraction (signed negative m) up down) (fraction_of d) → ⊥
no_shift negative m up down d last far kept same =
    let w = same_whole (fraction (signed negative m) up down) d m 0 (abs-signed negative m ∙ omega arith) last kept same in
    let low = up_of-le d kept in
    elim far [
      | inl less ↦ absurd (omega arith)
      | inr more ↦ absurd (omega arith)
    ]

-- ---- the decimal

pub is_decimal : (negative : Bool) (m up down : ℕ) (s : ℤ) → m ≤ limit → m % 10 ≢ 0 → neg_ℤ (pos shift_limit) ≤ℤ s → s ≤ℤ pos shift_limit → unsigned_abs (s +ℤ pos shift_limit) + down ≡ up + shift_limit → IsDecimal (decimal (signed negative m) s) × IsSame (fraction (signed negative m) up down) (fraction_of (decimal (signed negative m) s))
is_decimal negative m up down s within last low high sum =
    let size = abs-signed negative m in
    let none : signed negative m ≡ pos 0 → ⊥ = λ e. last (ap (λ n. n % 10) (sym size ∙ ap unsigned_abs e)) in
    let powers : 10 ^ up * 10 ^ shift_limit ≡ 10 ^ unsigned_abs (s +ℤ pos shift_limit) * 10 ^ down =
    sym (pow-add 10 up shift_limit) ∙ ap (λ k. 10 ^ k) (sym sum) ∙ pow-add 10 (unsigned_abs (s +ℤ pos shift_limit)) down in (
      record {
        within = omega arith;
        low = low;
        high = high;
        tens = λ e. absurd (last (ap (λ n. n % 10) (sym size) ∙ e));
        zero = λ e. absurd (none e);
      },
      record { crosswise = ap (λ p. signed negative m *ℤ pos p) powers },
    )

-- zeros counted apart, or with the number
pub moved : (negative : Bool) (n m z up down : ℕ) → m * 10 ^ z ≡ n → signed negative n *ℤ pos (10 ^ up * 10 ^ down) ≡ signed negative m *ℤ pos (10 ^ (z + up) * 10 ^ down)
moved negative n m z up down e =
    let powers : n * (10 ^ up * 10 ^ down) ≡ m * (10 ^ (z + up) * 10 ^ down) =
    one_power n up down ∙ ap (λ k. k * 10 ^ (up + down)) (sym e) ∙ two_powers m z (up + down)
    ∙ ap (λ k. m * 10 ^ k) (sym (add_assoc z up down)) ∙ sym (one_power m (z + up) down) in
    signed-mul negative n (10 ^ up * 10 ^ down) ∙ ap (signed negative) powers ∙ sym (signed-mul negative m (10 ^ (z + up) * 10 ^ down))

same_moved : (p : Parts) (m z : ℕ) (y : Fraction) → m * 10 ^ z ≡ number_after 0 (p.whole ++ p.places) → IsSame (fraction (signed p.negative m) (z + p.raised) (length p.places + p.lowered)) y → IsSame (value_of p) y
unfolding value_of
same_moved p m z y e h = record { crosswise = moved p.negative (number_after 0 (p.whole ++ p.places)) m z p.raised y.down e ∙ h.crosswise }

moved_same : (p : Parts) (m z : ℕ) (y : Fraction) → m * 10 ^ z ≡ number_after 0 (p.whole ++ p.places) → IsSame (value_of p) y → IsSame (fraction (signed p.negative m) (z + p.raised) (length p.places + p.lowered)) y
unfolding value_of
moved_same p m z y e h = record { crosswise = sym (moved p.negative (number_after 0 (p.whole ++ p.places)) m z p.raised y.down e) ∙ h.crosswise }

by_answer : (text : List ℕ) (p : Parts) (m z : ℕ) (r : Option Decimal) → parts_in text ≡ Some p → m * 10 ^ z ≡ number_after 0 (p.whole ++ p.places) → Decides (fraction (signed p.negative m) (z + p.raised) (length p.places + p.lowered)) r → MatchOption r ((d : Decimal) → IsReadAs text d → ⊥) (λ d. IsReadAs text d)
by_answer text p m z None found e h = λ d read. h d read.kept (moved_same p m z (fraction_of d) e (read_value text p d found read))
by_answer text p m z (Some d) found e h = value_read text p d found h.0 (same_moved p m z (fraction_of d) e h.1)

-- what is answered of a number whose zeros are counted apart is what is answered of the text
pub read_by : (text : List ℕ) (p : Parts) (m z up down : ℕ) (r : Option Decimal) → parts_in text ≡ Some p → m * 10 ^ z ≡ number_after 0 (p.whole ++ p.places) → up ≡ z + p.raised → down ≡ length p.places + p.lowered → Decides (fraction (signed p.negative m) up down) r → MatchOption r ((d : Decimal) → IsReadAs text d → ⊥) (λ d. IsReadAs text d)
read_by text p m z up down r found e u d h =
    let moved = subst (λ n. Decides (fraction (signed p.negative m) n down) r) u h in
    by_answer text p m z r found e (subst (λ n. Decides (fraction (signed p.negative m) (z + p.raised) n) r) d moved)
