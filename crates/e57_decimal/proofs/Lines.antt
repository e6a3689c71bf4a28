-- A line by its whole numbers.
use Rattle.std.proofs.Common.{◌≡◌, ℕ, ◌+◌, ◌-◌, ◌*◌, ◌/◌, ◌^◌, ◌<◌, ◌≤◌, ◌⊎◌, inl, inr, min, Bool, true, false, ◌&&◌, cond, leb, ℤ, pos, ◌+ℤ◌, ◌*ℤ◌, List, ◌++◌, Some, None, refl, sym, ap, subst, ◌∙◌, arith, lit<}
use Rattle.std.specs.Prelude.{unsigned_abs}
use Rattle.std.proofs.lemmas.Bool.{le-leb, leb-true, eqb-true}
use Rattle.std.proofs.lemmas.Int.{unsigned_abs-mul}
use Rattle.e57_decimal.specs.declared.values.Decimal.{Decimal}
use Rattle.e57_decimal.specs.declared.scaling.Linear.TheInside.{Inside}
use Rattle.e57_decimal.specs.Fractions.{limit, shift_limit, up_of, fraction_of, combined}
use Rattle.e57_decimal.specs.Scaling.{Line, is_zero, common_up, whole_at, reach, is_linear, line_with, linear_of}
use Rattle.std.proofs.lemmas.Nat.{pow-add}
use Rattle.std.proofs.Math.Nat.{mul-one, mul-le-mul, div-lt_iff_lt-mul}
use Rattle.std.proofs.Math.IntN.{zero-*ℤ}
use Rattle.e57_decimal.specs.Writing.{sign_text, magnitude_text, decimal_text, most_digits}
use Rattle.e57_decimal.specs.Reading.{HasValue}
use Rattle.e57_decimal.proofs.Spelled.{text_read}
use Rattle.e57_decimal.proofs.Tens.{pow-pos, pow-le}
use Rattle.e57_decimal.proofs.Forms.{two_powers}
use Rattle.e57_decimal.proofs.Denominators.{text_scaled}
use Rattle.e57_decimal.proofs.Signs.{abs-zero, int-mul_assoc, int-add-mul, sign_text-mul}

-- ---- the test of a line

abbrev tests : Line → ℕ → Bool
tests line up =
    leb (unsigned_abs (whole_at up line.scale)) limit
    && (leb (unsigned_abs (whole_at up line.offset)) limit && leb (reach line.low line.high * unsigned_abs (whole_at up line.scale) + unsigned_abs (whole_at up line.offset)) limit)

is_tests : (line : Line) (up : ℕ) → up ≡ common_up line.scale line.offset → is_linear line ≡ tests line up
unfolding is_linear
is_tests line up e = ap (tests line) (sym e)

second_fails : (a b c : Bool) → b ≡ false → (a && (b && c)) ≡ false
second_fails true b c e = ap (λ t. t && c) e
second_fails false b c e = refl

third_fails : (a b c : Bool) → c ≡ false → (a && (b && c)) ≡ false
third_fails true true c e = e
third_fails true false c e = refl
third_fails false b c e = refl

none_of : (scale offset : Decimal) (low high : ℤ) → is_linear (line_with scale offset low high) ≡ false → None ≡ linear_of scale offset low high
none_of scale offset low high e = ap (λ (t : Bool). cond t (Some (line_with scale offset low high)) None) (sym e)

pub no_factor : (scale offset : Decimal) (low high : ℤ) (up : ℕ) → up ≡ common_up scale offset → (unsigned_abs (whole_at up scale) ≤ limit → ⊥) → None ≡ linear_of scale offset low high
no_factor scale offset low high up e large =
    let f : leb (unsigned_abs (whole_at up scale)) limit ≡ false = by_test (leb (unsigned_abs (whole_at up scale)) limit) refl in
    none_of scale offset low high (is_tests (line_with scale offset low high) up e ∙ ap (λ t. t && (leb (unsigned_abs (whole_at up offset)) limit && leb (reach low high * unsigned_abs (whole_at up scale) + unsigned_abs (whole_at up offset)) limit)) f) where
      by_test : (t : Bool) → leb (unsigned_abs (whole_at up scale)) limit ≡ t → t ≡ false
      by_test true g = absurd (large (leb-true _ _ g))
      by_test false g = refl

pub no_summand : (scale offset : Decimal) (low high : ℤ) (up : ℕ) → up ≡ common_up scale offset → (unsigned_abs (whole_at up offset) ≤ limit → ⊥) → None ≡ linear_of scale offset low high
no_summand scale offset low high up e large =
    none_of scale offset low high (is_tests (line_with scale offset low high) up e ∙ second_fails _ _ _ (by_test (leb (unsigned_abs (whole_at up offset)) limit) refl)) where
      by_test : (t : Bool) → leb (unsigned_abs (whole_at up offset)) limit ≡ t → t ≡ false
      by_test true g = absurd (large (leb-true _ _ g))
      by_test false g = refl

abbrev pub most : ℤ → ℤ → ℤ → ℤ → ℕ
most low high factor summand = reach low high * unsigned_abs factor + unsigned_abs summand

pub no_room : (scale offset : Decimal) (low high : ℤ) (up : ℕ) (factor summand : ℤ) → up ≡ common_up scale offset → factor ≡ whole_at up scale → summand ≡ whole_at up offset → leb (most low high factor summand) limit ≡ false → None ≡ linear_of scale offset low high
no_room scale offset low high up factor summand e f s large =
    let same : leb (most low high (whole_at up scale) (whole_at up offset)) limit ≡ false =
    ap (λ z. leb (most low high z (whole_at up offset)) limit) (sym f) ∙ ap (λ z. leb (most low high factor z) limit) (sym s) ∙ large in
    none_of scale offset low high (is_tests (line_with scale offset low high) up e ∙ third_fails _ _ _ same)

pub some_line : (scale offset : Decimal) (low high : ℤ) (up : ℕ) (factor summand : ℤ) → up ≡ common_up scale offset → factor ≡ whole_at up scale → summand ≡ whole_at up offset → unsigned_abs (whole_at up scale) ≤ limit → unsigned_abs (whole_at up offset) ≤ limit → leb (most low high factor summand) limit ≡ true → Some (line_with scale offset low high) ≡ linear_of scale offset low high
some_line scale offset low high up factor summand e f s small less room =
    let third : leb (most low high (whole_at up scale) (whole_at up offset)) limit ≡ true =
    ap (λ z. leb (most low high z (whole_at up offset)) limit) (sym f) ∙ ap (λ z. leb (most low high factor z) limit) (sym s) ∙ room in
    let all : tests (line_with scale offset low high) up ≡ true = rw (le-leb (unsigned_abs (whole_at up scale)) limit small, le-leb (unsigned_abs (whole_at up offset)) limit less) third in
    ap (λ (t : Bool). cond t (Some (line_with scale offset low high)) None) (sym (is_tests (line_with scale offset low high) up e ∙ all))

-- ---- a line that is kept

pub room_is : (t : Bool) (r : ℕ) (low low' high high' f f' s s' : ℤ) → low' ≡ low → high' ≡ high → f' ≡ f → s' ≡ s → r ≡ reach low' high' → t ≡ leb (r * unsigned_abs f' + unsigned_abs s') limit → t ≡ leb (most low high f s) limit
room_is t r low low' high high' f f' s s' el eh ef es er e =
    e ∙ ap (λ n. leb (n * unsigned_abs f' + unsigned_abs s') limit) (er ∙ ap (λ z. reach z high') el ∙ ap (reach low) eh)
    ∙ ap (λ z. leb (reach low high * unsigned_abs z + unsigned_abs s') limit) ef ∙ ap (λ z. leb (reach low high * unsigned_abs f + unsigned_abs z) limit) es

abbrev pub held : Decimal → Decimal → ℤ → ℤ → ℕ → ℤ → ℤ → Inside
held scale offset factor summand up low high = record { scale = scale; offset = offset; factor = factor; summand = summand; up = up; min = low; max = high }

pub same_held : (scale offset : Decimal) (up : ℕ) (low low' high high' f f' s s' : ℤ) → low' ≡ low → high' ≡ high → f' ≡ f → s' ≡ s → held scale offset f' s' up low' high' ≡ held scale offset f s up low high
same_held scale offset up low low' high high' f f' s s' el eh ef es =
    ap (λ z. held scale offset z s' up low' high') ef ∙ ap (λ z. held scale offset f z up low' high') es
    ∙ ap (λ z. held scale offset f s up z high') el ∙ ap (λ z. held scale offset f s up low z) eh

-- ---- the text of a line

common_least : (scale offset : Decimal) → ((scale.whole ≡ pos 0) ⊎ (common_up scale offset ≤ up_of scale)) × ((offset.whole ≡ pos 0) ⊎ (common_up scale offset ≤ up_of offset))
unfolding common_up
common_least scale offset = by_tests (is_zero scale) (is_zero offset) refl refl where
  by_tests : (a b : Bool) → is_zero scale ≡ a → is_zero offset ≡ b → (let up = cond (a && b) shift_limit (cond a (up_of offset) (cond b (up_of scale) (min (up_of scale) (up_of offset)))) in ((scale.whole ≡ pos 0) ⊎ (up ≤ up_of scale)) × ((offset.whole ≡ pos 0) ⊎ (up ≤ up_of offset)))
  by_tests true true a b = (inl (abs-zero scale.whole (eqb-true _ _ a)), inl (abs-zero offset.whole (eqb-true _ _ b)))
  by_tests true false a b = (inl (abs-zero scale.whole (eqb-true _ _ a)), inr (omega arith))
  by_tests false true a b = (inr (omega arith), inl (abs-zero offset.whole (eqb-true _ _ b)))
  by_tests false false a b = (inr (omega arith), inr (omega arith))

-- a decimal by its whole number at a shift
at_common : (d : Decimal) (up k : ℕ) → ((d.whole ≡ pos 0) ⊎ (up ≤ up_of d)) → d.whole *ℤ pos (10 ^ (up_of d + k)) ≡ whole_at up d *ℤ pos (10 ^ (up + k))
unfolding whole_at
at_common d up k (inl none) =
    let zero-left = zero-*ℤ (pos (10 ^ (up_of d + k))) in
    let zero-right = ap (λ z. (z *ℤ pos (10 ^ (up_of d - up))) *ℤ pos (10 ^ (up + k))) none ∙ ap (λ z. z *ℤ pos (10 ^ (up + k))) (zero-*ℤ (pos (10 ^ (up_of d - up)))) ∙ zero-*ℤ (pos (10 ^ (up + k))) in
    ap (λ z. z *ℤ pos (10 ^ (up_of d + k))) none ∙ zero-left ∙ sym zero-right
at_common d up k (inr low) =
    let sum : up_of d + k ≡ up_of d - up + (up + k) = omega arith in
    ap (λ n. d.whole *ℤ pos n) (ap (λ j. 10 ^ j) sum ∙ pow-add 10 (up_of d - up) (up + k)) ∙ sym (int-mul_assoc d.whole (pos (10 ^ (up_of d - up))) (10 ^ (up + k)))

combined_whole : (scale offset : Decimal) (raw : ℤ) (up : ℕ) (f s : ℤ) → up ≡ common_up scale offset → f ≡ whole_at up scale → s ≡ whole_at up offset → (combined (fraction_of scale) (fraction_of offset) raw).whole ≡ (raw *ℤ f +ℤ s) *ℤ pos (10 ^ (up + shift_limit))
combined_whole scale offset raw up f s e ef es =
    let least = common_least scale offset in
    let P : ℕ → Type 0 = λ n. ((scale.whole ≡ pos 0) ⊎ (n ≤ up_of scale)) × ((offset.whole ≡ pos 0) ⊎ (n ≤ up_of offset)) in
    let low : P up = subst P (sym e) least in
    let q = 10 ^ (up + shift_limit) in
    let first : (raw *ℤ scale.whole) *ℤ pos (10 ^ (up_of scale + shift_limit)) ≡ (raw *ℤ f) *ℤ pos q =
    int-mul_assoc raw scale.whole (10 ^ (up_of scale + shift_limit)) ∙ ap (λ z. raw *ℤ z) (at_common scale up shift_limit low.0 ∙ ap (λ z. z *ℤ pos q) (sym ef)) ∙ sym (int-mul_assoc raw f q) in
    let second : offset.whole *ℤ pos (10 ^ (up_of offset + shift_limit)) ≡ s *ℤ pos q = at_common offset up shift_limit low.1 ∙ ap (λ z. z *ℤ pos q) (sym es) in
    ap (λ z. z +ℤ offset.whole *ℤ pos (10 ^ (up_of offset + shift_limit))) first ∙ ap (λ z. (raw *ℤ f) *ℤ pos q +ℤ z) second ∙ sym (int-add-mul (raw *ℤ f) s q)

-- a number with a power of ten above and one below
scaled_text : (v w : ℤ) (up k : ℕ) → w ≡ v *ℤ pos (10 ^ (up + k)) → sign_text v ++ magnitude_text (unsigned_abs v * 10 ^ up) k ≡ sign_text w ++ magnitude_text (unsigned_abs w * 10 ^ 0) (k + k)
scaled_text v w up k e =
    let size : unsigned_abs w * 10 ^ 0 ≡ unsigned_abs v * 10 ^ up * 10 ^ k =
    mul-one (unsigned_abs w) ∙ ap unsigned_abs e ∙ unsigned_abs-mul v (pos (10 ^ (up + k))) ∙ sym (two_powers (unsigned_abs v) up k) in
    let sign : sign_text v ≡ sign_text w = sym (ap sign_text e ∙ sign_text-mul v (10 ^ (up + k)) (pow-pos (up + k))) in
    ap (λ (bs : List ℕ). bs ++ magnitude_text (unsigned_abs v * 10 ^ up) k) sign
    ∙ ap (λ (bs : List ℕ). sign_text w ++ bs) (sym (text_scaled (unsigned_abs v * 10 ^ up) k k) ∙ ap (λ n. magnitude_text n (k + k)) (sym size))

pub line_text : (scale offset : Decimal) (raw : ℤ) (up : ℕ) (f s : ℤ) → up ≡ common_up scale offset → f ≡ whole_at up scale → s ≡ whole_at up offset → sign_text (raw *ℤ f +ℤ s) ++ magnitude_text (unsigned_abs (raw *ℤ f +ℤ s) * 10 ^ up) shift_limit ≡ decimal_text (combined (fraction_of scale) (fraction_of offset) raw)
unfolding decimal_text
line_text scale offset raw up f s e ef es =
    scaled_text (raw *ℤ f +ℤ s) (combined (fraction_of scale) (fraction_of offset) raw).whole up shift_limit (combined_whole scale offset raw up f s e ef es)

-- few digits stand before the point
few_digits : (v w : ℤ) (up : ℕ) → w ≡ v *ℤ pos (10 ^ (up + shift_limit)) → unsigned_abs v ≤ limit → up ≤ 2 * shift_limit → unsigned_abs w * 10 ^ 0 / 10 ^ (shift_limit + shift_limit) < 10 ^ most_digits
few_digits v w up e within high =
    let size : unsigned_abs w * 10 ^ 0 ≡ unsigned_abs v * 10 ^ (up + shift_limit) =
    mul-one (unsigned_abs w) ∙ ap unsigned_abs e ∙ unsigned_abs-mul v (pos (10 ^ (up + shift_limit))) in
    let power : 10 ^ (up + shift_limit) ≤ 10 ^ 180 = pow-le (up + shift_limit) 180 (omega arith) in
    let product = mul-le-mul within power in
    let room : limit * 10 ^ 180 < 10 ^ most_digits * 10 ^ (shift_limit + shift_limit) = lit< tt in
    (div-lt_iff_lt-mul {k = 10 ^ (shift_limit + shift_limit)} {x = unsigned_abs w * 10 ^ 0} {y = 10 ^ most_digits} (lit< tt)).1 (omega arith)

pub line_read : (scale offset : Decimal) (raw : ℤ) (up : ℕ) (f s : ℤ) → up ≡ common_up scale offset → f ≡ whole_at up scale → s ≡ whole_at up offset → up ≤ 2 * shift_limit → unsigned_abs (raw *ℤ f +ℤ s) ≤ limit → (let x = combined (fraction_of scale) (fraction_of offset) raw in HasValue (decimal_text x) x)
line_read scale offset raw up f s e ef es high within =
    let x = combined (fraction_of scale) (fraction_of offset) raw in
    text_read x (few_digits (raw *ℤ f +ℤ s) x.whole up (combined_whole scale offset raw up f s e ef es) within high)
