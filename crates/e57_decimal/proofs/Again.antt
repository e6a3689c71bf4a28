-- The text of a value is read as this value.
use Rattle.std.proofs.Common.{◌≡◌, ℕ, zero, suc, ◌+◌, ◌-◌, ◌*◌, ◌/◌, ◌%◌, ◌^◌, ◌<◌, ◌≢◌, ◌⊎◌, inl, inr, Bool, true, false, ◌&&◌, cond, not, leb, List, [], ◌∷◌, ◌++◌, length, reverse, refl, sym, ap, ◌∙◌, add-one, arith, length-append}
use Rattle.std.specs.List.{list_all}
use Rattle.std.proofs.lemmas.List.{reverse-append, reverse-reverse}
use Rattle.std.proofs.lemmas.List.Folds.{list_all-append}
use Rattle.std.proofs.lemmas.Bool.{le-leb, leb-true, leb-false}
use Rattle.std.proofs.Math.Nat.{eq-zero-or-pos, mul_assoc, pow-suc, mod-lt, div-add-mod', div-lt_iff_lt-mul}
use Rattle.e57_decimal.specs.Reading.{is_space, is_digit, run, after, trimmed, number_after}
use Rattle.e57_decimal.specs.Writing.{whole_digits, places_of}
use Rattle.e57_decimal.proofs.Fronts.{number-append}
use Rattle.e57_decimal.proofs.Places.{places_none, places_step, first_small, rest_below}
use Rattle.e57_decimal.proofs.Wholes.{one_digit, more_digits}

-- ---- digits

pub both_true : (a b : Bool) → a ≡ true → b ≡ true → (a && b) ≡ true
both_true true b p q = q
both_true false b p q = p

pub is_digit-digit : (d : ℕ) → d < 10 → is_digit (48 + d) ≡ true
unfolding is_digit
is_digit-digit d h = both_true (leb 48 (48 + d)) (leb (48 + d) 57) (le-leb 48 (48 + d) (omega arith)) (le-leb (48 + d) 57 (omega arith))

digit-last : (n : ℕ) → n % 10 < 10
digit-last n = mod-lt n (omega arith)

digits_none : (n : ℕ) → whole_digits 0 n ≡ []
unfolding whole_digits
digits_none n = refl

number_none : (n : ℕ) → number_after n [] ≡ n
unfolding number_after
number_none n = refl

number_one : (m d : ℕ) → number_after m ((48 + d) ∷ []) ≡ m * 10 + d
unfolding number_after
number_one m d = omega arith

pub whole_are_digits : (k n : ℕ) → list_all is_digit (whole_digits k n) ≡ true
whole_are_digits zero n = ap (list_all is_digit) (digits_none n)
whole_are_digits (suc k) n = by_size (leb 10 n) refl (whole_are_digits k (n / 10)) where
  by_size : (t : Bool) → leb 10 n ≡ t → list_all is_digit (whole_digits k (n / 10)) ≡ true → list_all is_digit (whole_digits (suc k) n) ≡ true
  by_size true e front =
      ap (list_all is_digit) (more_digits k n (leb-true 10 n e)) ∙ list_all-append is_digit (whole_digits k (n / 10)) ((48 + n % 10) ∷ [])
      ∙ both_true _ _ front (both_true (is_digit (48 + n % 10)) true (is_digit-digit (n % 10) (digit-last n)) refl)
  by_size false e front =
      let low : n < 10 = leb-false 10 n e in
      ap (list_all is_digit) (one_digit k n low) ∙ both_true (is_digit (48 + n)) true (is_digit-digit n low) refl

pub places_are_digits : (k r : ℕ) → r < 10 ^ k → list_all is_digit (places_of k r) ≡ true
places_are_digits zero r low = ap (list_all is_digit) (places_none 0 r (omega arith))
places_are_digits (suc k) r low = by_rest (eq-zero-or-pos r) (places_are_digits k (r % 10 ^ k) (rest_below k r)) where
  by_rest : (r ≡ 0) ⊎ (0 < r) → list_all is_digit (places_of k (r % 10 ^ k)) ≡ true → list_all is_digit (places_of (suc k) r) ≡ true
  by_rest (inl none) more = ap (list_all is_digit) (places_none (suc k) r none)
  by_rest (inr some) more =
      let small = first_small k r (let e : 10 ^ (k + 1) ≡ 10 ^ suc k = ap (λ j. 10 ^ j) (add-one k) in omega arith) in
      ap (list_all is_digit) (places_step k r (λ e. absurd (omega arith)))
      ∙ both_true (is_digit (48 + r / 10 ^ k)) (list_all is_digit (places_of k (r % 10 ^ k))) (is_digit-digit (r / 10 ^ k) small) more

-- ---- the numbers that digits write

pub whole_number : (k n : ℕ) → n < 10 ^ k → number_after 0 (whole_digits k n) ≡ n
whole_number zero n low = ap (number_after 0) (digits_none n) ∙ number_none 0 ∙ (let z : 0 ≡ n = omega arith in z)
whole_number (suc k) n low = by_size (leb 10 n) refl (whole_number k (n / 10)) where
  by_size : (t : Bool) → leb 10 n ≡ t → (n / 10 < 10 ^ k → number_after 0 (whole_digits k (n / 10)) ≡ n / 10) → number_after 0 (whole_digits (suc k) n) ≡ n
  by_size true e front =
      let power : 10 ^ suc k ≡ 10 ^ k * 10 = pow-suc 10 k in
      let less : n / 10 < 10 ^ k = (div-lt_iff_lt-mul {k = 10} {x = n} {y = 10 ^ k} (omega arith)).1 (omega arith) in
      ap (number_after 0) (more_digits k n (leb-true 10 n e)) ∙ number-append 0 (whole_digits k (n / 10)) ((48 + n % 10) ∷ [])
      ∙ ap (λ m. number_after m ((48 + n % 10) ∷ [])) (front less) ∙ number_one (n / 10) (n % 10) ∙ div-add-mod' n 10
  by_size false e front = ap (number_after 0) (one_digit k n (leb-false 10 n e)) ∙ number_one 0 n ∙ (let z : 0 * 10 + n ≡ n = omega arith in z)

without : (k m r : ℕ) → r ≡ 0 → number_after m (places_of k r) * 10 ^ k ≡ (m * 10 ^ k + r) * 10 ^ length (places_of k r)
without k m r none =
    let same : number_after m [] * 10 ^ k ≡ (m * 10 ^ k + r) * 10 ^ 0 = ap (λ n. n * 10 ^ k) (number_none m) ∙ (let z : m * 10 ^ k ≡ (m * 10 ^ k + r) * 10 ^ 0 = omega arith in z) in
    rw (places_none k r none) same

by_first : (k m r : ℕ) → r ≢ 0 → number_after (m * 10 + (48 + r / 10 ^ k - 48)) (places_of k (r % 10 ^ k)) * 10 ^ k ≡ ((m * 10 + (48 + r / 10 ^ k - 48)) * 10 ^ k + r % 10 ^ k) * 10 ^ length (places_of k (r % 10 ^ k)) → number_after m (places_of (suc k) r) * 10 ^ suc k ≡ (m * 10 ^ suc k + r) * 10 ^ length (places_of (suc k) r)
unfolding number_after
by_first k m r some more = rw (places_step k r some) (by_powers (m * 10 + (48 + r / 10 ^ k - 48)) (number_after (m * 10 + (48 + r / 10 ^ k - 48)) (places_of k (r % 10 ^ k))) (r / 10 ^ k) (r % 10 ^ k) (length (places_of k (r % 10 ^ k))) (omega arith) (div-add-mod' r (10 ^ k)) more) where
  by_powers : (front n e rest len : ℕ) → front ≡ m * 10 + e → e * 10 ^ k + rest ≡ r → n * 10 ^ k ≡ (front * 10 ^ k + rest) * 10 ^ len → n * 10 ^ suc k ≡ (m * 10 ^ suc k + r) * 10 ^ suc len
  by_powers front n e rest len f whole more =
      let left : n * 10 ^ suc k ≡ n * 10 ^ k * 10 = ap (λ p. n * p) (pow-suc 10 k) ∙ sym (mul_assoc n (10 ^ k) 10) in
      let middle : front * 10 ^ k + rest ≡ m * 10 ^ suc k + r = omega (arith, ap (λ p. m * p) (pow-suc 10 k), ap (λ p. p * 10 ^ k) f) in
      let right : (front * 10 ^ k + rest) * 10 ^ len * 10 ≡ (front * 10 ^ k + rest) * 10 ^ suc len = mul_assoc (front * 10 ^ k + rest) (10 ^ len) 10 ∙ ap (λ p. (front * 10 ^ k + rest) * p) (sym (pow-suc 10 len)) in
      left ∙ ap (λ p. p * 10) more ∙ right ∙ ap (λ p. p * 10 ^ suc len) middle

-- what is behind the point, by its places
pub places_number : (k m r : ℕ) → r < 10 ^ k → number_after m (places_of k r) * 10 ^ k ≡ (m * 10 ^ k + r) * 10 ^ length (places_of k r)
places_number zero m r low = without 0 m r (omega arith)
places_number (suc k) m r low =
    elim (eq-zero-or-pos r) [
      | inl none ↦ without (suc k) m r none
      | inr some ↦ by_first k m r (λ e. absurd (omega arith)) (places_number k (m * 10 + (48 + r / 10 ^ k - 48)) (r % 10 ^ k) (rest_below k r))
    ]

-- ---- what stands in front

clear_after : (p : ℕ → Bool) (xs : List ℕ) → list_all (λ b. not (p b)) xs ≡ true → after p xs ≡ xs
unfolding after
clear_after p [] e = refl
clear_after p (x ∷ xs) e = by_first (p x) refl where
  by_first : (t : Bool) → p x ≡ t → cond t (after p xs) (x ∷ xs) ≡ x ∷ xs
  by_first true f = absurd (let g : (not true && list_all (λ b. not (p b)) xs) ≡ true = ap (λ t. not t && list_all (λ b. not (p b)) xs) (sym f) ∙ e in cc)
  by_first false f = refl

all_reverse : (p : ℕ → Bool) (xs : List ℕ) → list_all p xs ≡ true → list_all p (reverse xs) ≡ true
all_reverse p [] e = refl
all_reverse p (x ∷ xs) e =
    ap (list_all p) (reverse-append (x ∷ []) xs) ∙ list_all-append p (reverse xs) (x ∷ [])
    ∙ both_true _ _ (all_reverse p xs (by_rest (p x) e)) (both_true (p x) true (by_head (p x) e) refl) where
      by_rest : (t : Bool) → (t && list_all p xs) ≡ true → list_all p xs ≡ true
      by_rest true e = e
      by_rest false e = absurd (cc)

      by_head : (t : Bool) → (t && list_all p xs) ≡ true → t ≡ true
      by_head true e = refl
      by_head false e = e

pub clear_trimmed : (text : List ℕ) → list_all (λ b. not (is_space b)) text ≡ true → trimmed text ≡ text
unfolding trimmed
clear_trimmed text clear =
    ap (λ (bs : List ℕ). reverse (after is_space (reverse bs))) (clear_after is_space text clear)
    ∙ ap reverse (clear_after is_space (reverse text) (all_reverse (λ b. not (is_space b)) text clear)) ∙ reverse-reverse text

-- digits are followed by nothing that is one
pub run_front : (front rest : List ℕ) → list_all is_digit front ≡ true → (run is_digit rest ≡ []) × (after is_digit rest ≡ rest) → (run is_digit (front ++ rest) ≡ front) × (after is_digit (front ++ rest) ≡ rest)
unfolding run after
run_front [] rest e stops = stops
run_front (x ∷ xs) rest e stops =
    let more = run_front xs rest (by_rest (is_digit x) e) stops in
    let one : is_digit x ≡ true = by_head (is_digit x) e in
    (rw one (ap (λ (bs : List ℕ). x ∷ bs) more.0), rw one more.1) where
      by_rest : (t : Bool) → (t && list_all is_digit xs) ≡ true → list_all is_digit xs ≡ true
      by_rest true e = e
      by_rest false e = absurd (cc)

      by_head : (t : Bool) → (t && list_all is_digit xs) ≡ true → t ≡ true
      by_head true e = refl
      by_head false e = e

pub some_digits : (k n : ℕ) → 0 < length (whole_digits (suc k) n)
some_digits k n = by_size (leb 10 n) refl where
  by_size : (t : Bool) → leb 10 n ≡ t → 0 < length (whole_digits (suc k) n)
  by_size true e =
      let size = ap length (more_digits k n (leb-true 10 n e)) ∙ length-append (whole_digits k (n / 10)) ((48 + n % 10) ∷ []) in
      omega arith
  by_size false e = let size = ap length (one_digit k n (leb-false 10 n e)) in omega arith
