-- The digits behind the point.
use Rattle.std.proofs.Common.{◌≡◌, ℕ, zero, suc, ◌+◌, ◌*◌, ◌/◌, ◌%◌, ◌^◌, ◌<◌, ◌≢◌, inl, inr, List, [], ◌∷◌, ◌++◌, refl, sym, ap, ◌∙◌, append_assoc, arith}
use Rattle.std.proofs.lemmas.List.{append-nil}
use Rattle.std.proofs.lemmas.Bool.{ne_eqb, eq-eqb}
use Rattle.std.proofs.Math.Nat.{eq-zero-or-pos, mod-lt, div-lt_iff_lt-mul, pow-suc, mul-div-mul_right, div-add-mod', mul_assoc}
use Rattle.e57_decimal.specs.Writing.{places_of, point_text}
use Rattle.e57_decimal.proofs.Tens.{pow-pos, pow-next}

pub places_none : (k r : ℕ) → r ≡ 0 → places_of k r ≡ []
unfolding places_of
places_none zero r e = refl
places_none (suc k) r e = rw (eq-eqb r 0 e) refl

pub places_step : (k r : ℕ) → r ≢ 0 → places_of (suc k) r ≡ (48 + r / 10 ^ k) ∷ places_of k (r % 10 ^ k)
unfolding places_of
places_step k r some = rw (ne_eqb r 0 some) refl

pub point_none : (k r : ℕ) → r ≡ 0 → point_text k r ≡ []
unfolding point_text
point_none k r e = rw (eq-eqb r 0 e) refl

pub point_some : (k r : ℕ) → r ≢ 0 → point_text k r ≡ 46 ∷ places_of k r
unfolding point_text
point_some k r some = rw (ne_eqb r 0 some) refl

-- the first digit of a number with k + 1 of them
pub first_small : (k r : ℕ) → r < 10 ^ (k + 1) → r / 10 ^ k < 10
first_small k r h = (div-lt_iff_lt-mul (pow-pos k)).1 (let e = pow-next k in omega arith)

pub rest_below : (k r : ℕ) → r % 10 ^ k < 10 ^ k
rest_below k r = mod-lt r (pow-pos k)

-- a rest of ten times the numbers
pub mod-tens : (n p : ℕ) → 0 < p → n * 10 % (p * 10) ≡ n % p * 10
mod-tens n p some =
    let quotient : n * 10 / (p * 10) ≡ n / p = mul-div-mul_right n p (omega arith) in
    let whole = div-add-mod' n p in
    let tens = div-add-mod' (n * 10) (p * 10) in
    let same = ap (λ q. q * (p * 10)) quotient in
    let product = mul_assoc (n / p) p 10 in
    omega arith

-- a number below ten times the power, from its last digits
tens_by : (d r : ℕ) → places_of (suc d) (r % 10 ^ d * 10) ≡ places_of d (r % 10 ^ d) → places_of (suc (suc d)) (r * 10) ≡ places_of (suc d) r
tens_by d r last =
    elim (eq-zero-or-pos r) [
      | inl none ↦ places_none (suc (suc d)) (r * 10) (omega arith) ∙ sym (places_none (suc d) r none)
      | inr some ↦
          let power : 10 ^ suc d ≡ 10 ^ d * 10 = pow-suc 10 d in
          let head : r * 10 / 10 ^ suc d ≡ r / 10 ^ d = ap (λ p. r * 10 / p) power ∙ mul-div-mul_right r (10 ^ d) (omega arith) in
          let tail : r * 10 % 10 ^ suc d ≡ r % 10 ^ d * 10 = ap (λ p. r * 10 % p) power ∙ mod-tens r (10 ^ d) (pow-pos d) in
          places_step (suc d) (r * 10) (λ e. absurd (omega arith))
          ∙ ap (λ n. (48 + n) ∷ places_of (suc d) (r * 10 % 10 ^ suc d)) head
          ∙ ap (λ n. (48 + r / 10 ^ d) ∷ places_of (suc d) n) tail
          ∙ ap (λ (bs : List ℕ). (48 + r / 10 ^ d) ∷ bs) last
          ∙ sym (places_step d r (λ e. absurd (omega arith)))
    ]

pub places_tens : (d r : ℕ) → r < 10 ^ d → places_of (suc d) (r * 10) ≡ places_of d r
places_tens zero r low = places_none 1 (r * 10) (omega arith) ∙ sym (places_none 0 r (omega arith))
places_tens (suc d) r low = tens_by d r (places_tens d (r % 10 ^ d) (rest_below d r))

pub places_end : (k r : ℕ) → k ≡ 0 → places_of k r ≡ []
unfolding places_of
places_end zero r e = refl
places_end (suc k) r e = absurd (omega arith)

-- one digit is put
pub places_put : (text more : List ℕ) (left k r digit rest : ℕ) → left ≡ suc k → r ≢ 0 → digit ≡ r / 10 ^ k → rest ≡ r % 10 ^ k → more ≡ text ++ ((48 + digit) ∷ []) → more ++ places_of k rest ≡ text ++ places_of left r
places_put text more left k r digit rest l some d e m =
    ap (λ (bs : List ℕ). bs ++ places_of k rest) m ∙ append_assoc text ((48 + digit) ∷ []) (places_of k rest)
    ∙ ap (λ n. text ++ ((48 + n) ∷ places_of k rest)) d ∙ ap (λ n. text ++ ((48 + r / 10 ^ k) ∷ places_of k n)) e
    ∙ ap (λ (bs : List ℕ). text ++ bs) (sym (places_step k r some)) ∙ ap (λ n. text ++ places_of n r) (sym l)

-- nothing is left to put
pub done_text : (text rest old : List ℕ) → rest ≡ [] → text ++ rest ≡ old → text ≡ old
done_text text rest old e h = sym (append-nil text) ∙ ap (λ (bs : List ℕ). text ++ bs) (sym e) ∙ h
