-- The front of a list that passes a test.
use Rattle.std.proofs.Common.{◌≡◌, ℕ, zero, suc, ◌+◌, ◌-◌, ◌*◌, ◌<◌, ◌≤◌, Bool, true, false, ◌&&◌, List, [], ◌∷◌, ◌++◌, length, get_or, take, drop, reverse, leb, refl, sym, ap, ◌∙◌, add-one, arith, ◌⊎◌, inl, inr}
use Rattle.std.specs.List.{list_all}
use Rattle.std.proofs.Math.Seq.{drop-cons, take-suc}
use Rattle.std.proofs.Math.ListN.{drop_of_length-le}
use Rattle.std.proofs.lemmas.List.{reverse-reverse, reverse-append}
use Rattle.std.proofs.lemmas.Bool.{leb-true}
use Rattle.e57_decimal.specs.Reading.{is_digit, run, after, number_after}

pub tested : (b : Bool) → (b ≡ true) ⊎ (b ≡ false)
tested true = inl refl
tested false = inr refl

-- a test holds up to n, and fails there
pub run_to : (p : ℕ → Bool) (xs : List ℕ) (n : ℕ) → n ≤ length xs → ((k : ℕ) → k < n → p (get_or xs k 0) ≡ true) → (n < length xs → p (get_or xs n 0) ≡ false) → (run p xs ≡ take n xs) × (after p xs ≡ drop n xs)
unfolding run after
run_to p [] zero le holds stops = (refl, refl)
run_to p [] (suc n) le holds stops = (refl, refl)
run_to p (x ∷ xs) zero le holds stops =
    let no : p x ≡ false = stops (omega arith) in
    (rw no refl, rw no refl)
run_to p (x ∷ xs) (suc n) le holds stops =
    let yes : p x ≡ true = holds 0 (omega arith) in
    let more = run_to p xs n (omega arith) (λ k lt. holds (suc k) (omega arith)) (λ lt. stops (omega arith)) in
    (rw yes (ap (λ (ys : List ℕ). x ∷ ys) more.0), rw yes more.1)

pub drop-number : (xs : List ℕ) (i : ℕ) → i < length xs → drop i xs ≡ get_or xs i 0 ∷ drop (i + 1) xs
drop-number xs i h = drop-cons xs i 0 h ∙ ap (λ k. get_or xs i 0 ∷ drop k xs) (sym (add-one i))

pub drop-all : (xs : List ℕ) (i : ℕ) → length xs ≤ i → drop i xs ≡ []
drop-all xs i h = drop_of_length-le xs h

after_first : (p : ℕ → Bool) (b : ℕ) (bs : List ℕ) → p b ≡ true → after p (b ∷ bs) ≡ after p bs
unfolding after
after_first p b bs e = rw e refl

after_none : (p : ℕ → Bool) (b : ℕ) (bs : List ℕ) → p b ≡ false → after p (b ∷ bs) ≡ b ∷ bs
unfolding after
after_none p b bs e = rw e refl

last_byte : (text : List ℕ) (k : ℕ) → k < length text → reverse (take (suc k) text) ≡ get_or text k 0 ∷ reverse (take k text)
last_byte text k h = ap reverse (take-suc text k 0 h) ∙ reverse-append (take k text) (get_or text k 0 ∷ [])

-- ---- the end of a list

pub back_more : (p : ℕ → Bool) (text : List ℕ) (end k : ℕ) → end ≡ suc k → end ≤ length text → p (get_or text k 0) ≡ true → after p (reverse (take k text)) ≡ after p (reverse (take end text))
back_more p text end k s h e = sym (ap (λ n. after p (reverse (take n text))) s ∙ ap (after p) (last_byte text k (omega arith)) ∙ after_first p (get_or text k 0) (reverse (take k text)) e)

pub back_stop : (p : ℕ → Bool) (text : List ℕ) (end k : ℕ) → end ≡ suc k → end ≤ length text → p (get_or text k 0) ≡ false → reverse (after p (reverse (take end text))) ≡ take end text
back_stop p text end k s h e =
    let last = ap (λ n. reverse (take n text)) s ∙ last_byte text k (omega arith) in
    ap (λ bs. reverse (after p bs)) last ∙ ap reverse (after_none p (get_or text k 0) (reverse (take k text)) e) ∙ ap reverse (sym last) ∙ reverse-reverse (take end text)

pub back_all : (p : ℕ → Bool) (text : List ℕ) → reverse (after p (reverse (take 0 text))) ≡ take 0 text
unfolding after
back_all p text = refl

-- ---- every byte

pub each_at : (p : ℕ → Bool) (xs : List ℕ) (i : ℕ) → list_all p xs ≡ true → i < length xs → p (get_or xs i 0) ≡ true
each_at p [] i e lt = absurd (omega arith)
each_at p (x ∷ xs) zero e lt = by_first (p x) e where
  by_first : (t : Bool) → (t && list_all p xs) ≡ true → t ≡ true
  by_first true e = refl
  by_first false e = e
each_at p (x ∷ xs) (suc i) e lt = each_at p xs i (by_first (p x) e) (omega arith) where
  by_first : (t : Bool) → (t && list_all p xs) ≡ true → list_all p xs ≡ true
  by_first true e = e
  by_first false e = absurd (cc)

pub run_each : (p : ℕ → Bool) (xs : List ℕ) → list_all p (run p xs) ≡ true
unfolding run
run_each p [] = refl
run_each p (x ∷ xs) =
    elim (tested (p x)) [
      | inl passes ↦ rw passes (rw passes (run_each p xs))
      | inr fails ↦ rw fails refl
    ]

-- ---- numbers

pub number_more : (n : ℕ) (text : List ℕ) (i : ℕ) → i < length text → number_after (n * 10 + (get_or text i 0 - 48)) (drop (i + 1) text) ≡ number_after n (drop i text)
unfolding number_after
number_more n text i h = rw (drop-number text i h) refl

pub number_end : (n : ℕ) (text : List ℕ) (i : ℕ) → length text ≤ i → number_after n (drop i text) ≡ n
unfolding number_after
number_end n text i h = rw (drop-all text i h) refl

pub digit_within : (b : ℕ) → is_digit b ≡ true → (48 ≤ b) × (b ≤ 57)
unfolding is_digit
digit_within b e = by_low (leb 48 b) refl e where
  by_high : (t : Bool) → leb b 57 ≡ t → t ≡ true → b ≤ 57
  by_high true h f = leb-true b 57 h
  by_high false h f = absurd (cc)

  by_low : (t : Bool) → leb 48 b ≡ t → (t && leb b 57) ≡ true → (48 ≤ b) × (b ≤ 57)
  by_low true h f = (leb-true 48 b h, by_high (leb b 57) refl f)
  by_low false h f = absurd (cc)

pub digit_at : (xs : List ℕ) (i : ℕ) → list_all is_digit xs ≡ true → i < length xs → (48 ≤ get_or xs i 0) × (get_or xs i 0 ≤ 57)
digit_at xs i e lt = digit_within (get_or xs i 0) (each_at is_digit xs i e lt)

pub each_drop : (p : ℕ → Bool) (xs : List ℕ) (k : ℕ) → list_all p xs ≡ true → list_all p (drop k xs) ≡ true
each_drop p xs zero e = e
each_drop p [] (suc k) e = refl
each_drop p (x ∷ xs) (suc k) e = each_drop p xs k (by_first (p x) e) where
  by_first : (t : Bool) → (t && list_all p xs) ≡ true → list_all p xs ≡ true
  by_first true e = e
  by_first false e = absurd (cc)

pub number-append : (n : ℕ) (xs ys : List ℕ) → number_after n (xs ++ ys) ≡ number_after (number_after n xs) ys
unfolding number_after
number-append n [] ys = refl
number-append n (x ∷ xs) ys = number-append (n * 10 + (x - 48)) xs ys
