-- Lists that are made from the numbers of their items.
use Rattle.std.proofs.Common.{◌≡◌, ℕ, zero, suc, ◌+◌, ◌-◌, ◌≤◌, min, List, [], ◌∷◌, ◌++◌, length, map, take, drop, refl, sym, ap, ◌∙◌, arith}
use Rattle.std.specs.List.{flat_map, range_with_len}
use Rattle.std.proofs.lemmas.List.{append-nil, length-append}
use Rattle.std.proofs.lemmas.List.Concat.{flat_map-append}
use Rattle.std.proofs.lemmas.List.FromFn.{map-range_with_len_more}

-- n items from item a on
abbrev pub made : {X : Type 0} → (ℕ → X) → ℕ → ℕ → List X
made f a n = map f (range_with_len a n)

pub made_same : {X : Type 0} (f g : ℕ → X) (a n : ℕ) → ((k : ℕ) → f k ≡ g k) → made f a n ≡ made g a n
made_same f g a zero same = refl
made_same f g a (suc n) same = ap (λ x. x ∷ made f (a + 1) n) (same a) ∙ ap (λ xs. g a ∷ xs) (made_same f g (a + 1) n same)

pub drop-made : {X : Type 0} (f : ℕ → X) (a n k : ℕ) → drop k (made f a n) ≡ made f (a + k) (n - k)
drop-made f a n zero =
    let place : a ≡ a + 0 = omega arith in
    let count : n ≡ n - 0 = omega arith in
    ap (λ i. made f i n) place ∙ ap (λ i. made f (a + 0) i) count
drop-made f a zero (suc k) =
    let none : zero ≡ zero - suc k = omega arith in
    ap (λ i. made f (a + suc k) i) none
drop-made f a (suc n) (suc k) =
    let place : a + 1 + k ≡ a + suc k = omega arith in
    let count : n - k ≡ suc n - suc k = omega arith in
    drop-made f (a + 1) n k ∙ ap (λ i. made f i (n - k)) place ∙ ap (λ i. made f (a + suc k) i) count

pub take-made : {X : Type 0} (f : ℕ → X) (a n k : ℕ) → take k (made f a n) ≡ made f a (min k n)
take-made f a n zero = let none : zero ≡ min zero n = omega arith in ap (λ i. made f a i) none
take-made f a zero (suc k) = let none : zero ≡ min (suc k) zero = omega arith in ap (λ i. made f a i) none
take-made f a (suc n) (suc k) =
    let count : suc (min k n) ≡ min (suc k) (suc n) = omega arith in
    ap (λ xs. f a ∷ xs) (take-made f (a + 1) n k) ∙ ap (λ i. made f a i) count

-- one more piece
pub flat_map-made_more : {X : Type 0} (h : X → List ℕ) (f : ℕ → X) (a n j : ℕ) → a + n ≡ j → flat_map h (made f a (n + 1)) ≡ flat_map h (made f a n) ++ h (f j)
flat_map-made_more h f a n j is =
    ap (flat_map h) (map-range_with_len_more f a n j is)
    ∙ flat_map-append h (made f a n) (f j ∷ [])
    ∙ ap (λ (xs : List ℕ). flat_map h (made f a n) ++ xs) (append-nil (h (f j)))

-- the pieces before one, and it, are no more than all
pub flat_map-made_within : {X : Type 0} (h : X → List ℕ) (f : ℕ → X) (a n k j : ℕ) → a + k ≡ j → k + 1 ≤ n → length (flat_map h (made f a k)) + length (h (f j)) ≤ length (flat_map h (made f a n))
flat_map-made_within h f a n k j is within =
    let one : length (flat_map h (made f a (k + 1))) ≡ length (flat_map h (made f a k)) + length (h (f j)) = ap length (flat_map-made_more h f a k j is) ∙ length-append (flat_map h (made f a k)) (h (f j)) in
    let all = front_within h f (k + 1) a n within in
    omega arith
  where
    front_within : {X : Type 0} (h : X → List ℕ) (f : ℕ → X) (k a n : ℕ) → k ≤ n → length (flat_map h (made f a k)) ≤ length (flat_map h (made f a n))
    front_within h f zero a n le = omega arith
    front_within h f (suc k) a zero le = absurd (omega arith)
    front_within h f (suc k) a (suc n) le =
        let later = front_within h f k (a + 1) n (omega arith) in
        omega (arith, length-append (h (f a)) (flat_map h (made f (a + 1) k)), length-append (h (f a)) (flat_map h (made f (a + 1) n)))
