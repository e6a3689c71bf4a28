-- Lists: by place, joined, and what holds of each item.
use Rattle.std.proofs.Common.{◌≡◌, ℕ, zero, suc, ◌+◌, ◌<◌, List, [], ◌∷◌, ◌++◌, length, drop, Some, slice_get, sym, ap, ◌∙◌, arith, add-one}
use Rattle.std.specs.List.{AllByRecursion}
use Rattle.std.proofs.lemmas.Option.{slice_get_within}
use Rattle.std.proofs.Math.Seq.{drop-cons}

-- what holds of the items of both lists holds of those of the joined list
pub all_append : {X : Type 0} (P : X → Type 0) (xs ys : List X) → AllByRecursion P xs → AllByRecursion P ys → AllByRecursion P (xs ++ ys)
all_append P [] ys f g = g
all_append P (x ∷ xs) ys f g = (f.0, all_append P xs ys f.1 g)

pub all_map : {X : Type 0} (P Q : X → Type 0) (xs : List X) → ((x : X) → P x → Q x) → AllByRecursion P xs → AllByRecursion Q xs
all_map P Q [] f all = tt
all_map P Q (x ∷ xs) f all = (f x all.0, all_map P Q xs f all.1)

-- x stands at place k, and these follow
pub record StandsAt {X : Type 0} (xs : List X) (k : ℕ) (x : X) (ys : List X) : Type 0 where
  pub there : k < length xs
  pub got : slice_get xs k ≡ Some x
  pub after : drop (k + 1) xs ≡ ys

pub same_head : {X : Type 0} (x y : X) (xs ys : List X) → ◌≡◌ {A = List X} (x ∷ xs) (y ∷ ys) → (x ≡ y) × (xs ≡ ys)
same_head x y xs ys e = (cc, cc)

later : {X : Type 0} (xs : List X) (k : ℕ) (x : X) (ys : List X) (z : X) → StandsAt xs k x ys → StandsAt (z ∷ xs) (suc k) x ys
later xs k x ys z h =
    let there = h.there in
    record {
      there = omega arith;
      got = h.got;
      after = ap (λ n. drop n (z ∷ xs)) (add-one (suc k)) ∙ ap (λ n. drop n xs) (sym (add-one k)) ∙ h.after;
    }

pub stands_at : {X : Type 0} (xs : List X) (k : ℕ) (x : X) (ys : List X) → drop k xs ≡ x ∷ ys → StandsAt xs k x ys
stands_at [] zero x ys e = absurd cc
stands_at [] (suc k) x ys e = absurd cc
stands_at (z ∷ zs) zero x ys e = let both = same_head z x zs ys e in record { there = omega arith; got = ap (λ y. Some y) both.0; after = both.1 }
stands_at (z ∷ zs) (suc k) x ys e = later zs k x ys z (stands_at zs k x ys e)

-- what stands at a place is the first of what is left there
pub first_left : {X : Type 0} (xs : List X) (k : ℕ) (x y : X) (ys : List X) → slice_get xs k ≡ Some x → drop k xs ≡ y ∷ ys → x ≡ y
first_left {X} xs k x y ys got left = same x y (sym got ∙ (stands_at xs k y ys left).got) where
  same : (a b : X) → ◌≡◌ (Some a) (Some b) → a ≡ b
  same a b e = cc

pub none_left : {X : Type 0} (xs : List X) (k : ℕ) (x : X) → slice_get xs k ≡ Some x → drop k xs ≡ [] → ⊥
none_left xs k x got left =
    let here = drop-cons xs k x (slice_get_within xs k x got) in
    empty x _ _ (sym here ∙ left) where
      empty : {X : Type 0} (x y : X) (ys : List X) → ◌≡◌ {A = List X} (y ∷ ys) [] → ⊥
      empty x y ys e = cc
