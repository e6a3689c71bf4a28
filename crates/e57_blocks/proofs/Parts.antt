-- Lists by place.
use Rattle.std.specs.Prelude.{◌≡◌, ℕ, zero, suc, ◌+◌, ◌<◌, List, [], ◌∷◌, ◌++◌, map, length, take, get_or}
use Rattle.std.specs.List.{AllByRecursion}
use Rattle.std.proofs.Common.{set, refl, ap, ◌∙◌, arith}
use Rattle.std.proofs.lemmas.List.{map-append, take_more}

pub all_at : {X : Type 0} (P : X → Type 0) (xs : List X) (k : ℕ) (d : X) → k < length xs → AllByRecursion P xs → P (get_or xs k d)
all_at P [] k d below all = absurd (omega arith)
all_at P (x ∷ xs) zero d below all = all.0
all_at P (x ∷ xs) (suc k) d below all = all_at P xs k d (omega arith) all.1

pub all_front : {X : Type 0} (P : X → Type 0) (k : ℕ) (xs : List X) → AllByRecursion P xs → AllByRecursion P (take k xs)
all_front P zero xs all = tt
all_front P (suc k) [] all = tt
all_front P (suc k) (x ∷ xs) all = (all.0, all_front P k xs all.1)

pub all_set : {X : Type 0} (P : X → Type 0) (xs : List X) (k : ℕ) (y : X) → AllByRecursion P xs → P y → AllByRecursion P (set xs k y)
all_set P [] k y all is = tt
all_set P (x ∷ xs) zero y all is = (is, all.1)
all_set P (x ∷ xs) (suc k) y all is = (all.0, all_set P xs k y all.1 is)

pub map_set : {X Y : Type 0} (f : X → Y) (xs : List X) (k : ℕ) (d y : X) → k < length xs → f y ≡ f (get_or xs k d) → map f (set xs k y) ≡ map f xs
map_set f [] k d y below same = refl
map_set f (x ∷ xs) zero d y below same = ap (λ z. z ∷ map f xs) same
map_set f (x ∷ xs) (suc k) d y below same = ap (λ zs. f x ∷ zs) (map_set f xs k d y (omega arith) same)

-- one more is looked at
pub map_more : {X Y : Type 0} (f : X → Y) (xs : List X) (k : ℕ) (d : X) → k < length xs → map f (take (k + 1) xs) ≡ map f (take k xs) ++ f (get_or xs k d) ∷ []
map_more f xs k d below = ap (map f) (take_more xs k d below) ∙ map-append f (take k xs) (get_or xs k d ∷ [])
