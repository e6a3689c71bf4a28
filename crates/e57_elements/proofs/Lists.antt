-- Lists: one more at the end, and what holds of each.
use Rattle.std.proofs.Common.{◌≡◌, List, [], ◌∷◌, ◌++◌, refl, sym, ap, ◌∙◌}
use Rattle.std.specs.List.{AllByRecursion}

pub all-parts : {X : Type 0} (P : X → Type 0) (xs ys : List X) → AllByRecursion P (xs ++ ys) → AllByRecursion P xs × AllByRecursion P ys
all-parts P [] ys h = (tt, h)
all-parts P (x ∷ xs) ys h = let r = all-parts P xs ys h.1 in ((h.0, r.0), r.1)

pub snoc_some : {X : Type 0} (xs : List X) (x : X) → [] ≡ xs ++ x ∷ [] → ⊥
snoc_some [] x e = cc
snoc_some (y ∷ xs) x e = cc

cons_same : {X : Type 0} (x y : X) (xs ys : List X) → x ∷ xs ≡ y ∷ ys → (x ≡ y) × (xs ≡ ys)
cons_same x y xs ys e = (cc, cc)

pub snoc_same : {X : Type 0} (xs ys : List X) (x y : X) → xs ++ x ∷ [] ≡ ys ++ y ∷ [] → (xs ≡ ys) × (x ≡ y)
snoc_same [] [] x y e = (refl, (cons_same x y [] [] e).0)
snoc_same [] (b ∷ ys) x y e = absurd (snoc_some ys y (cons_same x b [] (ys ++ y ∷ []) e).1)
snoc_same (a ∷ xs) [] x y e = absurd (snoc_some xs x (sym (cons_same a y (xs ++ x ∷ []) [] e).1))
snoc_same (a ∷ xs) (b ∷ ys) x y e =
    let tails = cons_same a b (xs ++ x ∷ []) (ys ++ y ∷ []) e in
    let r = snoc_same xs ys x y tails.1 in
    (ap (λ c. c ∷ xs) tails.0 ∙ ap (λ zs. b ∷ zs) r.0, r.1)
