-- The names of attributes from the last one on, as a set that grows.
use Rattle.std.proofs.Common.{◌≡◌, ℕ, zero, suc, ◌+◌, ◌<◌, Bool, true, false, cond, eqb, List, [], ◌∷◌, length, drop, Some, refl, sym, ap, ◌∙◌, ◌||◌, ◌&&◌, not, nat_cmp, arith}
use Rattle.std.specs.List.{list_any, slice_get}
use Rattle.std.specs.Ordering.{is_eq}
use Rattle.std.specs.Str.{bytes_eq}
use Rattle.std.specs.Cmp.Lexicographic.{slice_cmp}
use Rattle.std.proofs.lemmas.Bool.{eqb-true, eq-eqb}
use Rattle.std.proofs.lemmas.List.{drop_more}
use Rattle.std.proofs.lemmas.Option.{get_or_from_slice_get}
use Rattle.std.proofs.lemmas.Map.Text.{is_eq-slice_cmp}
use Rattle.e57_pieces.specs.declared.piece.Attr.{Attr}
use Rattle.e57_pieces.specs.Grammar.{differ}

pub from_here : (attrs : List Attr) (i : ℕ) (a : Attr) → i < length attrs → slice_get attrs i ≡ Some a → drop i attrs ≡ a ∷ drop (i + 1) attrs
from_here attrs i a lt got = drop_more attrs i a lt ∙ ap (λ (x : Attr). x ∷ drop (i + 1) attrs) (get_or_from_slice_get attrs i a a got)

same_truth : (b c : Bool) → (b ≡ true → c ≡ true) → (c ≡ true → b ≡ true) → b ≡ c
same_truth true c f g = sym (f refl)
same_truth false true f g = g refl
same_truth false false f g = refl

eqb_comm : (a b : ℕ) → eqb a b ≡ eqb b a
eqb_comm a b = same_truth (eqb a b) (eqb b a) (λ e. eq-eqb b a (sym (eqb-true a b e))) (λ e. eq-eqb a b (sym (eqb-true b a e)))

bytes_eq_comm : (xs ys : List ℕ) → bytes_eq xs ys ≡ bytes_eq ys xs
bytes_eq_comm [] [] = refl
bytes_eq_comm [] (y ∷ ys) = refl
bytes_eq_comm (x ∷ xs) [] = refl
bytes_eq_comm (x ∷ xs) (y ∷ ys) = rw (eqb_comm x y, bytes_eq_comm xs ys) refl

or_is : (b x : Bool) → cond b true x ≡ b || x
or_is true x = refl
or_is false x = refl

pub told_more : (key q : List ℕ) (attrs : List Attr) (i k : ℕ) (a : Attr) (old new : Bool) → i < length attrs → k ≡ i + 1 → slice_get attrs i ≡ Some a → key ≡ a.name
    → old ≡ list_any (λ (o : Attr). bytes_eq q o.name) (drop k attrs) → new ≡ cond (is_eq (slice_cmp nat_cmp key q)) true old → new ≡ list_any (λ (o : Attr). bytes_eq q o.name) (drop i attrs)
told_more key q attrs i k a old new lt next got is was now =
    let at : drop i attrs ≡ a ∷ drop k attrs = rw next (from_here attrs i a lt got) in
    let flip : is_eq (slice_cmp nat_cmp key q) ≡ bytes_eq q a.name = is_eq-slice_cmp key q ∙ ap (λ (n : List ℕ). bytes_eq n q) is ∙ bytes_eq_comm a.name q in
    now ∙ rw (flip, at, was) (or_is (bytes_eq q a.name) (list_any (λ (o : Attr). bytes_eq q o.name) (drop k attrs)))

differ_later : (attrs : List Attr) (n : ℕ) → differ (drop n attrs) ≡ false → differ attrs ≡ false
differ_later attrs zero e = e
differ_later [] (suc n) e = e
differ_later (a ∷ attrs) (suc n) e = rw (differ_later attrs n e) (and_false (not (list_any (λ (o : Attr). bytes_eq a.name o.name) attrs))) where
  and_false : (b : Bool) → (b && false) ≡ false
  and_false true = refl
  and_false false = refl

pub repeated : (attrs : List Attr) (i k : ℕ) (a : Attr) → i < length attrs → k ≡ i + 1 → slice_get attrs i ≡ Some a → list_any (λ (o : Attr). bytes_eq a.name o.name) (drop k attrs) ≡ true → false ≡ differ attrs
repeated attrs i k a lt next got there =
    let at : drop i attrs ≡ a ∷ drop k attrs = rw next (from_here attrs i a lt got) in
    sym (differ_later attrs i (rw (at, there) refl))

pub differ_more : (attrs : List Attr) (i k : ℕ) (a : Attr) → i < length attrs → k ≡ i + 1 → slice_get attrs i ≡ Some a → list_any (λ (o : Attr). bytes_eq a.name o.name) (drop k attrs) ≡ false → differ (drop k attrs) ≡ true → differ (drop i attrs) ≡ true
differ_more attrs i k a lt next got absent_there rest =
    let at : drop i attrs ≡ a ∷ drop k attrs = rw next (from_here attrs i a lt got) in
    rw (at, absent_there, rest) refl

pub not_added : (b c : Bool) → b ≡ not c → b ≡ false → c ≡ true
not_added b true e n = refl
not_added b false e n = let f : true ≡ false = sym e ∙ n in absurd cc

pub was_added : (b c : Bool) → b ≡ not c → b ≡ true → c ≡ false
was_added b false e n = refl
was_added b true e n = let f : false ≡ true = sym e ∙ n in absurd cc

-- of fewer than two names none is that of another
pub differ_few : (attrs : List Attr) → length attrs < 2 → true ≡ differ attrs
differ_few [] lt = refl
differ_few (a ∷ []) lt = refl
differ_few (a ∷ b ∷ attrs) lt = absurd (omega arith)
