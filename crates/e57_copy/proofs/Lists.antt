-- Laws of the first items of a list, and of those behind them.
use Rattle.std.proofs.Common.{◌≡◌, ℕ, zero, suc, ◌+◌, ◌≤◌, List, [], ◌∷◌, ◌++◌, length, take, drop, Option, Some, None, slice_get, refl, sym, ap, ◌∙◌, arith, add-one}
use Rattle.std.specs.Option.{option_or}
use Rattle.e57_base.proofs.Options.{option_or_parts}
use Rattle.e57_nodes.specs.Items.{StatedItem}
use Rattle.e57_verdict.specs.Things.{Body, Thing, thing_fault, things_fault}
use Rattle.e57_plain.specs.Valid.{IsBody, AreBodies}
use Rattle.std.specs.Prelude.{map}
use Rattle.e57_copy.specs.Several.{AreSound}

-- the list is its first j items, the item there, and what follows
pub record SplitAt {X : Type 0} (xs : List X) (j : ℕ) (x : X) : Type 0 where
  pub more : take (j + 1) xs ≡ take j xs ++ x ∷ []
  pub whole : xs ≡ take j xs ++ x ∷ drop (j + 1) xs
  pub long : length (take j xs) ≡ j

same_some : {X : Type 0} (x y : X) → ◌≡◌ {A = Option X} (Some x) (Some y) → x ≡ y
same_some x y is = cc

pub split_at : {X : Type 0} (xs : List X) (j : ℕ) (x : X) → slice_get xs j ≡ Some x → SplitAt xs j x
split_at [] j x got = absurd cc
split_at (y ∷ ys) zero x got =
    let same = same_some y x got in
    record { more = ap (λ z. z ∷ []) same; whole = ap (λ z. z ∷ ys) same; long = refl }
split_at (y ∷ ys) (suc j) x got =
    let rest = split_at ys j x got in
    let next = add-one (suc j) in
    let inner = add-one j in
    record {
      more = ap (λ n. take n (y ∷ ys)) next ∙ ap (λ n. y ∷ take n ys) (sym inner) ∙ ap (λ zs. y ∷ zs) rest.more;
      whole = ap (λ zs. y ∷ zs) rest.whole ∙ ap (λ n. y ∷ (take j ys ++ x ∷ drop n ys)) inner ∙ sym (ap (λ n. y ∷ (take j ys ++ x ∷ drop n (y ∷ ys))) next);
      long = ap suc rest.long;
    }

pub take_whole : {X : Type 0} (xs : List X) (j : ℕ) → length xs ≤ j → take j xs ≡ xs
take_whole [] zero past = refl
take_whole [] (suc j) past = refl
take_whole (x ∷ xs) zero past = absurd (omega arith)
take_whole (x ∷ xs) (suc j) past = ap (λ ys. x ∷ ys) (take_whole xs j (omega arith))

-- ---- faults of things

-- none of them has a fault: neither the first ones, nor one of them
none_parts : (file : List ℕ) (xs : List Thing) (x : Thing) (ys : List Thing) → things_fault file (xs ++ x ∷ ys) ≡ None → (things_fault file xs ≡ None) × (thing_fault file x ≡ None)
none_parts file [] x ys none = (refl, (option_or_parts (thing_fault file x) (things_fault file ys) none).0)
none_parts file (z ∷ xs) x ys none =
    let first = option_or_parts (thing_fault file z) (things_fault file (xs ++ x ∷ ys)) none in
    let rest = none_parts file xs x ys first.1 in
    (ap (λ o. option_or o (things_fault file xs)) first.0 ∙ rest.0, rest.1)

pub sound_parts : (file : List ℕ) (xs : List Thing) (x : Thing) (ys : List Thing) → AreSound (xs ++ x ∷ ys) file → AreSound xs file × (thing_fault file x ≡ None)
sound_parts file xs x ys sound = let parts = none_parts file xs x ys sound.1 in ((sound.0, parts.0), parts.1)

-- ---- bodies

pub bodies_more : (items : List StatedItem) (bodies : List Body) (item : StatedItem) (body : Body) → AreBodies items bodies → IsBody item body → AreBodies (items ++ item ∷ []) (bodies ++ body ∷ [])
bodies_more [] [] item body are is = (is, tt)
bodies_more [] (b ∷ bodies) item body are is = absurd are
bodies_more (i ∷ items) [] item body are is = absurd are
bodies_more (i ∷ items) (b ∷ bodies) item body are is = (are.0, bodies_more items bodies item body are.1 is)

-- one body among as many
pub body_there : (items : List StatedItem) (bodies : List Body) (item : StatedItem) (body : Body) (after : List StatedItem) (rest : List Body) → length items ≡ length bodies
    → AreBodies (items ++ item ∷ after) (bodies ++ body ∷ rest) → IsBody item body
body_there [] [] item body after rest same are = are.0
body_there [] (b ∷ bodies) item body after rest same are = absurd (omega arith)
body_there (i ∷ items) [] item body after rest same are = absurd (omega arith)
body_there (i ∷ items) (b ∷ bodies) item body after rest same are = body_there items bodies item body after rest (omega arith) are.1

pub bodies_count : (items : List StatedItem) (bodies : List Body) → AreBodies items bodies → length items ≡ length bodies
bodies_count [] [] are = refl
bodies_count [] (b ∷ bodies) are = absurd are
bodies_count (i ∷ items) [] are = absurd are
bodies_count (i ∷ items) (b ∷ bodies) are = ap suc (bodies_count items bodies are.1)

pub map_append : {X Y : Type 0} (f : X → Y) (xs ys : List X) → map f (xs ++ ys) ≡ map f xs ++ map f ys
map_append f [] ys = refl
map_append f (x ∷ xs) ys = ap (λ zs. f x ∷ zs) (map_append f xs ys)
