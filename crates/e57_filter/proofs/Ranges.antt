-- The records of a range that pass, among all records of a cloud.
use Rattle.std.proofs.Common.{◌≡◌, ℕ, zero, suc, ◌+◌, ◌-◌, ◌%◌, ◌<◌, ◌≤◌, ◌==◌, Bool, true, false, cond, ◌&&◌, List, [], ◌∷◌, ◌++◌, length, map, take, drop, get_or, refl, sym, ap, ◌∙◌, arith, ⊎_elim}
use Rattle.std.specs.Prelude.{nat_le, nat_lt}
use Rattle.std.specs.List.{AllByRecursion, list_all, range_with_len}
use Rattle.std.proofs.lemmas.Bool.{le-leb, lt-ltb}
use Rattle.std.proofs.lemmas.Bool.Decides.{leb_tells}
use Rattle.std.proofs.lemmas.List.{append-nil, take-append-drop, length-drop}
use Rattle.e57_layout.specs.Values.{Value, octets}
use Rattle.e57_plain.specs.Kept.{Selection, Test, chosen, column_value, is_between, passes, passing, passing_count}
use Rattle.e57_filter.specs.Keeping.{Sieve, passes_sieve, test_of}
use Rattle.e57_filter.specs.KeptSection.{limits_from}
use Rattle.e57_filter.specs.Selecting.{field_test, test_fields}
use Rattle.e57_filter.specs.declared.select.FieldTest.{FieldTest}
use Rattle.e57_filter.proofs.Opening.{length-first}
use Rattle.e57_filter.proofs.Passing.{count-append, count-same, passing-append, passing-same}

-- ---- a part of a list

pub get-take : {X : Type 0} (count k : ℕ) (xs : List X) (d : X) → k < count → get_or (take count xs) k d ≡ get_or xs k d
get-take zero k xs d below = absurd (omega (arith, below))
get-take (suc count) k [] d below = refl
get-take (suc count) zero (x ∷ xs) d below = refl
get-take (suc count) (suc k) (x ∷ xs) d below = get-take count k xs d (omega (arith, below))

get-drop : {X : Type 0} (from k : ℕ) (xs : List X) (d : X) → get_or (drop from xs) k d ≡ get_or xs (from + k) d
get-drop zero k xs d = let place : k ≡ 0 + k = omega arith in ap (λ (j : ℕ). get_or xs j d) place
get-drop (suc from) k [] d = refl
get-drop (suc from) k (x ∷ xs) d =
    let place : suc (from + k) ≡ suc from + k = omega arith in
    get-drop from k xs d ∙ ap (λ (j : ℕ). get_or (x ∷ xs) j d) place

pub get-part : {X : Type 0} (from count k : ℕ) (xs : List X) (d : X) → k < count → get_or (take count (drop from xs)) k d ≡ get_or xs (from + k) d
get-part from count k xs d below = get-take count k (drop from xs) d below ∙ get-drop from k xs d

pub length-part : {X : Type 0} (from count : ℕ) (xs : List X) → from + count ≤ length xs → length (take count (drop from xs)) ≡ count
length-part from count xs within = let rest = length-drop from xs in length-first (drop from xs) count (omega (arith, rest, within))

drop-first : {X : Type 0} (xs : List X) (m : ℕ) (x d : X) (rest : List X) → drop m xs ≡ x ∷ rest → (get_or xs m d ≡ x) × (drop (m + 1) xs ≡ rest)
drop-first [] zero x d rest is = absurd cc
drop-first [] (suc m) x d rest is = absurd cc
drop-first (y ∷ ys) zero x d rest is = (cc, cc)
drop-first {X = X} (y ∷ ys) (suc m) x d rest is =
    let later = drop-first ys m x d rest is in
    let place : suc m + 1 ≡ suc (m + 1) = omega arith in
    (later.0, ap (λ (k : ℕ). drop k (y ∷ ys)) place ∙ later.1)

-- ---- records that pass

leb-false : (a b : ℕ) → b < a → nat_le a b ≡ false
leb-false a b past = ⊎_elim (λ (low : (nat_le a b ≡ true) × (a ≤ b)). let is = low.1 in absurd (omega (arith, is, past))) (λ (high : (nat_le a b ≡ false) × (b < a)). high.0) (leb_tells a b)

and-false : (b : Bool) → b && false ≡ false
and-false true = refl
and-false false = refl

and-false-left : (a b : Bool) → a ≡ false → a && b ≡ false
and-false-left true b is = absurd cc
and-false-left false b is = refl

both-true : (a b x : Bool) → a ≡ true → b ≡ true → a && (b && x) ≡ x
both-true true true x first next = refl
both-true true false x first next = absurd cc
both-true false b x first next = absurd cc

module _ (selection : Selection) (columns : List (List Value)) where
  pub passes-before : (i : ℕ) → i < selection.from → passes selection columns i ≡ false
  unfolding passes
  passes-before i below = and-false-left (nat_le selection.from i) _ (leb-false selection.from i below)

  pub passes-after : (i : ℕ) → selection.until ≤ i → passes selection columns i ≡ false
  unfolding passes
  passes-after i past =
      let rest = (i - selection.from) % selection.every == 0 && list_all (λ (test : Test). is_between test.low test.high (column_value columns test.field i)) selection.tests in
      let not : nat_lt i selection.until ≡ false = leb-false (suc i) selection.until (omega (arith, past)) in
      ap (λ (b : Bool). nat_le selection.from i && b) (and-false-left (nat_lt i selection.until) rest not) ∙ and-false (nat_le selection.from i)

  tests-same : (blocks : List (List Value)) (count k m : ℕ) (tests : List FieldTest) → k < count → drop m blocks ≡ map (λ (f : ℕ). take count (drop selection.from (get_or columns f []))) (test_fields tests)
      → list_all (λ (test : Test). is_between test.low test.high (column_value columns test.field (selection.from + k))) (map field_test tests)
      ≡ list_all (λ (t : Test). is_between t.low t.high (column_value blocks t.field k)) (map test_of (limits_from m tests))
  tests-same blocks count k m [] below are = refl
  tests-same blocks count k m (test ∷ tests) below are =
      let column = get_or columns test.field [] in
      let first = drop-first blocks m (take count (drop selection.from column)) [] (map (λ (f : ℕ). take count (drop selection.from (get_or columns f []))) (test_fields tests)) are in
      let here : column_value columns test.field (selection.from + k) ≡ column_value blocks m k =
      sym (get-part selection.from count k column (octets []) below) ∙ ap (λ (c : List Value). get_or c k (octets [])) (sym first.0) in
      let rest = tests-same blocks count k (m + 1) tests below first.1 in
      ap (λ (v : Value). is_between test.low test.high v && list_all (λ (t : Test). is_between t.low t.high (column_value columns t.field (selection.from + k))) (map field_test tests)) here
      ∙ ap (λ (b : Bool). is_between test.low test.high (column_value blocks m k) && b) rest

  pub passes-at : (s : Sieve) (blocks : List (List Value)) (count k m : ℕ) (tests : List FieldTest) → k < count → selection.from + count ≤ selection.until → selection.every ≡ s.every → selection.tests ≡ map field_test tests → s.tests ≡ map test_of (limits_from m tests)
      → drop m blocks ≡ map (λ (f : ℕ). take count (drop selection.from (get_or columns f []))) (test_fields tests)
      → passes selection columns (selection.from + k) ≡ passes_sieve s blocks k
  unfolding passes passes_sieve
  passes-at s blocks count k m tests below end every of_selection of_sieve are =
      let i = selection.from + k in
      let back : i - selection.from ≡ k = omega arith in
      let all = λ (ts : List Test). list_all (λ (test : Test). is_between test.low test.high (column_value columns test.field i)) ts in
      let here = λ (ts : List Test). list_all (λ (t : Test). is_between t.low t.high (column_value blocks t.field k)) ts in
      both-true (nat_le selection.from i) (nat_lt i selection.until) ((i - selection.from) % selection.every == 0 && all selection.tests) (le-leb selection.from i (omega arith)) (lt-ltb i selection.until (omega (arith, below, end)))
      ∙ ap (λ (j : ℕ). j % selection.every == 0 && all selection.tests) back
      ∙ ap (λ (e : ℕ). k % e == 0 && all selection.tests) every
      ∙ ap (λ (b : Bool). k % s.every == 0 && b) (ap (λ (ts : List Test). all ts) of_selection ∙ tests-same blocks count k m tests below are ∙ ap (λ (ts : List Test). here ts) (sym of_sieve))

-- ---- a range

pub passing-none : (p : ℕ → Bool) (k : ℕ) (xs : List Value) → ((t : ℕ) → t < length xs → p (k + t) ≡ false) → passing p k xs ≡ []
passing-none p k [] none = refl
passing-none p k (x ∷ xs) none =
    let place : k + 0 ≡ k = omega arith in
    let here : p k ≡ false = rw place at (none 0 (omega arith)) in
    rw here (passing-none p (k + 1) xs (λ t below. let next : k + suc t ≡ k + 1 + t = omega arith in rw next at (none (suc t) (omega (arith, below)))))

pub count-none : (p : ℕ → Bool) (k n : ℕ) → ((t : ℕ) → t < n → p (k + t) ≡ false) → passing_count p k n ≡ 0
count-none p k zero none = refl
count-none p k (suc n) none =
    let place : k + 0 ≡ k = omega arith in
    let here : p k ≡ false = rw place at (none 0 (omega arith)) in
    let rest = count-none p (k + 1) n (λ t below. let next : k + suc t ≡ k + 1 + t = omega arith in rw next at (none (suc t) (omega (arith, below)))) in
    rw here (omega (arith, rest))

module _ (p q : ℕ → Bool) (from count : ℕ) (low : (i : ℕ) → i < from → p i ≡ false) (high : (i : ℕ) → from + count ≤ i → p i ≡ false) (same : (k : ℕ) → k < count → p (from + k) ≡ q k) where
  pub passing-range : (column : List Value) → from + count ≤ length column → passing p 0 column ≡ passing q 0 (take count (drop from column))
  passing-range column within =
      let first = take from column in
      let mid = take count (drop from column) in
      let last = drop count (drop from column) in
      let long_first : length first ≡ from = length-first column from (omega (arith, within)) in
      let long_mid : length mid ≡ count = length-part from count column within in
      let start : 0 + length first ≡ from = omega (arith, long_first) in
      let none_first : passing p 0 first ≡ [] = passing-none p 0 first (λ t below. let place : 0 + t ≡ t = omega arith in rw place (low t (omega (arith, below, long_first)))) in
      let same_mid : passing p from mid ≡ passing q 0 mid =
      passing-same p q from 0 mid (λ t below. let place : 0 + t ≡ t = omega arith in rw place (same t (omega (arith, below, long_mid)))) in
      let none_last : passing p (from + length mid) last ≡ [] = passing-none p (from + length mid) last (λ t below. high (from + length mid + t) (omega (arith, long_mid))) in
      ap (passing p 0) (sym (take-append-drop from column))
      ∙ passing-append p 0 first (drop from column)
      ∙ ap (λ (xs : List Value). xs ++ passing p (0 + length first) (drop from column)) none_first
      ∙ ap (λ (k : ℕ). passing p k (drop from column)) start
      ∙ ap (passing p from) (sym (take-append-drop count (drop from column)))
      ∙ passing-append p from mid last
      ∙ ap (λ (xs : List Value). passing p from mid ++ xs) none_last
      ∙ append-nil (passing p from mid)
      ∙ same_mid

  pub count-range : (total : ℕ) → from + count ≤ total → passing_count p 0 total ≡ passing_count q 0 count
  count-range total within =
      let left = total - (from + count) in
      let all : total ≡ from + (count + left) = omega (arith, within) in
      let start : 0 + from ≡ from = omega arith in
      let none_first : passing_count p 0 from ≡ 0 = count-none p 0 from (λ t below. let place : 0 + t ≡ t = omega arith in rw place (low t below)) in
      let same_mid : passing_count p from count ≡ passing_count q 0 count = count-same p q from 0 count (λ t below. let place : 0 + t ≡ t = omega arith in rw place (same t below)) in
      let none_last : passing_count p (from + count) left ≡ 0 = count-none p (from + count) left (λ t below. high (from + count + t) (omega arith)) in
      let first = count-append p 0 from (count + left) in
      let next = count-append p from count left in
      let moved : passing_count p (0 + from) (count + left) ≡ passing_count p from (count + left) = ap (λ (k : ℕ). passing_count p k (count + left)) start in
      ap (passing_count p 0) all ∙ omega (arith, first, next, moved, none_first, same_mid, none_last)

-- the first records of a range that pass
passing-first : (p : ℕ → Bool) (i k : ℕ) (xs : List Value) → k ≤ length xs → passing p i (take k xs) ≡ take (passing_count p i k) (passing p i xs)
passing-first p i zero xs within = refl
passing-first p i (suc k) [] within = absurd (omega (arith, within))
passing-first p i (suc k) (x ∷ xs) within = by_test (p i) (passing-first p (i + 1) k xs (omega (arith, within)))
  where
    by_test : (b : Bool) → passing p (i + 1) (take k xs) ≡ take (passing_count p (i + 1) k) (passing p (i + 1) xs)
        → cond b (x ∷ passing p (i + 1) (take k xs)) (passing p (i + 1) (take k xs)) ≡ take (cond b 1 0 + passing_count p (i + 1) k) (cond b (x ∷ passing p (i + 1) xs) (passing p (i + 1) xs))
    by_test true is =
        let next : suc (passing_count p (i + 1) k) ≡ 1 + passing_count p (i + 1) k = omega arith in
        ap (λ (ys : List Value). x ∷ ys) is ∙ ap (λ (m : ℕ). take m (x ∷ passing p (i + 1) xs)) next
    by_test false is =
        let none : passing_count p (i + 1) k ≡ 0 + passing_count p (i + 1) k = omega arith in
        is ∙ ap (λ (m : ℕ). take m (passing p (i + 1) xs)) none

module _ (p q : ℕ → Bool) (from some : ℕ) (low : (i : ℕ) → i < from → p i ≡ false) (same : (k : ℕ) → k < some → p (from + k) ≡ q k) where
  same_number : passing_count p from some ≡ passing_count q 0 some
  same_number = count-same p q from 0 some (λ t below. let place : 0 + t ≡ t = omega arith in rw place (same t below))

  pub passing-front : (column : List Value) → from + some ≤ length column → passing q 0 (take some (drop from column)) ≡ take (passing_count q 0 some) (passing p 0 column)
  passing-front column within =
      let first = take from column in
      let rest = drop from column in
      let size = length-drop from column in
      let long_first : length first ≡ from = length-first column from (omega (arith, within)) in
      let long_part : length (take some rest) ≡ some = length-part from some column within in
      let start : 0 + length first ≡ from = omega (arith, long_first) in
      let none_first : passing p 0 first ≡ [] = passing-none p 0 first (λ t below. let place : 0 + t ≡ t = omega arith in rw place (low t (omega (arith, below, long_first)))) in
      let all : passing p 0 column ≡ passing p from rest =
      ap (passing p 0) (sym (take-append-drop from column))
      ∙ passing-append p 0 first rest
      ∙ ap (λ (xs : List Value). xs ++ passing p (0 + length first) rest) none_first
      ∙ ap (λ (k : ℕ). passing p k rest) start in
      sym (passing-same p q from 0 (take some rest) (λ t below. let place : 0 + t ≡ t = omega arith in rw place (same t (omega (arith, below, long_part)))))
      ∙ passing-first p from some rest (omega (arith, within, size))
      ∙ ap (λ (m : ℕ). take m (passing p from rest)) same_number
      ∙ ap (take (passing_count q 0 some)) (sym all)

  pub count-front : (total : ℕ) → from + some ≤ total → passing_count q 0 some ≤ passing_count p 0 total
  count-front total within =
      let left = total - (from + some) in
      let all : total ≡ from + (some + left) = omega (arith, within) in
      let start : 0 + from ≡ from = omega arith in
      let first = count-append p 0 from (some + left) in
      let next = count-append p from some left in
      let moved : passing_count p (0 + from) (some + left) ≡ passing_count p from (some + left) = ap (λ (k : ℕ). passing_count p k (some + left)) start in
      let whole : passing_count p 0 total ≡ passing_count p 0 (from + (some + left)) = ap (passing_count p 0) all in
      let here = same_number in
      omega (arith, first, next, moved, whole, here)

-- ---- columns that are chosen

pub map-chosen : {X Y : Type 0} (h : X → Y) (flags : List Bool) (xs : List X) → map h (chosen flags xs) ≡ chosen flags (map h xs)
map-chosen h [] xs = refl
map-chosen h (b ∷ flags) [] = refl
map-chosen {Y = Y} h (true ∷ flags) (x ∷ xs) = ap (λ (ys : List Y). h x ∷ ys) (map-chosen h flags xs)
map-chosen h (false ∷ flags) (x ∷ xs) = map-chosen h flags xs

range-columns : {Y : Type 0} (h : List Value → Y) (at_number : ℕ → List Value) (from : ℕ) (columns : List (List Value)) → ((k : ℕ) → k < length columns → at_number (from + k) ≡ get_or columns k [])
    → map (λ (f : ℕ). h (at_number f)) (range_with_len from (length columns)) ≡ map h columns
range-columns h at_number from [] each = refl
range-columns {Y = Y} h at_number from (column ∷ columns) each =
    let place : from + 0 ≡ from = omega arith in
    let here : at_number from ≡ column = rw place at (each 0 (omega arith)) in
    let rest = range-columns h at_number (from + 1) columns (λ k below. let next : from + suc k ≡ from + 1 + k = omega arith in rw next at (each (suc k) (omega (arith, below)))) in
    ap (λ (c : List Value). h c ∷ map (λ (f : ℕ). h (at_number f)) (range_with_len (from + 1) (length columns))) here ∙ ap (λ (ys : List Y). h column ∷ ys) rest

-- all columns by their numbers
pub all-columns : {Y : Type 0} (h : List Value → Y) (columns : List (List Value)) → map (λ (f : ℕ). h (get_or columns f [])) (range_with_len 0 (length columns)) ≡ map h columns
all-columns h columns = range-columns h (λ (f : ℕ). get_or columns f []) 0 columns (λ k below. let place : 0 + k ≡ k = omega arith in ap (λ (f : ℕ). get_or columns f []) place)

pub map-same : {X Y : Type 0} (P : X → Type 0) (g h : X → Y) (xs : List X) → AllByRecursion P xs → ((x : X) → P x → g x ≡ h x) → map g xs ≡ map h xs
map-same P g h [] all same = refl
map-same P g h (x ∷ xs) all same = rw (same x all.0, map-same P g h xs all.1 same) refl

pub first-map : {X Y : Type 0} (g : X → Y) (xs ys : List X) → take (length xs) (map g (xs ++ ys)) ≡ map g xs
first-map g [] ys = refl
first-map {Y = Y} g (x ∷ xs) ys = ap (λ (zs : List Y). g x ∷ zs) (first-map g xs ys)

pub rest-map : {X Y : Type 0} (g : X → Y) (xs ys : List X) → drop (length xs) (map g (xs ++ ys)) ≡ map g ys
rest-map g [] ys = refl
rest-map g (x ∷ xs) ys = rest-map g xs ys
