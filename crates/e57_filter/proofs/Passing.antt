-- Laws of records that pass.
use Rattle.std.proofs.Common.{◌≡◌, ℕ, zero, suc, ◌+◌, ◌%◌, ◌<◌, ◌≤◌, ◌==◌, Bool, true, false, cond, ◌&&◌, List, [], ◌∷◌, ◌++◌, length, map, take, get_or, refl, sym, subst, ap, ◌∙◌, arith}
use Rattle.std.specs.List.{list_all}
use Rattle.e57_layout.specs.Values.{ItemKind, Value, octets}
use Rattle.e57_layout.specs.Items.{AreColumns}
use Rattle.e57_layout.specs.Packing.{join_columns}
use Rattle.e57_plain.specs.Kept.{Test, is_between, column_value, passing, passing_count, chosen}
use Rattle.e57_filter.specs.Keeping.{Sieve, passes_sieve, kept_columns, kept_number}
use Rattle.e57_filter.specs.Marking.{is_within, passes_here, AreMarks, mark_count, picked}

-- ---- by flags, or by what passes

pub chosen-passing : (pass : ℕ → Bool) (i : ℕ) (flags : List Bool) (column : List Value) → length column ≡ length flags → ((k : ℕ) → k < length flags → get_or flags k false ≡ pass (i + k)) → chosen flags column ≡ passing pass i column
chosen-passing pass i [] [] same each = refl
chosen-passing pass i [] (x ∷ column) same each = absurd (omega (arith, same))
chosen-passing pass i (b ∷ flags) [] same each = absurd (omega (arith, same))
chosen-passing pass i (b ∷ flags) (x ∷ column) same each =
    let place : i + 0 ≡ i = omega arith in
    let here : b ≡ pass i = rw place at (each 0 (omega arith)) in
    rw (
      here,
      chosen-passing pass (i + 1) flags column (omega (arith, same)) (λ k below.
          let next : i + suc k ≡ i + 1 + k = omega arith in rw next at (each (suc k) (omega (arith, below)))),
    ) refl

pub count-passing : {X : Type 0} (pass : ℕ → Bool) (i : ℕ) (flags : List Bool) (xs : List X) → length xs ≡ length flags → ((k : ℕ) → k < length flags → get_or flags k false ≡ pass (i + k)) → length (chosen flags xs) ≡ passing_count pass i (length flags)
count-passing pass i [] [] same each = refl
count-passing pass i [] (x ∷ xs) same each = absurd (omega (arith, same))
count-passing pass i (b ∷ flags) [] same each = absurd (omega (arith, same))
count-passing pass i (b ∷ flags) (x ∷ xs) same each =
    let place : i + 0 ≡ i = omega arith in
    let here : b ≡ pass i = rw place at (each 0 (omega arith)) in
    by_flag b (pass i) here (count-passing pass (i + 1) flags xs (omega (arith, same)) (λ k below.
    let next : i + suc k ≡ i + 1 + k = omega arith in rw next at (each (suc k) (omega (arith, below)))))
  where
    by_flag : (c d : Bool) → c ≡ d → length (chosen flags xs) ≡ passing_count pass (i + 1) (length flags)
        → length (cond c (x ∷ chosen flags xs) (chosen flags xs)) ≡ cond d 1 0 + passing_count pass (i + 1) (length flags)
    by_flag true true same_flag is = omega (arith, is)
    by_flag true false same_flag is = absurd cc
    by_flag false true same_flag is = absurd cc
    by_flag false false same_flag is = omega (arith, is)

-- marked records, all columns
pub picked-passing : (kinds : List ItemKind) (n : ℕ) (pass : ℕ → Bool) (flags : List Bool) (columns : List (List Value)) → AreColumns kinds n columns → AreMarks n pass flags → picked flags columns ≡ map (passing pass 0) columns
picked-passing [] n pass flags [] are marks = refl
picked-passing [] n pass flags (column ∷ columns) are marks = absurd are
picked-passing (kind ∷ kinds) n pass flags [] are marks = absurd are
picked-passing (kind ∷ kinds) n pass flags (column ∷ columns) are marks =
    let long = marks.0 in
    rw (chosen-passing pass 0 flags column (are.0 ∙ sym long) (λ k below. let place : 0 + k ≡ k = omega arith in rw place (marks.1 k (omega (arith, below, long)))), picked-passing kinds n pass flags columns are.2 marks) refl

pub mark-passing : (n : ℕ) (pass : ℕ → Bool) (flags : List Bool) → AreMarks n pass flags → mark_count flags ≡ passing_count pass 0 n
mark-passing n pass flags marks =
    let long = marks.0 in
    count-passing pass 0 flags flags refl (λ k below. let place : 0 + k ≡ k = omega arith in rw place (marks.1 k (omega (arith, below, long)))) ∙ ap (passing_count pass 0) long

-- ---- records after records

pub passing-append : (p : ℕ → Bool) (k : ℕ) (xs ys : List Value) → passing p k (xs ++ ys) ≡ passing p k xs ++ passing p (k + length xs) ys
passing-append p k [] ys = let place : k + 0 ≡ k = omega arith in rw place refl
passing-append p k (x ∷ xs) ys =
    let place : k + 1 + length xs ≡ k + suc (length xs) = omega arith in
    by_test (p k) (subst (λ (e : ℕ). passing p (k + 1) (xs ++ ys) ≡ passing p (k + 1) xs ++ passing p e ys) place (passing-append p (k + 1) xs ys))
  where
    by_test : (b : Bool) → passing p (k + 1) (xs ++ ys) ≡ passing p (k + 1) xs ++ passing p (k + suc (length xs)) ys
        → cond b (x ∷ passing p (k + 1) (xs ++ ys)) (passing p (k + 1) (xs ++ ys)) ≡ cond b (x ∷ passing p (k + 1) xs) (passing p (k + 1) xs) ++ passing p (k + suc (length xs)) ys
    by_test true is = ap (λ (zs : List Value). x ∷ zs) is
    by_test false is = is

pub passing-same : (p q : ℕ → Bool) (k j : ℕ) (xs : List Value) → ((t : ℕ) → t < length xs → p (k + t) ≡ q (j + t)) → passing p k xs ≡ passing q j xs
passing-same p q k j [] same = refl
passing-same p q k j (x ∷ xs) same =
    let at_k : k + 0 ≡ k = omega arith in
    let at_j : j + 0 ≡ j = omega arith in
    let here : p k ≡ q j = rw (at_k, at_j) at (same 0 (omega arith)) in
    rw (
      here,
      passing-same p q (k + 1) (j + 1) xs (λ t below.
          let next_k : k + suc t ≡ k + 1 + t = omega arith in
          let next_j : j + suc t ≡ j + 1 + t = omega arith in
          rw (next_k, next_j) at (same (suc t) (omega (arith, below)))),
    ) refl

pub count-append : (p : ℕ → Bool) (k n m : ℕ) → passing_count p k (n + m) ≡ passing_count p k n + passing_count p (k + n) m
count-append p k zero m =
    let place : k + 0 ≡ k = omega arith in
    let none : 0 + m ≡ m = omega arith in
    rw (place, none) (omega arith)
count-append p k (suc n) m =
    let place : k + 1 + n ≡ k + suc n = omega arith in
    let rest : passing_count p (k + 1) (n + m) ≡ passing_count p (k + 1) n + passing_count p (k + suc n) m =
    subst (λ (e : ℕ). passing_count p (k + 1) (n + m) ≡ passing_count p (k + 1) n + passing_count p e m) place (count-append p (k + 1) n m) in
    let sum : suc n + m ≡ suc (n + m) = omega arith in
    rw sum (omega (arith, rest))

pub count-same : (p q : ℕ → Bool) (k j n : ℕ) → ((t : ℕ) → t < n → p (k + t) ≡ q (j + t)) → passing_count p k n ≡ passing_count q j n
count-same p q k j zero same = refl
count-same p q k j (suc n) same =
    let at_k : k + 0 ≡ k = omega arith in
    let at_j : j + 0 ≡ j = omega arith in
    let here : p k ≡ q j = rw (at_k, at_j) at (same 0 (omega arith)) in
    rw (
      here,
      count-same p q (k + 1) (j + 1) n (λ t below.
          let next_k : k + suc t ≡ k + 1 + t = omega arith in
          let next_j : j + suc t ≡ j + 1 + t = omega arith in
          rw (next_k, next_j) at (same (suc t) (omega (arith, below)))),
    ) refl

-- ---- the items of joined columns

get-first : (xs ys : List Value) (d : Value) (k : ℕ) → k < length xs → get_or (xs ++ ys) k d ≡ get_or xs k d
get-first [] ys d k below = absurd (omega (arith, below))
get-first (x ∷ xs) ys d zero below = refl
get-first (x ∷ xs) ys d (suc k) below = get-first xs ys d k (omega (arith, below))

get-next : (xs ys : List Value) (d : Value) (k : ℕ) → get_or (xs ++ ys) (length xs + k) d ≡ get_or ys k d
get-next [] ys d k = let place : 0 + k ≡ k = omega arith in ap (λ (e : ℕ). get_or ys e d) place
get-next (x ∷ xs) ys d k =
    let next : suc (length xs) + k ≡ suc (length xs + k) = omega arith in
    ap (λ (e : ℕ). get_or (x ∷ (xs ++ ys)) e d) next ∙ get-next xs ys d k

value-first : (kinds : List ItemKind) (n m : ℕ) (xs ys : List (List Value)) (f k : ℕ) → AreColumns kinds n xs → AreColumns kinds m ys → k < n → column_value (join_columns xs ys) f k ≡ column_value xs f k
unfolding join_columns
value-first [] n m [] [] f k are next below = refl
value-first [] n m [] (y ∷ ys) f k are next below = absurd next
value-first [] n m (x ∷ xs) ys f k are next below = absurd are
value-first (kind ∷ kinds) n m [] ys f k are next below = absurd are
value-first (kind ∷ kinds) n m (x ∷ xs) [] f k are next below = absurd next
value-first (kind ∷ kinds) n m (x ∷ xs) (y ∷ ys) zero k are next below = get-first x y (octets []) k (omega (arith, below, are.0))
value-first (kind ∷ kinds) n m (x ∷ xs) (y ∷ ys) (suc f) k are next below = value-first kinds n m xs ys f k are.2 next.2 below

value-next : (kinds : List ItemKind) (n m : ℕ) (xs ys : List (List Value)) (f k : ℕ) → AreColumns kinds n xs → AreColumns kinds m ys → column_value (join_columns xs ys) f (n + k) ≡ column_value ys f k
unfolding join_columns
value-next [] n m [] [] f k are next = refl
value-next [] n m [] (y ∷ ys) f k are next = absurd next
value-next [] n m (x ∷ xs) ys f k are next = absurd are
value-next (kind ∷ kinds) n m [] ys f k are next = absurd are
value-next (kind ∷ kinds) n m (x ∷ xs) [] f k are next = absurd next
value-next (kind ∷ kinds) n m (x ∷ xs) (y ∷ ys) zero k are next =
    subst (λ (e : ℕ). get_or (x ++ y) (e + k) (octets []) ≡ get_or y k (octets [])) are.0 (get-next x y (octets []) k)
value-next (kind ∷ kinds) n m (x ∷ xs) (y ∷ ys) (suc f) k are next = value-next kinds n m xs ys f k are.2 next.2

all-same : (p q : Test → Bool) (tests : List Test) → ((t : Test) → p t ≡ q t) → list_all p tests ≡ list_all q tests
all-same p q [] same = refl
all-same p q (t ∷ tests) same = rw (same t, all-same p q tests same) refl

module _ (s : Sieve) (kinds : List ItemKind) (n m : ℕ) (xs ys : List (List Value)) (are : AreColumns kinds n xs) (next : AreColumns kinds m ys) where
  -- the first records pass as they did
  pub sieve-first : (k : ℕ) → k < n → passes_sieve s (join_columns xs ys) k ≡ passes_sieve s xs k
  unfolding passes_sieve
  sieve-first k below =
      ap (λ (b : Bool). k % s.every == 0 && b)
      (all-same (λ (t : Test). is_between t.low t.high (column_value (join_columns xs ys) t.field k)) (λ (t : Test). is_between t.low t.high (column_value xs t.field k)) s.tests
      (λ t. ap (is_between t.low t.high) (value-first kinds n m xs ys t.field k are next below)))

  -- the later ones as they do behind those
  pub sieve-next : (k : ℕ) → passes_sieve s (join_columns xs ys) (n + k) ≡ passes_here s n ys k
  unfolding passes_sieve passes_here is_within
  sieve-next k =
      ap (λ (b : Bool). (n + k) % s.every == 0 && b)
      (all-same (λ (t : Test). is_between t.low t.high (column_value (join_columns xs ys) t.field (n + k))) (λ (t : Test). is_between t.low t.high (column_value ys t.field k)) s.tests
      (λ t. ap (is_between t.low t.high) (value-next kinds n m xs ys t.field k are next)))

  column-joined : (x y : List Value) → length x ≡ n → passing (passes_sieve s (join_columns xs ys)) 0 (x ++ y) ≡ passing (passes_sieve s xs) 0 x ++ passing (passes_here s n ys) 0 y
  column-joined x y long =
      let first = passing-same (passes_sieve s (join_columns xs ys)) (passes_sieve s xs) 0 0 x (λ t below. let place : 0 + t ≡ t = omega arith in rw place (sieve-first t (omega (arith, below, long)))) in
      let rest = passing-same (passes_sieve s (join_columns xs ys)) (passes_here s n ys) n 0 y (λ t below. let place : 0 + t ≡ t = omega arith in rw place (sieve-next t)) in
      passing-append (passes_sieve s (join_columns xs ys)) 0 x y
      ∙ ap (λ (e : ℕ). passing (passes_sieve s (join_columns xs ys)) 0 x ++ passing (passes_sieve s (join_columns xs ys)) e y) (let none : 0 + length x ≡ length x = omega arith in none ∙ long)
      ∙ rw (first, rest) refl

  columns-joined : (p : ℕ) (ks : List ItemKind) (us vs : List (List Value)) → AreColumns ks n us → AreColumns ks m vs
      → map (passing (passes_sieve s (join_columns xs ys)) 0) (take p (join_columns us vs)) ≡ join_columns (map (passing (passes_sieve s xs) 0) (take p us)) (map (passing (passes_here s n ys) 0) (take p vs))
  unfolding join_columns
  columns-joined zero ks us vs first rest = refl
  columns-joined (suc p) [] [] [] first rest = refl
  columns-joined (suc p) [] [] (v ∷ vs) first rest = absurd rest
  columns-joined (suc p) [] (u ∷ us) vs first rest = absurd first
  columns-joined (suc p) (k ∷ ks) [] vs first rest = absurd first
  columns-joined (suc p) (k ∷ ks) (u ∷ us) [] first rest = absurd rest
  columns-joined (suc p) (k ∷ ks) (u ∷ us) (v ∷ vs) first rest = rw (column-joined u v first.0, columns-joined p ks us vs first.2 rest.2) refl

  pub kept-joined : (p : ℕ) → kept_columns s p (join_columns xs ys) ≡ join_columns (kept_columns s p xs) (map (passing (passes_here s n ys) 0) (take p ys))
  kept-joined p = columns-joined p kinds xs ys are next

  pub number-joined : kept_number s (join_columns xs ys) (n + m) ≡ kept_number s xs n + passing_count (passes_here s n ys) 0 m
  number-joined =
      let first = count-same (passes_sieve s (join_columns xs ys)) (passes_sieve s xs) 0 0 n (λ t below. let place : 0 + t ≡ t = omega arith in rw place (sieve-first t below)) in
      let rest = count-same (passes_sieve s (join_columns xs ys)) (passes_here s n ys) n 0 m (λ t below. let place : 0 + t ≡ t = omega arith in rw place (sieve-next t)) in
      let none : 0 + n ≡ n = omega arith in
      count-append (passes_sieve s (join_columns xs ys)) 0 n m
      ∙ ap (λ (e : ℕ). passing_count (passes_sieve s (join_columns xs ys)) 0 n + passing_count (passes_sieve s (join_columns xs ys)) e m) none
      ∙ rw (first, rest) refl

-- no more than there are
pub number-few : (pass : ℕ → Bool) (i n : ℕ) → passing_count pass i n ≤ n
number-few pass i zero = omega arith
number-few pass i (suc n) = by_test (pass i) (number-few pass (i + 1) n)
  where
    by_test : (b : Bool) → passing_count pass (i + 1) n ≤ n → cond b 1 0 + passing_count pass (i + 1) n ≤ suc n
    by_test true later = omega (arith, later)
    by_test false later = omega (arith, later)
