-- Columns behind columns.
use Rattle.std.proofs.Common.{◌≡◌, ℕ, zero, suc, ◌+◌, ◌<◌, ◌≤◌, List, [], ◌∷◌, ◌++◌, length, map, get_or, set, refl, ap, arith}
use Rattle.std.specs.List.{AllByRecursion}
use Rattle.std.proofs.lemmas.List.{append_assoc, append-nil, drop-append-le, drop_all, length-append, take-append-le}
use Rattle.e57_layout.specs.Values.{ItemKind, Value}
use Rattle.e57_layout.specs.Items.{AreColumns}
use Rattle.e57_layout.specs.Packing.{first_records, later_records, join_columns}

-- ---- more columns behind columns

pub join_assoc : (xs ys zs : List (List Value)) → join_columns (join_columns xs ys) zs ≡ join_columns xs (join_columns ys zs)
unfolding join_columns
join_assoc [] ys zs = refl
join_assoc (x ∷ xs) [] zs = refl
join_assoc (x ∷ xs) (y ∷ ys) [] = refl
join_assoc (x ∷ xs) (y ∷ ys) (z ∷ zs) = rw (append_assoc x y z, join_assoc xs ys zs) refl

-- no record of these kinds
abbrev pub no_records : List ItemKind → List (List Value)
no_records kinds = map (λ (kind : ItemKind). []) kinds

pub none_columns : (kinds : List ItemKind) → AreColumns kinds 0 (no_records kinds)
none_columns [] = tt
none_columns (kind ∷ kinds) = (refl, tt, none_columns kinds)

pub join_none : (kinds : List ItemKind) (n : ℕ) (columns : List (List Value)) → AreColumns kinds n columns → join_columns columns (no_records kinds) ≡ columns
unfolding join_columns
join_none [] n [] are = refl
join_none [] n (column ∷ columns) are = absurd are
join_none (kind ∷ kinds) n [] are = absurd are
join_none (kind ∷ kinds) n (column ∷ columns) are = rw (append-nil column, join_none kinds n columns are.2) refl

-- ---- a block behind what waits: a column of `left` items for each field

abbrev pub AreLong : ℕ → List (List Value) → Type 0
AreLong n columns = AllByRecursion (λ (column : List Value). length column ≡ n) columns

pub columns_long : (kinds : List ItemKind) (n : ℕ) (columns : List (List Value)) → AreColumns kinds n columns → AreLong n columns
columns_long [] n [] are = tt
columns_long [] n (column ∷ columns) are = absurd are
columns_long (kind ∷ kinds) n [] are = absurd are
columns_long (kind ∷ kinds) n (column ∷ columns) are = (are.0, columns_long kinds n columns are.2)

pub first_kept : (left : ℕ) (xs ys : List (List Value)) → AreLong left xs → length xs ≡ length ys → first_records left (join_columns xs ys) ≡ first_records left xs
unfolding first_records join_columns
first_kept left [] [] long same = refl
first_kept left [] (y ∷ ys) long same = absurd (omega arith)
first_kept left (x ∷ xs) [] long same = refl
first_kept left (x ∷ xs) (y ∷ ys) long same =
    let within : left ≤ length x = omega (arith, long.0) in
    rw (take-append-le left x y within, first_kept left xs ys long.1 (omega arith)) refl

pub later_block : (left : ℕ) (xs ys : List (List Value)) → AreLong left xs → length xs ≡ length ys → later_records left (join_columns xs ys) ≡ ys
unfolding later_records join_columns
later_block left [] [] long same = refl
later_block left [] (y ∷ ys) long same = absurd (omega arith)
later_block left (x ∷ xs) [] long same = absurd (omega arith)
later_block left (x ∷ xs) (y ∷ ys) long same =
    let within : left ≤ length x = omega (arith, long.0) in
    let over : length x ≤ left = omega (arith, long.0) in
    rw (drop-append-le left x y within, drop_all left x over, later_block left xs ys long.1 (omega arith)) refl

pub long_with : (left n : ℕ) (xs ys : List (List Value)) → AreLong left xs → AreLong n ys → length xs ≡ length ys → AreLong (left + n) (join_columns xs ys)
unfolding join_columns
long_with left n [] [] long more same = tt
long_with left n [] (y ∷ ys) long more same = absurd (omega arith)
long_with left n (x ∷ xs) [] long more same = absurd (omega arith)
long_with left n (x ∷ xs) (y ∷ ys) long more same = (rw length-append (omega (arith, long.0, more.0)), long_with left n xs ys long.1 more.1 (omega arith))

pub first_with : (left n : ℕ) (xs ys : List (List Value)) → 0 < length xs → AreLong left xs → AreLong n ys → length xs ≡ length ys → length (get_or (join_columns xs ys) 0 []) ≡ left + n
unfolding join_columns
first_with left n [] ys some long more same = absurd (omega arith)
first_with left n (x ∷ xs) [] some long more same = absurd (omega arith)
first_with left n (x ∷ xs) (y ∷ ys) some long more same = rw length-append (omega (arith, long.0, more.0))

-- ---- a block handed over field by field

-- what waits when the first j fields have their items
unfoldable pub joined_to : ℕ → List (List Value) → List (List Value) → List (List Value)
joined_to zero xs ys = xs
joined_to (suc j) [] ys = []
joined_to (suc j) (x ∷ xs) [] = x ∷ xs
joined_to (suc j) (x ∷ xs) (y ∷ ys) = (x ++ y) ∷ joined_to j xs ys

pub joined_none : (xs ys : List (List Value)) → joined_to 0 xs ys ≡ xs
unfolding joined_to
joined_none xs ys = refl

pub length-joined_to : (j : ℕ) (xs ys : List (List Value)) → length (joined_to j xs ys) ≡ length xs
unfolding joined_to
length-joined_to zero xs ys = refl
length-joined_to (suc j) [] ys = refl
length-joined_to (suc j) (x ∷ xs) [] = refl
length-joined_to (suc j) (x ∷ xs) (y ∷ ys) = ap suc (length-joined_to j xs ys)

-- field j has none yet
pub joined_at : (j : ℕ) (xs ys : List (List Value)) → get_or (joined_to j xs ys) j [] ≡ get_or xs j []
unfolding joined_to
joined_at zero xs ys = refl
joined_at (suc j) [] ys = refl
joined_at (suc j) (x ∷ xs) [] = refl
joined_at (suc j) (x ∷ xs) (y ∷ ys) = joined_at j xs ys

pub joined_more : (j : ℕ) (xs ys : List (List Value)) → j < length xs → length xs ≡ length ys → set (joined_to j xs ys) j (get_or (joined_to j xs ys) j [] ++ get_or ys j []) ≡ joined_to (suc j) xs ys
unfolding joined_to
joined_more j [] ys below same = absurd (omega arith)
joined_more j (x ∷ xs) [] below same = absurd (omega arith)
joined_more zero (x ∷ xs) (y ∷ ys) below same = refl
joined_more (suc j) (x ∷ xs) (y ∷ ys) below same = ap (λ (zs : List (List Value)). (x ++ y) ∷ zs) (joined_more j xs ys (omega arith) (omega arith))

pub joined_all : (j : ℕ) (xs ys : List (List Value)) → j ≡ length xs → length xs ≡ length ys → joined_to j xs ys ≡ join_columns xs ys
unfolding joined_to join_columns
joined_all zero [] [] all same = refl
joined_all zero [] (y ∷ ys) all same = absurd (omega arith)
joined_all zero (x ∷ xs) ys all same = absurd (omega arith)
joined_all (suc j) [] ys all same = absurd (omega arith)
joined_all (suc j) (x ∷ xs) [] all same = absurd (omega arith)
joined_all (suc j) (x ∷ xs) (y ∷ ys) all same = ap (λ (zs : List (List Value)). (x ++ y) ∷ zs) (joined_all j xs ys (omega arith) (omega arith))
