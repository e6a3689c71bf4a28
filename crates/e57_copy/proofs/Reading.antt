-- What is found in a cloud without fault is its records.
use Rattle.std.proofs.Common.{◌≡◌, ℕ, zero, suc, ◌+◌, ◌<◌, ◌≤◌, List, [], ◌∷◌, length, map, get_or, slice_get, take, pos, Option, Some, None, Result, Ok, refl, sym, subst, ap, ◌∙◌, arith}
use Rattle.std.specs.List.{range_with_len}
use Rattle.e57_base.specs.declared.fault.Fault.{Fault}
use Rattle.e57_layout.specs.Values.{ItemKind, Value, whole}
use Rattle.e57_layout.specs.Items.{IsItem, AreItems, AreColumns}
use Rattle.e57_layout.specs.Packing.{first_records}
use Rattle.e57_layout.specs.declared.field.Fixed.{Fixed}
use Rattle.e57_layout.specs.declared.section.Section.{Section}
use Rattle.e57_cloud.specs.Cloud.{Leaf}
use Rattle.e57_cloud.specs.PathItem.{item_of}
use Rattle.e57_blocks.specs.Fields.{first_fault, record_fault}
use Rattle.e57_copy.specs.Found.{AreFound, AreFoundColumns}
use Rattle.e57_copy.proofs.Columns.{AreLong}

-- fields in a row, each with its number
abbrev pub in_a_row : (ℕ → Leaf) → ℕ → ℕ → List (ℕ × Leaf)
in_a_row leaf from m = map (λ (f : ℕ). (f, leaf f)) (range_with_len from m)

-- the items of these m fields and first n records are those of these columns
abbrev pub ItemsAre : List ℕ → Section → Option Fixed → (ℕ → Leaf) → ℕ → ℕ → ℕ → List (List Value) → Type 0
ItemsAre file s fixed leaf from m n columns =
    (g i : ℕ) (d : Value) → g < m → i < n → item_of file s fixed (from + g) (leaf (from + g)) i ≡ Ok (get_or (get_or columns g []) i d)

same_ok : (x y : Value) (r : Result Value Fault) → r ≡ Ok x → r ≡ Ok y → x ≡ y
same_ok x y r first next = let e : ◌≡◌ {A = Result Value Fault} (Ok x) (Ok y) = sym first ∙ next in cc

-- ---- columns

same_column : (item : ℕ → Result Value Fault) (i : ℕ) (xs ys : List Value) (d : Value) → length xs ≡ length ys → AreFound item i xs → ((k : ℕ) → k < length ys → item (i + k) ≡ Ok (get_or ys k d)) → xs ≡ ys
unfolding AreFound
same_column item i [] [] d same found each = refl
same_column item i [] (y ∷ ys) d same found each = absurd (omega arith)
same_column item i (x ∷ xs) [] d same found each = absurd (omega arith)
same_column item i (x ∷ xs) (y ∷ ys) d same found each =
    let none : i + 0 ≡ i = omega arith in
    let here : x ≡ y = same_ok x y (item i) found.0 (rw none at (each 0 (omega arith))) in
    let rest : xs ≡ ys = same_column item (i + 1) xs ys d (omega arith) found.1 (λ k below. let place : i + suc k ≡ i + 1 + k = omega arith in rw place at (each (suc k) (omega (arith, below)))) in
    rw (here, rest) refl

later_items : (file : List ℕ) (s : Section) (fixed : Option Fixed) (leaf : ℕ → Leaf) (from m n : ℕ) (y : List Value) (ys : List (List Value)) → ItemsAre file s fixed leaf from (suc m) n (y ∷ ys) → ItemsAre file s fixed leaf (from + 1) m n ys
later_items file s fixed leaf from m n y ys each g i d below within =
    let place : from + suc g ≡ from + 1 + g = omega arith in
    subst (λ (f : ℕ). item_of file s fixed f (leaf f) i ≡ Ok (get_or (get_or ys g []) i d)) place (each (suc g) i d (omega (arith, below)) within)

first_items : (file : List ℕ) (s : Section) (fixed : Option Fixed) (leaf : ℕ → Leaf) (from m n : ℕ) (y : List Value) (ys : List (List Value)) → ItemsAre file s fixed leaf from (suc m) n (y ∷ ys) → (i : ℕ) (d : Value) → i < n
    → item_of file s fixed from (leaf from) i ≡ Ok (get_or y i d)
first_items file s fixed leaf from m n y ys each i d within =
    let place : from + 0 ≡ from = omega arith in
    subst (λ (f : ℕ). item_of file s fixed f (leaf f) i ≡ Ok (get_or y i d)) place (each 0 i d (omega arith) within)

pub same_columns : (file : List ℕ) (s : Section) (fixed : Option Fixed) (leaf : ℕ → Leaf) (from m n : ℕ) (xs ys : List (List Value)) → length ys ≡ m → AreLong n xs → AreLong n ys → AreFoundColumns file s fixed (in_a_row leaf from m) 0 xs → ItemsAre file s fixed leaf from m n ys → xs ≡ ys
unfolding AreFoundColumns
same_columns file s fixed leaf from zero n [] [] many long large found each = refl
same_columns file s fixed leaf from zero n [] (y ∷ ys) many long large found each = absurd (omega arith)
same_columns file s fixed leaf from zero n (x ∷ xs) ys many long large found each = absurd found
same_columns file s fixed leaf from (suc m) n [] ys many long large found each = absurd found
same_columns file s fixed leaf from (suc m) n (x ∷ xs) [] many long large found each = absurd (omega arith)
same_columns file s fixed leaf from (suc m) n (x ∷ xs) (y ∷ ys) many long large found each =
    let size = long.0 in
    let other = large.0 in
    let here : x ≡ y = same_column (item_of file s fixed from (leaf from)) 0 x y (whole (pos 0)) (size ∙ sym other) found.0
    (λ k below. let place : 0 + k ≡ k = omega arith in subst (λ (i : ℕ). item_of file s fixed from (leaf from) i ≡ Ok (get_or y k (whole (pos 0)))) (sym place) (first_items file s fixed leaf from m n y ys each k (whole (pos 0)) (omega (arith, below, other)))) in
    let rest : xs ≡ ys = same_columns file s fixed leaf (from + 1) m n xs ys (omega arith) long.1 large.1 found.1 (later_items file s fixed leaf from m n y ys each) in
    rw (here, rest) refl

-- ---- no fault

pub no_fault : (file : List ℕ) (s : Section) (fixed : Option Fixed) (leaf : ℕ → Leaf) (from m n : ℕ) (ys : List (List Value)) (i : ℕ) → length ys ≡ m → i < n → ItemsAre file s fixed leaf from m n ys → record_fault file s fixed (in_a_row leaf from m) i ≡ None
unfolding first_fault
no_fault file s fixed leaf from zero n ys i many within each = refl
no_fault file s fixed leaf from (suc m) n [] i many within each = absurd (omega arith)
no_fault file s fixed leaf from (suc m) n (y ∷ ys) i many within each =
    let here = first_items file s fixed leaf from m n y ys each i (whole (pos 0)) within in
    rw here (no_fault file s fixed leaf (from + 1) m n ys i (omega arith) within (later_items file s fixed leaf from m n y ys each))

-- ---- no item of another kind

some_same : {A : Type 0} (x y : A) → ◌≡◌ {A = Option A} (Some x) (Some y) → x ≡ y
some_same x y is = cc

asked_at : (leaf : ℕ → Leaf) (from m j : ℕ) (field : ℕ × Leaf) → slice_get (in_a_row leaf from m) j ≡ Some field → (j < m) × (field ≡ (from + j, leaf (from + j)))
asked_at leaf from zero j field is = absurd cc
asked_at leaf from (suc m) zero field is =
    let place : from ≡ from + 0 = omega arith in
    (omega arith, sym (some_same (from, leaf from) field is) ∙ ap (λ (f : ℕ). (f, leaf f)) place)
asked_at leaf from (suc m) (suc j) field is =
    let rest = asked_at leaf (from + 1) m j field is in
    let place : from + 1 + j ≡ from + suc j = omega arith in
    let below = rest.0 in
    (omega (arith, below), rest.1 ∙ ap (λ (f : ℕ). (f, leaf f)) place)

item_within : (kind : ItemKind) (i : ℕ) (column : List Value) (d : Value) → AreItems kind column → i < length column → IsItem kind (get_or column i d)
item_within kind i [] d are below = absurd (omega arith)
item_within kind zero (x ∷ xs) d are below = are.0
item_within kind (suc i) (x ∷ xs) d are below = item_within kind i xs d are.1 (omega (arith, below))

items_within : (kinds : List ItemKind) (n j i : ℕ) (columns : List (List Value)) (kind : ItemKind) (d : Value) → AreColumns kinds n columns → slice_get kinds j ≡ Some kind → i < n → IsItem kind (get_or (get_or columns j []) i d)
items_within [] n j i columns kind d are is below = absurd cc
items_within (k ∷ kinds) n j i [] kind d are is below = absurd are
items_within (k ∷ kinds) n zero i (column ∷ columns) kind d are is below =
    let long = are.0 in
    subst (λ (x : ItemKind). IsItem x (get_or column i d)) (some_same k kind is) (item_within k i column d are.1 (omega (arith, long, below)))
items_within (k ∷ kinds) n (suc j) i (column ∷ columns) kind d are is below = items_within kinds n j i columns kind d are.2 is below

pub none_outside : (file : List ℕ) (s : Section) (fixed : Option Fixed) (leaf : ℕ → Leaf) (m n : ℕ) (kinds : List ItemKind) (ys : List (List Value)) (i j : ℕ) (field : ℕ × Leaf) (kind : ItemKind) (value : Value) → AreColumns kinds n ys → i < n → ItemsAre file s fixed leaf 0 m n ys
    → slice_get (in_a_row leaf 0 m) j ≡ Some field → slice_get kinds j ≡ Some kind → item_of file s fixed field.0 field.1 i ≡ Ok value → IsItem kind value
none_outside file s fixed leaf m n kinds ys i j field kind value are below each at_asked at_kind item =
    let place = asked_at leaf 0 m j field at_asked in
    let here = subst (λ (x : ℕ × Leaf). item_of file s fixed x.0 x.1 i ≡ Ok value) place.1 item in
    let same = same_ok (get_or (get_or ys j []) i value) value (item_of file s fixed (0 + j) (leaf (0 + j)) i) (each j i value place.0 below) here in
    subst (λ (v : Value). IsItem kind v) same (items_within kinds n j i ys kind value are at_kind below)

-- ---- the first records

take_at_place : (k i : ℕ) (column : List Value) (d : Value) → i < k → get_or (take k column) i d ≡ get_or column i d
take_at_place zero i column d below = absurd (omega arith)
take_at_place (suc k) i [] d below = refl
take_at_place (suc k) zero (x ∷ xs) d below = refl
take_at_place (suc k) (suc i) (x ∷ xs) d below = take_at_place k i xs d (omega (arith, below))

first_at_place : (k g i : ℕ) (columns : List (List Value)) (d : Value) → i < k → get_or (get_or (first_records k columns) g []) i d ≡ get_or (get_or columns g []) i d
unfolding first_records
first_at_place k g i [] d below = refl
first_at_place k zero i (column ∷ columns) d below = take_at_place k i column d below
first_at_place k (suc g) i (column ∷ columns) d below = first_at_place k g i columns d below

pub items_first : (file : List ℕ) (s : Section) (fixed : Option Fixed) (leaf : ℕ → Leaf) (from m n k : ℕ) (ys : List (List Value)) → k ≤ n → ItemsAre file s fixed leaf from m n ys → ItemsAre file s fixed leaf from m k (first_records k ys)
items_first file s fixed leaf from m n k ys few each g i d below within = each g i d below (omega (arith, within, few)) ∙ ap (λ (v : Value). Ok v) (sym (first_at_place k g i ys d within))
