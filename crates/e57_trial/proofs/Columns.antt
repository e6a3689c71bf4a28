-- The columns of some records in a row.
use Rattle.std.proofs.Common.{◌≡◌, ℕ, zero, suc, ◌+◌, ◌%◌, ◌<◌, ◌≤◌, List, [], ◌∷◌, ◌++◌, length, get_or, map, take, pos, refl, sym, ap, ◌∙◌, arith}
use Rattle.std.specs.List.{range_with_len, AllByRecursion}
use Rattle.std.proofs.lemmas.Int.{ints}
use Rattle.std.proofs.lemmas.List.{length-replicate}
use Rattle.std.proofs.lemmas.List.FromFn.{length-map-range_with_len}
use Rattle.e57_layout.specs.Values.{integers, words, strings, Value, whole, word, octets}
use Rattle.e57_layout.specs.Items.{AreColumns, AreItems, IsItem}
use Rattle.e57_layout.specs.Packing.{join_columns}
use Rattle.e57_trial.specs.Content.{columns_from, intensity_at, tag_at, x_at, y_at, z_at}
use Rattle.e57_trial.specs.Records.{coordinate_at, trial_kinds}

-- ---- lists made from the number of the record

pub first_items : {X : Type 0} (f : ℕ → X) (t : List X) (first n : ℕ) (d : X) → n ≤ length t → ((k : ℕ) → k < n → get_or t k d ≡ f (first + k)) → take n t ≡ map f (range_with_len first n)
first_items f t first zero d few each = refl
first_items f [] first (suc n) d few each = absurd (omega arith)
first_items f (x ∷ t) first (suc n) d few each =
    let none : first + 0 ≡ first = omega arith in
    let here : x ≡ f first = each 0 (omega arith) ∙ ap f none in
    let rest = first_items f t (first + 1) n d (omega arith) (λ k below. let place : first + suc k ≡ first + 1 + k = omega arith in each (suc k) (omega arith) ∙ ap f place) in
    cc

-- the same of items made from those of a list
pub held_items : {X Y : Type 0} (item : X → Y) (f : ℕ → X) (t : List X) (first n : ℕ) (d : X) → n ≤ length t → ((k : ℕ) → k < n → get_or t k d ≡ f (first + k)) → map item (take n t) ≡ map (λ i. item (f i)) (range_with_len first n)
held_items item f t first n d few each = ap (map item) (first_items f t first n d few each) ∙ both (range_with_len first n)
  where
    both : (numbers : List ℕ) → map item (map f numbers) ≡ map (λ i. item (f i)) numbers
    both [] = refl
    both (i ∷ numbers) = ap (λ ys. item (f i) ∷ ys) (both numbers)

pub append_range : {X : Type 0} (f : ℕ → X) (a n m : ℕ) → map f (range_with_len a n) ++ map f (range_with_len (a + n) m) ≡ map f (range_with_len a (n + m))
append_range f a zero m =
    let place : a + 0 ≡ a = omega arith in
    let size : 0 + m ≡ m = omega arith in
    rw (place, size) refl
append_range f a (suc n) m =
    let place : a + suc n ≡ a + 1 + n = omega arith in
    let size : suc n + m ≡ suc (n + m) = omega arith in
    rw (place, size) (ap (λ xs. f a ∷ xs) (append_range f (a + 1) n m))

all_items : (P : Value → Type 0) (f : ℕ → Value) (first n : ℕ) → ((i : ℕ) → P (f i)) → AllByRecursion P (map f (range_with_len first n))
all_items P f first zero each = tt
all_items P f first (suc n) each = (each first, all_items P f (first + 1) n each)

-- ---- they are columns of the fields

coordinate_item : (start factor i : ℕ) → IsItem (integers (pos 0) (pos 1048575)) (whole (pos (coordinate_at start factor i)))
coordinate_item start factor i = (omega (arith, ints), omega (arith, ints))

intensity_item : (i : ℕ) → IsItem (integers (pos 0) (pos 255)) (whole (pos (intensity_at i)))
intensity_item i = (omega (arith, ints), omega (arith, ints))

row_item : IsItem (integers (pos 0) (pos 0)) (whole (pos 0))
row_item = (omega (arith, ints), omega (arith, ints))

z_item : (i : ℕ) → IsItem (words 32) (word (z_at i))
z_item i = omega arith

tag_item : (i : ℕ) → IsItem strings (octets (tag_at i))
tag_item i = let size : length (tag_at i) ≡ i % 4 = length-replicate (i % 4) 0x61 in omega (arith, size)

pub coordinates_are : (start factor first n : ℕ) → AreItems (integers (pos 0) (pos 1048575)) (map (λ i. whole (pos (coordinate_at start factor i))) (range_with_len first n))
coordinates_are start factor first n = all_items (IsItem (integers (pos 0) (pos 1048575))) (λ i. whole (pos (coordinate_at start factor i))) first n (coordinate_item start factor)

pub intensities_are : (first n : ℕ) → AreItems (integers (pos 0) (pos 255)) (map (λ i. whole (pos (intensity_at i))) (range_with_len first n))
intensities_are first n = all_items (IsItem (integers (pos 0) (pos 255))) (λ i. whole (pos (intensity_at i))) first n intensity_item

pub rows_are : (first n : ℕ) → AreItems (integers (pos 0) (pos 0)) (map (λ (i : ℕ). whole (pos 0)) (range_with_len first n))
rows_are first n = all_items (IsItem (integers (pos 0) (pos 0))) (λ (i : ℕ). whole (pos 0)) first n (λ i. row_item)

pub columns_are : (start first n : ℕ) → AreColumns trial_kinds n (columns_from start first n)
columns_are start first n =
    let x = length-map-range_with_len (λ i. whole (pos (x_at start i))) first n in
    let y = length-map-range_with_len (λ i. whole (pos (y_at start i))) first n in
    let intensity = length-map-range_with_len (λ i. whole (pos (intensity_at i))) first n in
    let row = length-map-range_with_len (λ (i : ℕ). whole (pos 0)) first n in
    let z = length-map-range_with_len (λ i. word (z_at i)) first n in
    let tag = length-map-range_with_len (λ i. octets (tag_at i)) first n in
    let z_items = all_items (IsItem (words 32)) (λ i. word (z_at i)) first n z_item in
    let tag_items = all_items (IsItem strings) (λ i. octets (tag_at i)) first n tag_item in
    (x, coordinates_are start 3 first n, (y, coordinates_are start 5 first n, (intensity, intensities_are first n, (row, rows_are first n, (z, z_items, (tag, tag_items, tt))))))

-- ---- more records

behind_first : (f : ℕ → Value) (n m : ℕ) → map f (range_with_len 0 n) ++ map f (range_with_len n m) ≡ map f (range_with_len 0 (n + m))
behind_first f n m =
    let none : 0 + n ≡ n = omega arith in
    ap (λ a. map f (range_with_len 0 n) ++ map f (range_with_len a m)) (sym none) ∙ append_range f 0 n m

pub columns_more : (start n m : ℕ) → join_columns (columns_from start 0 n) (columns_from start n m) ≡ columns_from start 0 (n + m)
unfolding join_columns
columns_more start n m =
    let x = behind_first (λ i. whole (pos (x_at start i))) n m in
    let y = behind_first (λ i. whole (pos (y_at start i))) n m in
    let intensity = behind_first (λ i. whole (pos (intensity_at i))) n m in
    let row = behind_first (λ (i : ℕ). whole (pos 0)) n m in
    let z = behind_first (λ i. word (z_at i)) n m in
    let tag = behind_first (λ i. octets (tag_at i)) n m in
    cc

-- ---- their tags are short

-- a string of at most three bytes; other items are no strings
abbrev pub IsShort : Value → Type 0
IsShort (whole z) = Unit {0}
IsShort (word n) = Unit {0}
IsShort (octets t) = length t ≤ 3

abbrev pub AreShort : List (List Value) → Type 0
AreShort columns = AllByRecursion (AllByRecursion IsShort) columns

tag_short : (i : ℕ) → IsShort (octets (tag_at i))
tag_short i = let size : length (tag_at i) ≡ i % 4 = length-replicate (i % 4) 0x61 in omega (arith, size)

pub columns_short : (start first n : ℕ) → AreShort (columns_from start first n)
columns_short start first n = (
  all_items IsShort (λ i. whole (pos (x_at start i))) first n (λ i. tt),
  (
    all_items IsShort (λ i. whole (pos (y_at start i))) first n (λ i. tt),
    (
      all_items IsShort (λ i. whole (pos (intensity_at i))) first n (λ i. tt),
      (
        all_items IsShort (λ (i : ℕ). whole (pos 0)) first n (λ i. tt),
        (
          all_items IsShort (λ i. word (z_at i)) first n (λ i. tt),
          (all_items IsShort (λ i. octets (tag_at i)) first n tag_short, tt),
        ),
      ),
    ),
  ),
)
