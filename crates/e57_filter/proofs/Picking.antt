-- Laws of items that are picked by flags.
use Rattle.std.proofs.Common.{◌≡◌, ℕ, zero, suc, ◌+◌, ◌-◌, ◌<◌, ◌≤◌, Bool, true, false, cond, List, [], ◌∷◌, ◌++◌, length, map, take, drop, get_or, refl, sym, subst, ap, ◌∙◌, arith}
use Rattle.std.specs.List.{AllByRecursion, range_with_len}
use Rattle.std.proofs.lemmas.List.{length-append}
use Rattle.e57_base.proofs.Lists.{all_map}
use Rattle.e57_layout.specs.Values.{ItemKind, Value}
use Rattle.e57_layout.specs.Items.{AreColumns, AreItems}
use Rattle.e57_layout.specs.Packing.{join_columns}
use Rattle.e57_plain.specs.Kept.{chosen}
use Rattle.e57_copy.specs.Items.{AreAlike, IsAlike}
use Rattle.e57_layout.specs.Values.{integers, words, strings}
use Rattle.e57_copy.proofs.Columns.{no_records}
use Rattle.e57_blocks.specs.Block.{Block, held_item}
use Rattle.e57_blocks.specs.Runs.{held_values, HasRecords}
use Rattle.e57_copy.specs.Adding.{held_columns}
use Rattle.e57_filter.specs.Marking.{mark_count, picked}

-- ---- one column

-- the flags of these places are all `flag`
abbrev pub AreAll : Bool → ℕ → ℕ → List Bool → Type 0
AreAll flag a b flags = (j : ℕ) → a ≤ j → j < b → get_or flags j false ≡ flag

later : (flag b : Bool) (a m : ℕ) (flags : List Bool) → AreAll flag (suc a) (suc m) (b ∷ flags) → AreAll flag a m flags
later flag b a m flags all = λ j low high. all (suc j) (omega (arith, low)) (omega (arith, high))

rest_all : (flag b : Bool) (m : ℕ) (flags : List Bool) → AreAll flag 0 (suc m) (b ∷ flags) → AreAll flag 0 m flags
rest_all flag b m flags all = λ j low high. all (suc j) (omega arith) (omega (arith, high))

pub passed_over : {X : Type 0} (k e : ℕ) (flags : List Bool) (xs : List X) → k ≤ e → AreAll false k e flags → chosen (take e flags) xs ≡ chosen (take k flags) xs
passed_over zero zero flags xs low all = refl
passed_over zero (suc e) [] xs low all = refl
passed_over zero (suc e) (b ∷ flags) [] low all = refl
passed_over zero (suc e) (b ∷ flags) (x ∷ xs) low all =
    let here : b ≡ false = all 0 (omega arith) (omega arith) in
    rw here (passed_over zero e flags xs (omega arith) (rest_all false b e flags all))
passed_over (suc k) zero flags xs low all = absurd (omega (arith, low))
passed_over (suc k) (suc e) [] xs low all = refl
passed_over (suc k) (suc e) (b ∷ flags) [] low all = refl
passed_over {X = X} (suc k) (suc e) (b ∷ flags) (x ∷ xs) low all =
    ap (λ (ys : List X). cond b (x ∷ ys) ys) (passed_over k e flags xs (omega (arith, low)) (later false b k e flags all))

pub picked_up : {X : Type 0} (k e m : ℕ) (flags : List Bool) (xs : List X) → e ≡ k + m → length xs ≡ length flags → e ≤ length flags → AreAll true k e flags → chosen (take e flags) xs ≡ chosen (take k flags) xs ++ take m (drop k xs)
picked_up zero zero zero flags xs sum same within all = refl
picked_up zero zero (suc m) flags xs sum same within all = absurd (omega (arith, sum))
picked_up zero (suc e) zero flags xs sum same within all = absurd (omega (arith, sum))
picked_up zero (suc e) (suc m) [] xs sum same within all = absurd (omega (arith, within))
picked_up zero (suc e) (suc m) (b ∷ flags) [] sum same within all = absurd (omega (arith, same))
picked_up {X = X} zero (suc e) (suc m) (b ∷ flags) (x ∷ xs) sum same within all =
    let here : b ≡ true = all 0 (omega arith) (omega arith) in
    rw here (ap (λ (ys : List X). x ∷ ys) (picked_up zero e m flags xs (omega (arith, sum)) (omega (arith, same)) (omega (arith, within)) (rest_all true b e flags all)))
picked_up (suc k) zero m flags xs sum same within all = absurd (omega (arith, sum))
picked_up (suc k) (suc e) m [] xs sum same within all = absurd (omega (arith, within))
picked_up (suc k) (suc e) m (b ∷ flags) [] sum same within all = absurd (omega (arith, same))
picked_up {X = X} (suc k) (suc e) m (b ∷ flags) (x ∷ xs) sum same within all =
    by_flag b (picked_up k e m flags xs (omega (arith, sum)) (omega (arith, same)) (omega (arith, within)) (later true b k e flags all))
  where
    by_flag : (c : Bool) → chosen (take e flags) xs ≡ chosen (take k flags) xs ++ take m (drop k xs)
        → cond c (x ∷ chosen (take e flags) xs) (chosen (take e flags) xs) ≡ cond c (x ∷ chosen (take k flags) xs) (chosen (take k flags) xs) ++ take m (drop k xs)
    by_flag true is = ap (λ (ys : List X). x ∷ ys) is
    by_flag false is = is

-- as many as of any other column
pub length-chosen : {X Y : Type 0} (flags : List Bool) (xs : List X) (ys : List Y) → length xs ≡ length ys → length (chosen flags xs) ≡ length (chosen flags ys)
length-chosen [] xs ys same = refl
length-chosen (b ∷ flags) [] [] same = refl
length-chosen (b ∷ flags) [] (y ∷ ys) same = absurd (omega (arith, same))
length-chosen (b ∷ flags) (x ∷ xs) [] same = absurd (omega (arith, same))
length-chosen (true ∷ flags) (x ∷ xs) (y ∷ ys) same = ap suc (length-chosen flags xs ys (omega (arith, same)))
length-chosen (false ∷ flags) (x ∷ xs) (y ∷ ys) same = length-chosen flags xs ys (omega (arith, same))

-- no more than there are
pub chosen-few : {X : Type 0} (flags : List Bool) (xs : List X) → length (chosen flags xs) ≤ length flags
chosen-few [] xs = omega arith
chosen-few (b ∷ flags) [] = omega arith
chosen-few (true ∷ flags) (x ∷ xs) = let few = chosen-few flags xs in omega (arith, few)
chosen-few (false ∷ flags) (x ∷ xs) = let few = chosen-few flags xs in omega (arith, few)

items-chosen : (kind : ItemKind) (flags : List Bool) (xs : List Value) → AreItems kind xs → AreItems kind (chosen flags xs)
items-chosen kind [] xs are = tt
items-chosen kind (b ∷ flags) [] are = tt
items-chosen kind (true ∷ flags) (x ∷ xs) are = (are.0, items-chosen kind flags xs are.1)
items-chosen kind (false ∷ flags) (x ∷ xs) are = items-chosen kind flags xs are.1

-- ---- all columns

pub picked_columns : (kinds : List ItemKind) (n : ℕ) (flags : List Bool) (columns : List (List Value)) → length flags ≡ n → AreColumns kinds n columns → AreColumns kinds (mark_count flags) (picked flags columns)
picked_columns [] n flags [] long are = tt
picked_columns [] n flags (column ∷ columns) long are = absurd are
picked_columns (kind ∷ kinds) n flags [] long are = absurd are
picked_columns (kind ∷ kinds) n flags (column ∷ columns) long are =
    (length-chosen flags column flags (are.0 ∙ sym long), items-chosen kind flags column are.1, picked_columns kinds n flags columns long are.2)

-- of the first k records
pub picked_first : (kinds : List ItemKind) (n k : ℕ) (flags : List Bool) (columns : List (List Value)) → length flags ≡ n → AreColumns kinds n columns
    → AreColumns kinds (length (chosen (take k flags) flags)) (picked (take k flags) columns)
picked_first [] n k flags [] long are = tt
picked_first [] n k flags (column ∷ columns) long are = absurd are
picked_first (kind ∷ kinds) n k flags [] long are = absurd are
picked_first (kind ∷ kinds) n k flags (column ∷ columns) long are =
    (length-chosen (take k flags) column flags (are.0 ∙ sym long), items-chosen kind (take k flags) column are.1, picked_first kinds n k flags columns long are.2)

-- a part of columns
abbrev pub part_of : ℕ → ℕ → List (List Value) → List (List Value)
part_of a m columns = map (λ (column : List Value). take m (drop a column)) columns

pub picked_more : (kinds : List ItemKind) (n k a b : ℕ) (flags : List Bool) (columns : List (List Value)) → length flags ≡ n → AreColumns kinds n columns → k ≤ a → a ≤ b → b ≤ n
    → AreAll false k a flags → AreAll true a b flags → join_columns (picked (take k flags) columns) (part_of a (b - a) columns) ≡ picked (take b flags) columns
unfolding join_columns
picked_more [] n k a b flags [] long are low mid high off on = refl
picked_more [] n k a b flags (column ∷ columns) long are low mid high off on = absurd are
picked_more (kind ∷ kinds) n k a b flags [] long are low mid high off on = absurd are
picked_more (kind ∷ kinds) n k a b flags (column ∷ columns) long are low mid high off on =
    let over : chosen (take a flags) column ≡ chosen (take k flags) column =
    passed_over k a flags column low off in
    let up : chosen (take b flags) column ≡ chosen (take a flags) column ++ take (b - a) (drop a column) =
    picked_up a b (b - a) flags column (omega (arith, mid)) (are.0 ∙ sym long) (omega (arith, high, long)) on in
    rw (up, over, picked_more kinds n k a b flags columns long are.2 low mid high off on) refl

-- how many are marked of the first ones
pub count_more : (n k a b : ℕ) (flags : List Bool) → length flags ≡ n → k ≤ a → a ≤ b → b ≤ n → AreAll false k a flags → AreAll true a b flags
    → length (chosen (take k flags) flags) + (b - a) ≡ length (chosen (take b flags) flags)
count_more n k a b flags long low mid high off on =
    let over : chosen (take a flags) flags ≡ chosen (take k flags) flags =
    passed_over k a flags flags low off in
    let up : chosen (take b flags) flags ≡ chosen (take a flags) flags ++ take (b - a) (drop a flags) =
    picked_up a b (b - a) flags flags (omega (arith, mid)) refl (omega (arith, high, long)) on in
    let rest : length (take (b - a) (drop a flags)) ≡ b - a = length-part a (b - a) flags (omega (arith, mid, high, long)) in
    rw (up, length-append, rest, over) refl
  where
    length-part : (x m : ℕ) (bs : List Bool) → x + m ≤ length bs → length (take m (drop x bs)) ≡ m
    length-part zero zero bs within = refl
    length-part zero (suc m) [] within = absurd (omega (arith, within))
    length-part zero (suc m) (b ∷ bs) within = ap suc (length-part zero m bs (omega (arith, within)))
    length-part (suc x) m [] within = absurd (omega (arith, within))
    length-part (suc x) m (b ∷ bs) within = length-part x m bs (omega (arith, within))

-- ---- a part of what blocks hold

part_range : (item : ℕ → Value) (i n a m : ℕ) → a + m ≤ n → take m (drop a (map item (range_with_len i n))) ≡ map item (range_with_len (i + a) m)
part_range item i n zero zero within = refl
part_range item i zero zero (suc m) within = absurd (omega (arith, within))
part_range item i (suc n) zero (suc m) within =
    let place : i + 0 ≡ i = omega arith in
    let next : i + 1 + 0 ≡ i + 1 = omega arith in
    let rest = part_range item (i + 1) n zero m (omega (arith, within)) in
    rw place (ap (λ (xs : List Value). item i ∷ xs) (subst (λ (p : ℕ). take m (map item (range_with_len (i + 1) n)) ≡ map item (range_with_len p m)) next rest))
part_range item i zero (suc a) m within = absurd (omega (arith, within))
part_range item i (suc n) (suc a) m within =
    let place : i + 1 + a ≡ i + suc a = omega arith in
    subst (λ (p : ℕ). take m (drop a (map item (range_with_len (i + 1) n))) ≡ map item (range_with_len p m)) place (part_range item (i + 1) n a m (omega (arith, within)))

pub held_part : (blocks : List Block) (i n a m : ℕ) → a + m ≤ n → AllByRecursion (HasRecords i n) blocks → held_columns blocks (i + a) m ≡ part_of a m (held_columns blocks i n)
held_part [] i n a m within have = refl
held_part (b ∷ blocks) i n a m within have =
    let low = have.0.0 in
    let place : i - b.first + a ≡ i + a - b.first = omega (arith, low) in
    let here : take m (drop a (held_values b i n)) ≡ held_values b (i + a) m =
    subst (λ (p : ℕ). take m (drop a (held_values b i n)) ≡ map (held_item b) (range_with_len p m)) place (part_range (held_item b) (i - b.first) n a m within) in
    rw (here, held_part blocks i n a m within have.1) refl

pub have_part : (blocks : List Block) (i n a m : ℕ) → a + m ≤ n → AllByRecursion (HasRecords i n) blocks → AllByRecursion (HasRecords (i + a) m) blocks
have_part blocks i n a m within have = all_map (HasRecords i n) (HasRecords (i + a) m) blocks (λ b has. let low = has.0 in let high = has.1 in (omega (arith, low), omega (arith, high, within))) have

items-part : (kind : ItemKind) (a m : ℕ) (xs : List Value) → AreItems kind xs → AreItems kind (take m (drop a xs))
items-part kind zero zero xs are = tt
items-part kind zero (suc m) [] are = tt
items-part kind zero (suc m) (x ∷ xs) are = (are.0, items-part kind zero m xs are.1)
items-part kind (suc a) zero [] are = tt
items-part kind (suc a) (suc m) [] are = tt
items-part kind (suc a) m (x ∷ xs) are = items-part kind a m xs are.1

length-items : (a m : ℕ) (xs : List Value) → a + m ≤ length xs → length (take m (drop a xs)) ≡ m
length-items zero zero xs within = refl
length-items zero (suc m) [] within = absurd (omega (arith, within))
length-items zero (suc m) (x ∷ xs) within = ap suc (length-items zero m xs (omega (arith, within)))
length-items (suc a) m [] within = absurd (omega (arith, within))
length-items (suc a) m (x ∷ xs) within = length-items a m xs (omega (arith, within))

pub columns_part : (kinds : List ItemKind) (n a m : ℕ) (columns : List (List Value)) → a + m ≤ n → AreColumns kinds n columns → AreColumns kinds m (part_of a m columns)
columns_part [] n a m [] within are = tt
columns_part [] n a m (column ∷ columns) within are = absurd are
columns_part (kind ∷ kinds) n a m [] within are = absurd are
columns_part (kind ∷ kinds) n a m (column ∷ columns) within are =
    (length-items a m column (omega (arith, within, are.0)), items-part kind a m column are.1, columns_part kinds n a m columns within are.2)

-- ---- kinds

alike_self : (kind : ItemKind) → IsAlike kind kind
alike_self (integers low high) = tt
alike_self (words w) = refl
alike_self strings = refl

pub alike_all : (kinds : List ItemKind) → AreAlike kinds kinds
unfolding AreAlike
alike_all [] = tt
alike_all (kind ∷ kinds) = (alike_self kind, alike_all kinds)

-- ---- none

pub none_are : (kinds : List ItemKind) (columns : List (List Value)) → AreColumns kinds 0 columns → columns ≡ no_records kinds
none_are [] [] are = refl
none_are [] (column ∷ columns) are = absurd are
none_are (kind ∷ kinds) [] are = absurd are
none_are (kind ∷ kinds) ([] ∷ columns) are = ap (λ (cs : List (List Value)). [] ∷ cs) (none_are kinds columns are.2)
none_are (kind ∷ kinds) ((x ∷ column) ∷ columns) are = absurd (omega (arith, are.0))
