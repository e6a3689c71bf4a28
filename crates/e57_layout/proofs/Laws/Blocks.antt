-- Laws of records that are cut into blocks: joined again they are the records, and each block has its columns.
use Rattle.std.proofs.Common.{◌≡◌, ℕ, zero, suc, ◌+◌, ◌-◌, ◌*◌, ◌<◌, ◌≤◌, ◌==◌, min, false, cond, List, [], ◌∷◌, ◌++◌, length, take, drop, get_or, refl, sym, ap, ◌∙◌, arith, length-append, length-take, length-drop}
use Rattle.std.specs.List.{flat_map, AllByRecursion}
use Rattle.std.proofs.lemmas.Bool.{cond_both, cond-false, eqb-true, eqb-false, ne_eqb}
use Rattle.std.proofs.lemmas.List.{take-append-drop, nil_from_length, take-take, drop-take, drop-drop, take_at, drop_at}
use Rattle.e57_layout.specs.Values.{ItemKind, Value}
use Rattle.e57_layout.specs.Items.{IsItem, AreItems, AreColumns}
use Rattle.e57_layout.proofs.Laws.Lists.{all-append, all-take, all-drop}
use Rattle.e57_layout.specs.Packing.{first_records, later_records, join_columns, Block, cut_blocks, blocks}

-- ---- columns

pub columns-length : (kinds : List ItemKind) (n : ℕ) (columns : List (List Value)) → AreColumns kinds n columns → length columns ≡ length kinds
columns-length [] n [] h = refl
columns-length [] n (column ∷ columns) h = absurd h
columns-length (kind ∷ kinds) n [] h = absurd h
columns-length (kind ∷ kinds) n (column ∷ columns) h = ap suc (columns-length kinds n columns h.2)

-- column f
pub columns-at : (kinds : List ItemKind) (n : ℕ) (columns : List (List Value)) (f : ℕ) (kind : ItemKind) → AreColumns kinds n columns → f < length kinds → (length (get_or columns f []) ≡ n) × AreItems (get_or kinds f kind) (get_or columns f [])
columns-at [] n columns f other h g = absurd (omega arith)
columns-at (kind ∷ kinds) n [] f other h g = absurd h
columns-at (kind ∷ kinds) n (column ∷ columns) zero other h g = (h.0, h.1)
columns-at (kind ∷ kinds) n (column ∷ columns) (suc f) other h g = columns-at kinds n columns f other h.2 (omega arith)

pub first_records-columns : (kinds : List ItemKind) (n count : ℕ) (columns : List (List Value)) → AreColumns kinds count columns → AreColumns kinds (min n count) (first_records n columns)
unfolding first_records
first_records-columns [] n count [] h = tt
first_records-columns [] n count (column ∷ columns) h = absurd h
first_records-columns (kind ∷ kinds) n count [] h = absurd h
first_records-columns (kind ∷ kinds) n count (column ∷ columns) h =
    (length-take n column ∙ ap (min n) h.0, all-take (IsItem kind) n column h.1, first_records-columns kinds n count columns h.2)

pub later_records-columns : (kinds : List ItemKind) (n count : ℕ) (columns : List (List Value)) → AreColumns kinds count columns → AreColumns kinds (count - n) (later_records n columns)
unfolding later_records
later_records-columns [] n count [] h = tt
later_records-columns [] n count (column ∷ columns) h = absurd h
later_records-columns (kind ∷ kinds) n count [] h = absurd h
later_records-columns (kind ∷ kinds) n count (column ∷ columns) h =
    (length-drop n column ∙ ap (λ m. m - n) h.0, all-drop (IsItem kind) n column h.1, later_records-columns kinds n count columns h.2)

take-nil : (n : ℕ) → take {A = Value} n [] ≡ []
take-nil zero = refl
take-nil (suc n) = refl

drop-nil : (n : ℕ) → drop {A = Value} n [] ≡ []
drop-nil zero = refl
drop-nil (suc n) = refl

pub first_records-column : (n f : ℕ) (columns : List (List Value)) → get_or (first_records n columns) f [] ≡ take n (get_or columns f [])
unfolding first_records
first_records-column n f [] = sym (take-nil n)
first_records-column n zero (column ∷ columns) = refl
first_records-column n (suc f) (column ∷ columns) = first_records-column n f columns

pub later_records-column : (n f : ℕ) (columns : List (List Value)) → get_or (later_records n columns) f [] ≡ drop n (get_or columns f [])
unfolding later_records
later_records-column n f [] = sym (drop-nil n)
later_records-column n zero (column ∷ columns) = refl
later_records-column n (suc f) (column ∷ columns) = later_records-column n f columns

-- ---- blocks, step by step

-- the first block
abbrev pub first_block : ℕ → ℕ → List (List Value) → Block
first_block n count columns = record { count = min n count; columns = first_records n columns }

-- more than enough is enough
cut_blocks-enough : (most other n count : ℕ) (columns : List (List Value)) → 0 < n → count ≤ most → count ≤ other → cut_blocks most n count columns ≡ cut_blocks other n count columns
unfolding cut_blocks
cut_blocks-enough zero zero n count columns some h g = refl
cut_blocks-enough zero (suc other) n count columns some h g = let none : count ≡ 0 = omega arith in rw none refl
cut_blocks-enough (suc most) zero n count columns some h g = let none : count ≡ 0 = omega arith in rw none refl
cut_blocks-enough (suc most) (suc other) n count columns some h g =
    cond_both (count == 0) [] (first_block n count columns ∷ cut_blocks most n (count - n) (later_records n columns))
    (λ (parts : List Block). parts ≡ cond (count == 0) [] (first_block n count columns ∷ cut_blocks other n (count - n) (later_records n columns)))
    (λ none. rw none refl)
    (λ more. rw more (ap (λ later. first_block n count columns ∷ later) (cut_blocks-enough most other n (count - n) (later_records n columns) some (fewer count most h) (fewer count other g))))
  where
    fewer : (count most : ℕ) → count ≤ suc most → count - n ≤ most
    fewer count most h = omega arith

pub blocks-none : (n : ℕ) (columns : List (List Value)) → blocks n 0 columns ≡ []
unfolding blocks cut_blocks
blocks-none n columns = refl

pub blocks-step : (n count : ℕ) (columns : List (List Value)) → 0 < n → 0 < count → blocks n count columns ≡ first_block n count columns ∷ blocks n (count - n) (later_records n columns)
unfolding blocks cut_blocks
blocks-step n zero columns some h = absurd (omega arith)
blocks-step n (suc count) columns some h =
    cond-false (suc count == 0) [] (first_block n (suc count) columns ∷ cut_blocks count n (suc count - n) (later_records n columns)) (ne_eqb (suc count) 0 (λ none. omega arith))
    ∙ ap (λ later. first_block n (suc count) columns ∷ later) (cut_blocks-enough count (suc count - n) n (suc count - n) (later_records n columns) some (omega arith) (omega arith))

-- ---- what blocks are

-- a block of at most n records, and at least one
pub record IsBlock (kinds : List ItemKind) (n : ℕ) (block : Block) : Type 0 where
  pub some : 0 < block.count
  pub most : block.count ≤ n
  pub columns : AreColumns kinds block.count block.columns

cut_blocks-are : (most : ℕ) (kinds : List ItemKind) (n count : ℕ) (columns : List (List Value)) → 0 < n → AreColumns kinds count columns → AllByRecursion (IsBlock kinds n) (cut_blocks most n count columns)
unfolding cut_blocks
cut_blocks-are zero kinds n count columns some h = tt
cut_blocks-are (suc most) kinds n count columns some h =
    cond_both (count == 0) [] (first_block n count columns ∷ cut_blocks most n (count - n) (later_records n columns)) (AllByRecursion (IsBlock kinds n))
    (λ none. tt)
    (λ more. (record { some = least count more; most = omega arith; columns = first_records-columns kinds n count columns h }, cut_blocks-are most kinds n (count - n) (later_records n columns) some (later_records-columns kinds n count columns h)))
  where
    least : (count : ℕ) → (count == 0) ≡ false → 0 < min n count
    least zero more = absurd (eqb-false 0 0 more refl)
    least (suc count) more = omega arith

pub blocks-are : (kinds : List ItemKind) (n count : ℕ) (columns : List (List Value)) → 0 < n → AreColumns kinds count columns → AllByRecursion (IsBlock kinds n) (blocks n count columns)
unfolding blocks
blocks-are kinds n count columns some h = cut_blocks-are count kinds n count columns some h

-- column f of blocks, one after another
abbrev pub column_over : ℕ → List Block → List Value
column_over f parts = flat_map (λ (block : Block). get_or block.columns f []) parts

cut_blocks-column : (most n count f : ℕ) (columns : List (List Value)) → 0 < n → count ≤ most → length (get_or columns f []) ≤ count → column_over f (cut_blocks most n count columns) ≡ get_or columns f []
unfolding cut_blocks
cut_blocks-column zero n count f columns some h g = sym (nil_from_length (get_or columns f []) (omega arith))
cut_blocks-column (suc most) n count f columns some h g =
    let rest : get_or (later_records n columns) f [] ≡ drop n (get_or columns f []) = later_records-column n f columns in
    let fewer : length (get_or (later_records n columns) f []) ≤ count - n = rw (rest, length-drop) (omega arith) in
    cond_both (count == 0) [] (first_block n count columns ∷ cut_blocks most n (count - n) (later_records n columns)) (λ (parts : List Block). column_over f parts ≡ get_or columns f [])
    (λ none. let nothing : count ≡ 0 = eqb-true count 0 none in sym (nil_from_length (get_or columns f []) (omega arith)))
    (λ more. ap (λ later. get_or (first_records n columns) f [] ++ later) (cut_blocks-column most n (count - n) f (later_records n columns) some (omega arith) fewer)
    ∙ ap (λ front. front ++ get_or (later_records n columns) f []) (first_records-column n f columns)
    ∙ ap (λ later. take n (get_or columns f []) ++ later) rest
    ∙ take-append-drop n (get_or columns f []))

-- the records in their order: column f of the blocks is column f
pub blocks-column : (n count f : ℕ) (columns : List (List Value)) → 0 < n → length (get_or columns f []) ≤ count → column_over f (blocks n count columns) ≡ get_or columns f []
unfolding blocks
blocks-column n count f columns some h = cut_blocks-column count n count f columns some (omega arith) h

-- how many records blocks have
unfoldable pub block_records : List Block → ℕ
block_records [] = 0
block_records (block ∷ parts) = block.count + block_records parts

cut_blocks-records : (most n count : ℕ) (columns : List (List Value)) → 0 < n → count ≤ most → block_records (cut_blocks most n count columns) ≡ count
unfolding cut_blocks block_records
cut_blocks-records zero n count columns some h = omega arith
cut_blocks-records (suc most) n count columns some h =
    let rest : block_records (cut_blocks most n (count - n) (later_records n columns)) ≡ count - n = cut_blocks-records most n (count - n) (later_records n columns) some (omega arith) in
    cond_both (count == 0) [] (first_block n count columns ∷ cut_blocks most n (count - n) (later_records n columns)) (λ (parts : List Block). block_records parts ≡ count)
    (λ none. let nothing : count ≡ 0 = eqb-true count 0 none in omega arith)
    (λ more. omega arith)

pub blocks-records : (n count : ℕ) (columns : List (List Value)) → 0 < n → block_records (blocks n count columns) ≡ count
unfolding blocks
blocks-records n count columns some = cut_blocks-records count n count columns some (omega arith)

-- ---- blocks after whole blocks

first_records-first : (n m : ℕ) (columns : List (List Value)) → first_records n (first_records (n + m) columns) ≡ first_records n columns
unfolding first_records
first_records-first n m [] = refl
first_records-first n m (column ∷ columns) = rw (take-take n (n + m) column (omega arith), first_records-first n m columns)

later_records-first : (n m : ℕ) (columns : List (List Value)) → later_records n (first_records (n + m) columns) ≡ first_records m (later_records n columns)
unfolding first_records later_records
later_records-first n m [] = refl
later_records-first n m (column ∷ columns) = rw (drop-take n m column, later_records-first n m columns)

pub later_records-later : (n m : ℕ) (columns : List (List Value)) → later_records m (later_records n columns) ≡ later_records (n + m) columns
unfolding later_records
later_records-later n m [] = refl
later_records-later n m (column ∷ columns) = rw (drop-drop m n column, later_records-later n m columns)

later_records-zero : (columns : List (List Value)) → later_records 0 columns ≡ columns
unfolding later_records
later_records-zero [] = refl
later_records-zero (column ∷ columns) = ap (λ later. column ∷ later) (later_records-zero columns)

-- the first blocks are those of the first n * m records, the others those of what follows
pub blocks-whole : (m n count : ℕ) (columns : List (List Value)) → 0 < n → blocks n (n * m + count) columns ≡ blocks n (n * m) (first_records (n * m) columns) ++ blocks n count (later_records (n * m) columns)
blocks-whole zero n count columns some =
    let none : n * 0 ≡ 0 = grind arith in
    let plain : 0 + count ≡ count = omega arith in
    rw (none, plain, blocks-none, later_records-zero columns) refl
blocks-whole (suc m) n count columns some =
    let size : n * suc m ≡ n + n * m = grind arith in
    let left : n + n * m + count - n ≡ n * m + count = omega arith in
    let fewer : n + n * m - n ≡ n * m = omega arith in
    let least : min n (n + n * m + count) ≡ n = omega arith in
    let also : min n (n + n * m) ≡ n = omega arith in
    rw (size, blocks-step n (n + n * m + count) columns some (omega arith), blocks-step n (n + n * m) (first_records (n + n * m) columns) some (omega arith), left, fewer, least, also, first_records-first n (n * m) columns, later_records-first n (n * m) columns, blocks-whole m n count (later_records n columns) some, later_records-later n (n * m) columns)
    refl

-- records after records
pub join_columns-first : (kinds : List ItemKind) (n m : ℕ) (columns later : List (List Value)) → AreColumns kinds n columns → AreColumns kinds m later → first_records n (join_columns columns later) ≡ columns
unfolding first_records join_columns
join_columns-first [] n m [] [] h g = refl
join_columns-first [] n m [] (more ∷ later) h g = absurd g
join_columns-first [] n m (column ∷ columns) later h g = absurd h
join_columns-first (kind ∷ kinds) n m [] later h g = absurd h
join_columns-first (kind ∷ kinds) n m (column ∷ columns) [] h g = absurd g
join_columns-first (kind ∷ kinds) n m (column ∷ columns) (more ∷ later) h g =
    rw (take_at column more n h.0, join_columns-first kinds n m columns later h.2 g.2)

pub join_columns-later : (kinds : List ItemKind) (n m : ℕ) (columns later : List (List Value)) → AreColumns kinds n columns → AreColumns kinds m later → later_records n (join_columns columns later) ≡ later
unfolding later_records join_columns
join_columns-later [] n m [] [] h g = refl
join_columns-later [] n m [] (more ∷ later) h g = absurd g
join_columns-later [] n m (column ∷ columns) later h g = absurd h
join_columns-later (kind ∷ kinds) n m [] later h g = absurd h
join_columns-later (kind ∷ kinds) n m (column ∷ columns) [] h g = absurd g
join_columns-later (kind ∷ kinds) n m (column ∷ columns) (more ∷ later) h g =
    rw (drop_at column more n h.0, join_columns-later kinds n m columns later h.2 g.2)

pub join_columns-columns : (kinds : List ItemKind) (n m : ℕ) (columns later : List (List Value)) → AreColumns kinds n columns → AreColumns kinds m later → AreColumns kinds (n + m) (join_columns columns later)
unfolding join_columns
join_columns-columns [] n m [] [] h g = tt
join_columns-columns [] n m [] (more ∷ later) h g = absurd g
join_columns-columns [] n m (column ∷ columns) later h g = absurd h
join_columns-columns (kind ∷ kinds) n m [] later h g = absurd h
join_columns-columns (kind ∷ kinds) n m (column ∷ columns) [] h g = absurd g
join_columns-columns (kind ∷ kinds) n m (column ∷ columns) (more ∷ later) h g =
    (rw (length-append, h.0, g.0) refl, all-append (IsItem kind) column more h.1 g.1, join_columns-columns kinds n m columns later h.2 g.2)

-- the blocks of records that fill whole blocks, and then those of the records after them
pub blocks-joined : (kinds : List ItemKind) (m n count : ℕ) (columns later : List (List Value)) → 0 < n → AreColumns kinds (n * m) columns → AreColumns kinds count later → blocks n (n * m + count) (join_columns columns later) ≡ blocks n (n * m) columns ++ blocks n count later
blocks-joined kinds m n count columns later some h g =
    blocks-whole m n count (join_columns columns later) some
    ∙ rw (join_columns-first kinds (n * m) count columns later h g, join_columns-later kinds (n * m) count columns later h g) refl
