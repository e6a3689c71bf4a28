-- The items of a run, handed to a cloud field by field.
use Rattle.std.proofs.Common.{◌≡◌, ℕ, zero, suc, ◌+◌, ◌-◌, ◌%◌, ◌<◌, ◌≤◌, List, [], ◌∷◌, length, get_or, sym, subst, ap, ◌∙◌, arith}
use Rattle.std.specs.List.{AllByRecursion}
use Rattle.std.proofs.lemmas.List.{get_or-map, length-map}
use Rattle.std.proofs.lemmas.List.FromFn.{length-map-range_with_len}
use Rattle.e57_layout.specs.Values.{ItemKind, strings, Value}
use Rattle.e57_layout.specs.Items.{AreColumns, AreItems}
use Rattle.e57_column.specs.Column.{kind_of as column_kind}
use Rattle.e57_blocks.specs.Block.{Block, held_item}
use Rattle.e57_blocks.specs.Runs.{held_values, IsRunOf}
use Rattle.e57_blocks.specs.declared.block.Run.{Run}
use Rattle.e57_chunk_out.specs.CloudCalls.{in_block, kind_of, most_of_block, waiting_of, with_items, HasStrings, IsBetween}
use Rattle.e57_chunk_out.specs.Standing.{Cloud}
use Rattle.e57_copy.specs.Adding.{block_kinds, held_columns, with_columns, HasRoom}
use Rattle.e57_copy.specs.Items.{AreAlike, IsAlike}
use Rattle.e57_copy.proofs.Alike.{alike_at, alike_many, run_alike, strings_in}
use Rattle.e57_copy.proofs.Columns.{joined_to, joined_all, joined_at, joined_more, joined_none}

-- the first j fields have their items
abbrev pub handed : Cloud → ℕ → List (List Value) → Cloud
handed c j columns = record c { pending = joined_to j c.pending columns }

pub length-held : (b : Block) (i n : ℕ) → length (held_values b i n) ≡ n
length-held b i n = length-map-range_with_len (held_item b) (i - b.first) n

pub handed_none : (c : Cloud) (columns : List (List Value)) → c ≡ handed c 0 columns
handed_none c columns = ap (λ (waiting : List (List Value)). record c { pending = waiting }) (sym (joined_none c.pending columns))

room_at : (left n j : ℕ) (columns : List (List Value)) → AllByRecursion (λ (column : List Value). length column - left + n ≤ most_of_block) columns → j < length columns → length (get_or columns j []) - left + n ≤ most_of_block
room_at left n j [] all below = absurd (omega arith)
room_at left n zero (x ∷ columns) all below = all.0
room_at left n (suc j) (x ∷ columns) all below = room_at left n j columns all.1 (omega arith)

-- there is room in a block that isn't begun
pub room_between : (c : Cloud) (n : ℕ) → IsBetween c → n ≤ most_of_block → HasRoom c n
room_between c n between few = by_columns c.pending between
  where
    by_columns : (columns : List (List Value)) → AllByRecursion (λ (column : List Value). length column ≡ c.count % 8) columns → AllByRecursion (λ (column : List Value). length column - c.count % 8 + n ≤ most_of_block) columns
    by_columns [] all = tt
    by_columns (x ∷ columns) all = let same = all.0 in (omega (arith, same, few), by_columns columns all.1)

columns_at : (kinds : List ItemKind) (n : ℕ) (columns : List (List Value)) (j : ℕ) → j < length kinds → AreColumns kinds n columns → AreItems (get_or kinds j strings) (get_or columns j [])
columns_at [] n columns j below are = absurd (omega arith)
columns_at (kind ∷ kinds) n [] j below are = absurd are
columns_at (kind ∷ kinds) n (column ∷ columns) zero below are = are.1
columns_at (kind ∷ kinds) n (column ∷ columns) (suc j) below are = columns_at kinds n columns j (omega arith) are.2

module _ (c : Cloud) (blocks : List Block) (i n j : ℕ) (b : Block) (alike : AreAlike (block_kinds blocks) c.kinds) (below : j < length blocks) (is : b ≡ get_or blocks j b) where
  kinds_many : length c.kinds ≡ length blocks
  kinds_many = sym (alike_many (block_kinds blocks) c.kinds alike) ∙ length-map blocks (λ (x : Block). column_kind x.column.items)

  pub kinds_below : j < length c.kinds
  kinds_below = let many = kinds_many in omega (arith, many, below)

  kind_alike : IsAlike (column_kind b.column.items) (kind_of c j)
  kind_alike =
      subst (λ (kind : ItemKind). IsAlike kind (kind_of c j))
      (get_or-map (λ (x : Block). column_kind x.column.items) blocks j b strings below ∙ ap (λ (x : Block). column_kind x.column.items) (sym is))
      (alike_at (block_kinds blocks) c.kinds j (rw (length-map blocks (λ (x : Block). column_kind x.column.items)) below) alike)

  -- the run of a block is one of the cloud's field
  pub handed_run : (run : Run) → IsRunOf (column_kind b.column.items) run → IsRunOf (kind_of (handed c j (held_columns blocks i n)) j) run
  handed_run run of = run_alike (column_kind b.column.items) (kind_of c j) run kind_alike of

  column_held : get_or (held_columns blocks i n) j [] ≡ held_values b i n
  column_held = get_or-map (λ (x : Block). held_values x i n) blocks j b [] below ∙ ap (λ (x : Block). held_values x i n) (sym is)

  -- and so are its items
  pub handed_items : AreColumns c.kinds n (held_columns blocks i n) → (values : List Value) → values ≡ held_values b i n → AreItems (kind_of (handed c j (held_columns blocks i n)) j) values
  handed_items fits values are = subst (AreItems (kind_of c j)) (column_held ∙ sym are) (columns_at c.kinds n (held_columns blocks i n) j kinds_below fits)

  -- one of them has strings
  pub handed_strings : kind_of (handed c j (held_columns blocks i n)) j ≡ strings → HasStrings c.kinds
  handed_strings texts = strings_in c.kinds j kinds_below texts

  module _ (many : length c.pending ≡ length c.kinds) (room : HasRoom c n) where
    pending_below : j < length c.pending
    pending_below = let few = kinds_below in omega (arith, few, many)

    pub handed_few : (values : List Value) → values ≡ held_values b i n → in_block (handed c j (held_columns blocks i n)) j + length values ≤ most_of_block
    handed_few values are =
        let waits : length (waiting_of (handed c j (held_columns blocks i n)) j) ≡ length (get_or c.pending j []) =
        ap (λ (column : List Value). length column) (joined_at j c.pending (held_columns blocks i n)) in
        let few = room_at (c.count % 8) n j c.pending room pending_below in
        let size : length values ≡ n = ap (λ (column : List Value). length column) are ∙ length-held b i n in
        omega (arith, waits, size, few)

    pub handed_more : (values : List Value) → values ≡ held_values b i n → with_items (handed c j (held_columns blocks i n)) j values ≡ handed c (j + 1) (held_columns blocks i n)
    handed_more values are =
        let column : get_or (held_columns blocks i n) j [] ≡ values = column_held ∙ sym are in
        let size : length c.pending ≡ length (held_columns blocks i n) = many ∙ kinds_many ∙ sym (length-map blocks (λ (x : Block). held_values x i n)) in
        let next : j + 1 ≡ suc j = omega arith in
        ap (λ (waiting : List (List Value)). record c { pending = waiting })
        (rw (sym column, next) (joined_more j c.pending (held_columns blocks i n) pending_below size))

-- all have them
pub handed_all : (c new : Cloud) (blocks : List Block) (i n j : ℕ) → AreAlike (block_kinds blocks) c.kinds → length c.pending ≡ length c.kinds → j ≡ length blocks → new ≡ handed c j (held_columns blocks i n)
    → new ≡ with_columns c (held_columns blocks i n)
handed_all c new blocks i n j alike many end is =
    let size : length c.kinds ≡ length blocks = sym (alike_many (block_kinds blocks) c.kinds alike) ∙ length-map blocks (λ (x : Block). column_kind x.column.items) in
    let columns : length c.pending ≡ length (held_columns blocks i n) = many ∙ size ∙ sym (length-map blocks (λ (x : Block). held_values x i n)) in
    is ∙ ap (λ (waiting : List (List Value)). record c { pending = waiting }) (joined_all j c.pending (held_columns blocks i n) (omega (arith, end, many, size)) columns)
