-- The items that blocks hold are those of their fields.
use Rattle.std.proofs.Common.{◌≡◌, ℕ, ◌+◌, ◌<◌, ◌≤◌, List, [], ◌∷◌, ◌++◌, length, take, get_or, sym, subst, ap, ◌∙◌}
use Rattle.std.specs.List.{AllByRecursion}
use Rattle.std.proofs.lemmas.List.{take_all, take_more}
use Rattle.e57_base.proofs.Lists.{all_append}
use Rattle.e57_layout.specs.Items.{AreColumns, AreItems}
use Rattle.e57_column.specs.Column.{kind_of}
use Rattle.e57_blocks.specs.Block.{Block}
use Rattle.e57_blocks.specs.Runs.{held_values}
use Rattle.e57_copy.specs.Adding.{block_kinds, held_columns}
use Rattle.e57_copy.proofs.Handing.{length-held}

abbrev pub HasItems : ℕ → ℕ → Block → Type 0
HasItems i n b = AreItems (kind_of b.column.items) (held_values b i n)

-- one more has its items
pub items_more : (blocks : List Block) (i n j : ℕ) (b : Block) → j < length blocks → b ≡ get_or blocks j b → AllByRecursion (HasItems i n) (take j blocks) → HasItems i n b → AllByRecursion (HasItems i n) (take (j + 1) blocks)
items_more blocks i n j b below is all here =
    subst (AllByRecursion (HasItems i n)) (sym (take_more blocks j b below ∙ ap (λ (x : Block). take j blocks ++ x ∷ []) (sym is)))
    (all_append (HasItems i n) (take j blocks) (b ∷ []) all (here, tt))

columns_of : (blocks : List Block) (i n : ℕ) → AllByRecursion (HasItems i n) blocks → AreColumns (block_kinds blocks) n (held_columns blocks i n)
columns_of [] i n all = tt
columns_of (b ∷ blocks) i n all = (length-held b i n, all.0, columns_of blocks i n all.1)

pub items_all : (blocks : List Block) (i n j : ℕ) → length blocks ≤ j → AllByRecursion (HasItems i n) (take j blocks) → AreColumns (block_kinds blocks) n (held_columns blocks i n)
items_all blocks i n j past all = columns_of blocks i n (subst (AllByRecursion (HasItems i n)) (take_all j blocks past) all)
