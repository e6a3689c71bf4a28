-- Blocks that hold records, and the rows of these.
use Rattle.std.specs.Prelude.{◌≡◌, ℕ, zero, suc, ◌+◌, ◌<◌, true, List, ◌++◌}
use Rattle.std.specs.List.{AllByRecursion}
use Rattle.std.proofs.Common.{refl, sym, ap, ◌∙◌, arith, add-zero, append_assoc}
use Rattle.std.proofs.lemmas.List.{append-nil}
use Rattle.std.proofs.lemmas.Bool.Decides.{nat_tests}
use Rattle.e57_layout.specs.Values.{ItemKind, Value}
use Rattle.e57_blocks.specs.declared.block.Item.{Item}
use Rattle.e57_blocks.specs.declared.block.Item.TheVariants as an_item
use Rattle.e57_blocks.specs.Block.{Block, has_record, item_value, IsOfKind}
use Rattle.e57_rows.specs.Cells.{cell, item_text}
use Rattle.e57_blocks.specs.Runs.{HasRecords}
use Rattle.e57_rows.specs.Blocks.{held_row, held_rows}
use Rattle.e57_base.proofs.Lists.{all_map}

-- ---- cells

-- an item's text is the cell of its kind
pub text_cell : (kind : ItemKind) (item : Item) → IsOfKind kind item → item_text item ≡ cell kind (item_value item)
text_cell kind (an_item.Whole z) is = refl
text_cell kind (an_item.Word32 n) is = rw is refl
text_cell kind (an_item.Word64 n) is = rw is refl
text_cell kind (an_item.Text bytes) is = refl

-- ---- records that are held

pub has_of : (i : ℕ) (b : Block) → HasRecords i 1 b → has_record b i ≡ true
has_of i b has = let low = has.0 in let high = has.1 in grind (arith, nat_tests)

pub records_of : (i n k : ℕ) (b : Block) → k < n → HasRecords i n b → HasRecords (i + k) 1 b
records_of i n k b below has = let low = has.0 in let high = has.1 in (omega (arith, low), omega (arith, high, below))

pub all_records : (i n k : ℕ) (blocks : List Block) → k < n → AllByRecursion (HasRecords i n) blocks → AllByRecursion (HasRecords (i + k) 1) blocks
all_records i n k blocks below all = all_map (HasRecords i n) (HasRecords (i + k) 1) blocks (λ b has. records_of i n k b below has) all

-- ---- rows

pub rows_last : (show : ℕ → Value → Value) (blocks : List Block) (i k : ℕ) → held_rows show blocks i (k + 1) ≡ held_rows show blocks i k ++ held_row show blocks (i + k)
unfolding held_rows
rows_last show blocks i zero = rw add-zero (append-nil (held_row show blocks i))
rows_last show blocks i (suc k) =
    let place : i + suc k ≡ i + 1 + k = omega arith in
    let size : suc k + 1 ≡ suc (k + 1) = omega arith in
    rw (size, place) (ap (λ (t : List ℕ). held_row show blocks i ++ t) (rows_last show blocks (i + 1) k) ∙ sym (append_assoc (held_row show blocks i) (held_rows show blocks (i + 1) k) (held_row show blocks (i + 1 + k))))
