-- The lines of the asked fields beside their blocks.
use Rattle.std.specs.Prelude.{◌≡◌, ℕ, zero, suc, ◌+◌, ◌-◌, ◌<◌, Bool, true, false, List, [], ◌∷◌, ◌++◌, map, length, get_or, Option, Some, None, IfOk, Result, Ok, Err}
use Rattle.std.specs.List.{AllByRecursion}
use Rattle.std.proofs.Common.{cond, ℤ, refl, sym, subst, ap, ◌∙◌, arith}
use Rattle.e57_layout.specs.declared.field.Field.{Field}
use Rattle.e57_layout.specs.declared.field.FieldKind.{FieldKind}
use Rattle.e57_layout.specs.declared.field.FieldKind.TheVariants.{Int, Scaled, Bits32, Bits64, Text}
use Rattle.e57_layout.specs.Values.{ItemKind, integers, item_kind, Value, whole}
use Rattle.e57_cloud.specs.Cloud.{Leaf}
use Rattle.e57_column.specs.Column.{kind_of}
use Rattle.e57_blocks.specs.declared.block.Item.{Item}
use Rattle.e57_blocks.specs.declared.block.Item.TheVariants as an_item
use Rattle.e57_blocks.specs.Block.{Block, held_item, item_value, IsKept, IsOfKind}
use Rattle.e57_decimal.specs.declared.values.Decimal.{Decimal}
use Rattle.e57_decimal.specs.Decided.{decimal_in}
use Rattle.e57_decimal.specs.Scaling.{Line, is_linear, line_with}
use Rattle.e57_rows.specs.Cells.{cell, csv_row}
use Rattle.e57_blocks.specs.Fields.{asked_of, field_at, leaf_of, field_of}
use Rattle.e57_rows.specs.Blocks.{cell_at, held_row, held_rows}
use Rattle.e57_rows.specs.Shown.{line_between, line_in, line_at, lines_of, on_line, as_it_is, show_of}
use Rattle.e57_rows.specs.Lined.{IsFor, AreFor, AreShownBy, IsOnLine, line_text}
use Rattle.e57_rows.proofs.Held.{text_cell}

-- ---- the limits of a line

between_for : (s o : Option Decimal) (low high : ℤ) (b : Block) → kind_of b.column.items ≡ integers low high → IsFor (line_between s o low high) b
between_for None o low high b is = tt
between_for (Some s) None low high b is = tt
between_for (Some s) (Some o) low high b is = by_test (is_linear (line_with s o low high))
  where
    by_test : (t : Bool) → IsFor (cond t (Some (line_with s o low high)) None) b
    by_test true = is
    by_test false = tt

line_for : (kind : FieldKind) (b : Block) → kind_of b.column.items ≡ item_kind kind → IsFor (line_in kind) b
line_for (Int low high) b is = tt
line_for (Scaled low high scale offset) b is = between_for (decimal_in scale) (decimal_in offset) low high b is
line_for Bits32 b is = tt
line_for Bits64 b is = tt
line_for Text b is = tt

first-same : (x y : ℕ × Leaf) (xs ys : List (ℕ × Leaf)) → x ∷ xs ≡ y ∷ ys → (x.0 ≡ y.0) × (x.1.kind ≡ y.1.kind) × (xs ≡ ys)
first-same x y xs ys is = let same : x ≡ y = cc in (ap (λ (z : ℕ × Leaf). z.0) same, ap (λ (z : ℕ × Leaf). z.1.kind) same, cc)

at_for : (numbers : Bool) (fields : List Field) (f : ℕ) (b : Block) → kind_of b.column.items ≡ item_kind (field_at fields f).kind → IsFor (line_at numbers fields f) b
at_for false fields f b is = tt
at_for true fields f b is = line_for (field_at fields f).kind b is

pub lines_for : (numbers : Bool) (fields : List Field) (asked : List ℕ) (blocks : List Block) → map field_of blocks ≡ asked_of fields asked → AreFor (lines_of numbers fields asked) blocks
lines_for numbers fields [] [] is = tt
lines_for numbers fields [] (b ∷ blocks) is = absurd cc
lines_for numbers fields (f ∷ asked) [] is = absurd cc
lines_for numbers fields (f ∷ asked) (b ∷ blocks) is =
    let parts = first-same (field_of b) (f, leaf_of (field_at fields f)) (map field_of blocks) (asked_of fields asked) is in
    (at_for numbers fields f b parts.1, lines_for numbers fields asked blocks parts.2)

pub lines_shown : (numbers : Bool) (fields : List Field) (asked : List ℕ) (blocks : List Block) → map field_of blocks ≡ asked_of fields asked → AreShownBy (show_of numbers fields) (lines_of numbers fields asked) blocks
lines_shown numbers fields [] [] is = tt
lines_shown numbers fields [] (b ∷ blocks) is = absurd cc
lines_shown numbers fields (f ∷ asked) [] is = absurd cc
lines_shown numbers fields (f ∷ asked) (b ∷ blocks) is =
    let parts = first-same (field_of b) (f, leaf_of (field_at fields f)) (map field_of blocks) (asked_of fields asked) is in
    (λ v. ap (λ (n : ℕ). on_line (line_at numbers fields n) v) parts.0, lines_shown numbers fields asked blocks parts.2)

pub lines_none : (numbers : Bool) (fields : List Field) (asked : List ℕ) → numbers ≡ false → AllByRecursion (λ line. line ≡ None) (lines_of numbers fields asked)
lines_none numbers fields [] is = tt
lines_none true fields (f ∷ asked) is = absurd cc
lines_none false fields (f ∷ asked) is = (refl, lines_none false fields asked is)

-- ---- one line and its block

pub lines_length : (lines : List (Option Line)) (blocks : List Block) → AreFor lines blocks → length lines ≡ length blocks
lines_length [] [] are = refl
lines_length [] (b ∷ blocks) are = absurd are
lines_length (l ∷ lines) [] are = absurd are
lines_length (l ∷ lines) (b ∷ blocks) are = ap (λ (n : ℕ). suc n) (lines_length lines blocks are.1)

pub for_at : (lines : List (Option Line)) (blocks : List Block) (j : ℕ) (dl : Option Line) (db : Block) → j < length blocks → AreFor lines blocks → IsFor (get_or lines j dl) (get_or blocks j db)
for_at [] [] j dl db below are = absurd (omega arith)
for_at [] (b ∷ blocks) j dl db below are = absurd are
for_at (l ∷ lines) [] j dl db below are = absurd are
for_at (l ∷ lines) (b ∷ blocks) zero dl db below are = are.0
for_at (l ∷ lines) (b ∷ blocks) (suc j) dl db below are = for_at lines blocks j dl db (omega arith) are.1

pub shown_at : (show : ℕ → Value → Value) (lines : List (Option Line)) (blocks : List Block) (j : ℕ) (dl : Option Line) (db : Block) → j < length blocks → AreShownBy show lines blocks → (v : Value) → show (get_or blocks j db).column.stream.field v ≡ on_line (get_or lines j dl) v
shown_at show [] [] j dl db below are v = absurd (omega arith)
shown_at show [] (b ∷ blocks) j dl db below are v = absurd are
shown_at show (l ∷ lines) [] j dl db below are v = absurd are
shown_at show (l ∷ lines) (b ∷ blocks) zero dl db below are v = are.0 v
shown_at show (l ∷ lines) (b ∷ blocks) (suc j) dl db below are v = shown_at show lines blocks j dl db (omega arith) are.1 v

-- an item of the block is within the limits of its line
pub on_kept : (line : Option Line) (b : Block) (item : Item) (v : Value) → IsFor line b → item_value item ≡ v → IsKept (kind_of b.column.items) v → IsOnLine line item
on_kept None b item v is same kept = tt
on_kept (Some line) b (an_item.Whole z) v is same kept = subst (λ (kind : ItemKind). IsKept kind (whole z)) is (subst (IsKept (kind_of b.column.items)) (sym same) kept)
on_kept (Some line) b (an_item.Word32 n) v is same kept = tt
on_kept (Some line) b (an_item.Word64 n) v is same kept = tt
on_kept (Some line) b (an_item.Text bytes) v is same kept = tt

-- its cell
pub line_cell : (line : Option Line) (kind : ItemKind) (item : Item) → IsOfKind kind item → line_text line item ≡ cell kind (on_line line (item_value item))
line_cell None kind item is = text_cell kind item is
line_cell (Some line) kind (an_item.Whole z) is = refl
line_cell (Some line) kind (an_item.Word32 n) is = text_cell kind (an_item.Word32 n) is
line_cell (Some line) kind (an_item.Word64 n) is = text_cell kind (an_item.Word64 n) is
line_cell (Some line) kind (an_item.Text bytes) is = text_cell kind (an_item.Text bytes) is

-- ---- no line

cell_plain : (show : ℕ → Value → Value) (line : Option Line) (i : ℕ) (b : Block) → ((v : Value) → show b.column.stream.field v ≡ on_line line v) → line ≡ None → cell_at as_it_is i b ≡ cell_at show i b
cell_plain show line i b shown none =
    let v = held_item b (i - b.first) in
    ap (cell (kind_of b.column.items)) (sym (shown v ∙ ap (λ (l : Option Line). on_line l v) none))

cells_plain : (show : ℕ → Value → Value) (lines : List (Option Line)) (i : ℕ) (blocks : List Block) → AreShownBy show lines blocks → AllByRecursion (λ line. line ≡ None) lines → map (cell_at as_it_is i) blocks ≡ map (cell_at show i) blocks
cells_plain show [] i [] are none = refl
cells_plain show [] i (b ∷ blocks) are none = absurd are
cells_plain show (l ∷ lines) i [] are none = absurd are
cells_plain show (l ∷ lines) i (b ∷ blocks) are none = rw (cell_plain show l i b are.0 none.0, cells_plain show lines i blocks are.1 none.1) refl

pub rows_plain : (show : ℕ → Value → Value) (lines : List (Option Line)) (blocks : List Block) (i n : ℕ) → AreShownBy show lines blocks → AllByRecursion (λ line. line ≡ None) lines → held_rows as_it_is blocks i n ≡ held_rows show blocks i n
unfolding held_rows
rows_plain show lines blocks i zero are none = refl
rows_plain show lines blocks i (suc n) are none =
    ap (λ (cells : List (List ℕ)). csv_row cells ++ held_rows as_it_is blocks (i + 1) n) (cells_plain show lines i blocks are none)
    ∙ ap (λ (t : List ℕ). held_row show blocks i ++ t) (rows_plain show lines blocks (i + 1) n are none)

-- ---- a line and a block at one place

pub on_row : (lines : List (Option Line)) (blocks : List Block) (j : ℕ) (line : Option Line) (block : Block) (item : Item) (v : Value)
    → j < length blocks → AreFor lines blocks → line ≡ get_or lines j line → block ≡ get_or blocks j block → item_value item ≡ v → IsKept (kind_of block.column.items) v → IsOnLine line item
on_row lines blocks j line block item v below are at_line at_block same kept =
    let there = for_at lines blocks j line block below are in
    let here : IsFor line (get_or blocks j block) = subst (λ (l : Option Line). IsFor l (get_or blocks j block)) (sym at_line) there in
    on_kept line block item v (subst (IsFor line) (sym at_block) here) same kept

-- the text of rows, where there is no line
pub plain_text : {V E : Type 0} (show : ℕ → Value → Value) (lines : List (Option Line)) (blocks : List Block) (i n : ℕ) (items : V → List ℕ) (result : Result V E) → AreShownBy show lines blocks → AllByRecursion (λ line. line ≡ None) lines
    → IfOk result (λ text. items text ≡ held_rows as_it_is blocks i n) → IfOk result (λ text. items text ≡ held_rows show blocks i n)
plain_text show lines blocks i n items (Ok text) shown none is = is ∙ rows_plain show lines blocks i n shown none
plain_text show lines blocks i n items (Err fault) shown none is = tt

-- ---- as `put_rows` has them

pub given_for : (numbers : Bool) (fields : List Field) (asked : List ℕ) (lines : List (Option Line)) (blocks after : List Block) → lines ≡ lines_of numbers fields asked → blocks ≡ after → map field_of after ≡ asked_of fields asked → AreFor lines blocks
given_for numbers fields asked lines blocks after at_lines at_blocks is =
    subst (λ (ls : List (Option Line)). AreFor ls blocks) (sym at_lines) (subst (λ (bs : List Block). AreFor (lines_of numbers fields asked) bs) (sym at_blocks) (lines_for numbers fields asked after is))

pub given_shown : (numbers : Bool) (fields : List Field) (asked : List ℕ) (lines : List (Option Line)) (blocks after : List Block) → lines ≡ lines_of numbers fields asked → blocks ≡ after → map field_of after ≡ asked_of fields asked → AreShownBy (show_of numbers fields) lines blocks
given_shown numbers fields asked lines blocks after at_lines at_blocks is =
    subst (λ (ls : List (Option Line)). AreShownBy (show_of numbers fields) ls blocks) (sym at_lines)
    (subst (λ (bs : List Block). AreShownBy (show_of numbers fields) (lines_of numbers fields asked) bs) (sym at_blocks) (lines_shown numbers fields asked after is))

pub given_none : (numbers : Bool) (fields : List Field) (asked : List ℕ) (lines : List (Option Line)) → lines ≡ lines_of numbers fields asked → numbers ≡ false → AllByRecursion (λ line. line ≡ None) lines
given_none numbers fields asked lines at_lines is = subst (AllByRecursion (λ line. line ≡ None)) (sym at_lines) (lines_none numbers fields asked is)
