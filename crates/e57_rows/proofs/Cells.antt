-- One cell more of a row.
use Rattle.std.specs.Prelude.{◌≡◌, ℕ, ◌+◌, ◌-◌, ◌^◌, ◌<◌, ◌≤◌, List, [], ◌∷◌, ◌++◌, map, length, take, get_or, Option}
use Rattle.std.specs.List.{AllByRecursion}
use Rattle.std.proofs.Common.{subst, ap, ◌∙◌, arith, length-take}
use Rattle.std.proofs.lemmas.List.{get_or_default, length-map, take_all}
use Rattle.csv.specs.declared.writer.Writer.{Writer}
use Rattle.e57_layout.specs.declared.field.Field.{Field}
use Rattle.e57_column.specs.Column.{kind_of}
use Rattle.e57_blocks.specs.declared.block.Item.{Item}
use Rattle.e57_blocks.specs.Block.{Block, held_item, item_value, IsOfKind}
use Rattle.e57_rows.specs.Cells.{cell, item_text}
use Rattle.e57_blocks.specs.Fields.{field_at, no_field}
use Rattle.e57_blocks.proofs.Parts.{all_at, map_more}
use Rattle.e57_rows.specs.Blocks.{cell_at}
use Rattle.e57_rows.specs.Shown.{as_it_is, on_line}
use Rattle.e57_rows.specs.Lined.{AreShownBy, line_text}
use Rattle.e57_rows.specs.Writing.{InRow}
use Rattle.e57_rows.proofs.Held.{text_cell}
use Rattle.e57_rows.proofs.Lines.{line_cell, shown_at}
use Rattle.e57_layout.specs.Values.{Value}
use Rattle.e57_decimal.specs.Scaling.{Line}
use Rattle.std.proofs.Common.{sym}

-- cells so far are fewer than all
pub few_cells : {X : Type 0} (f : X → List ℕ) (xs : List X) (k : ℕ) → k + 1 < 2 ^ 64 → length (map f (take k xs)) + 1 < 2 ^ 64
few_cells f xs k few =
    let long = length-map (take k xs) f in
    let cut = length-take k xs in
    omega (arith, few, long, cut)

-- all of them
pub all_cells : {W X : Type 0} (contents : W → Option (List ℕ)) (base : Option (List ℕ)) (f : X → List ℕ) (xs : List X) (k : ℕ) (writer : Writer W) → length xs ≤ k → InRow contents base (map f (take k xs)) writer → InRow contents base (map f xs) writer
all_cells contents base f xs k writer past row = rw (take_all k xs past) at row

pub path_more : {W : Type 0} (contents : W → Option (List ℕ)) (base : Option (List ℕ)) (fields : List Field) (asked : List ℕ) (k : ℕ) (field : Field) (path : List ℕ) (writer : Writer W)
    → k < length asked → AllByRecursion (λ f. f < length fields) asked → path ≡ (get_or fields (get_or asked k 0) field).path
    → InRow contents base (map (λ (f : ℕ). (field_at fields f).path) (take k asked) ++ path ∷ []) writer → InRow contents base (map (λ (f : ℕ). (field_at fields f).path) (take (k + 1) asked)) writer
path_more contents base fields asked k field path writer below are is row =
    let there = all_at (λ f. f < length fields) asked k 0 below are in
    let same : get_or fields (get_or asked k 0) field ≡ field_at fields (get_or asked k 0) = get_or_default fields (get_or asked k 0) field no_field there in
    let text : path ≡ (field_at fields (get_or asked k 0)).path = is ∙ ap (λ (x : Field). x.path) same in
    let cells = map_more (λ (f : ℕ). (field_at fields f).path) asked k 0 below in
    rw cells (subst (λ (t : List ℕ). InRow contents base (map (λ (f : ℕ). (field_at fields f).path) (take k asked) ++ t ∷ []) writer) text row)

pub cell_more : {W : Type 0} (contents : W → Option (List ℕ)) (base : Option (List ℕ)) (blocks : List Block) (i j : ℕ) (block : Block) (item : Item) (writer : Writer W)
    → j < length blocks → block ≡ get_or blocks j block → item_value item ≡ held_item block (i - block.first) → IsOfKind (kind_of block.column.items) item
    → InRow contents base (map (cell_at as_it_is i) (take j blocks) ++ item_text item ∷ []) writer → InRow contents base (map (cell_at as_it_is i) (take (j + 1) blocks)) writer
cell_more contents base blocks i j block item writer below is value kind row =
    let text : item_text item ≡ cell_at as_it_is i block = text_cell (kind_of block.column.items) item kind ∙ ap (cell (kind_of block.column.items)) value in
    let same : item_text item ≡ cell_at as_it_is i (get_or blocks j block) = text ∙ ap (cell_at as_it_is i) is in
    rw (map_more (cell_at as_it_is i) blocks j block below) (subst (λ (t : List ℕ). InRow contents base (map (cell_at as_it_is i) (take j blocks) ++ t ∷ []) writer) same row)

pub line_more : {W : Type 0} (contents : W → Option (List ℕ)) (base : Option (List ℕ)) (show : ℕ → Value → Value) (lines : List (Option Line)) (blocks : List Block) (i j : ℕ) (line dl : Option Line) (block : Block) (item : Item) (writer : Writer W)
    → j < length blocks → AreShownBy show lines blocks → line ≡ get_or lines j dl → block ≡ get_or blocks j block → item_value item ≡ held_item block (i - block.first) → IsOfKind (kind_of block.column.items) item
    → InRow contents base (map (cell_at show i) (take j blocks) ++ line_text line item ∷ []) writer → InRow contents base (map (cell_at show i) (take (j + 1) blocks)) writer
line_more contents base show lines blocks i j line dl block item writer below shown at_line is value kind row =
    let kind_is = kind_of block.column.items in
    let by_line : show block.column.stream.field (held_item block (i - block.first)) ≡ on_line line (held_item block (i - block.first)) =
    ap (λ (b : Block). show b.column.stream.field (held_item block (i - block.first))) is ∙ shown_at show lines blocks j dl block below shown (held_item block (i - block.first))
    ∙ ap (λ (l : Option Line). on_line l (held_item block (i - block.first))) (sym at_line) in
    let text : line_text line item ≡ cell_at show i block = line_cell line kind_is item kind ∙ ap (λ (v : Value). cell kind_is (on_line line v)) value ∙ ap (cell kind_is) (sym by_line) in
    let same : line_text line item ≡ cell_at show i (get_or blocks j block) = text ∙ ap (cell_at show i) is in
    rw (map_more (cell_at show i) blocks j block below) (subst (λ (t : List ℕ). InRow contents base (map (cell_at show i) (take j blocks) ++ t ∷ []) writer) same row)
