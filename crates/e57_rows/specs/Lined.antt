-- Blocks beside the lines of their fields.
use Rattle.std.specs.Prelude.{◌≡◌, ℕ, ◌≤ℤ◌, List, [], ◌∷◌, Option, Some, None}
use Rattle.e57_layout.specs.Values.{Value, integers}
use Rattle.e57_column.specs.Column.{kind_of}
use Rattle.e57_blocks.specs.declared.block.Item.{Item}
use Rattle.e57_blocks.specs.declared.block.Item.TheVariants as an_item
use Rattle.e57_blocks.specs.Block.{Block}
use Rattle.e57_decimal.specs.Scaling.{Line, value_of}
use Rattle.e57_decimal.specs.Writing.{decimal_text}
use Rattle.e57_rows.specs.Cells.{item_text}
use Rattle.e57_rows.specs.Shown.{on_line}

-- the limits of the line, if there is one, are those of the block's field
abbrev pub IsFor : Option Line → Block → Type 0
IsFor None b = Unit {0}
IsFor (Some line) b = kind_of b.column.items ≡ integers line.low line.high

abbrev pub AreFor : List (Option Line) → List Block → Type 0
AreFor [] [] = Unit {0}
AreFor [] (b ∷ bs) = ⊥
AreFor (l ∷ ls) [] = ⊥
AreFor (l ∷ ls) (b ∷ bs) = IsFor l b × AreFor ls bs

-- each block's items are shown by its line
abbrev pub AreShownBy : (ℕ → Value → Value) → List (Option Line) → List Block → Type 0
AreShownBy show [] [] = Unit {0}
AreShownBy show [] (b ∷ bs) = ⊥
AreShownBy show (l ∷ ls) [] = ⊥
AreShownBy show (l ∷ ls) (b ∷ bs) = ((v : Value) → show b.column.stream.field v ≡ on_line l v) × AreShownBy show ls bs

-- an integer is within the limits of the line, if there is one
abbrev pub IsOnLine : Option Line → Item → Type 0
IsOnLine None item = Unit {0}
IsOnLine (Some line) (an_item.Whole z) = (line.low ≤ℤ z) × (z ≤ℤ line.high)
IsOnLine (Some line) (an_item.Word32 n) = Unit {0}
IsOnLine (Some line) (an_item.Word64 n) = Unit {0}
IsOnLine (Some line) (an_item.Text bytes) = Unit {0}

-- the cell of an item: of an integer with a line, the text of the number that it stands for
abbrev pub line_text : Option Line → Item → List ℕ
line_text None item = item_text item
line_text (Some line) (an_item.Whole z) = decimal_text (value_of line z)
line_text (Some line) (an_item.Word32 n) = item_text (an_item.Word32 n)
line_text (Some line) (an_item.Word64 n) = item_text (an_item.Word64 n)
line_text (Some line) (an_item.Text bytes) = item_text (an_item.Text bytes)
