-- Items as they are shown: as they are, or scaled integers as the numbers that they stand for.
use Rattle.std.specs.Prelude.{ℕ, ℤ, Bool, true, List, map, Option, Some, None, is_some, if◌then◌else◌}
use Rattle.e57_layout.specs.declared.field.Field.{Field}
use Rattle.e57_layout.specs.declared.field.FieldKind.{FieldKind}
use Rattle.e57_layout.specs.declared.field.FieldKind.TheVariants.{Int, Scaled, Bits32, Bits64, Text}
use Rattle.e57_layout.specs.Values.{Value, whole, word, octets}
use Rattle.e57_decimal.specs.declared.values.Decimal.{Decimal}
use Rattle.e57_decimal.specs.Decided.{decimal_in}
use Rattle.e57_decimal.specs.Scaling.{Line, linear_of, value_of}
use Rattle.e57_decimal.specs.Writing.{decimal_text}
use Rattle.e57_blocks.specs.Fields.{field_at}

-- the line of a scale and an offset over the numbers within limits, if there are both and it is linear within 128 bits
abbrev pub line_between : Option Decimal → Option Decimal → ℤ → ℤ → Option Line
line_between (Some scale) (Some offset) low high = linear_of scale offset low high
line_between (Some scale) None low high = None
line_between None offset low high = None

-- the line of the texts of a scale and an offset; a field of another kind has none
abbrev pub line_in : FieldKind → Option Line
line_in (Int low high) = None
line_in (Scaled low high scale offset) = line_between (decimal_in scale) (decimal_in offset) low high
line_in Bits32 = None
line_in Bits64 = None
line_in Text = None

-- whether its items can be shown as numbers: scaled integers have to have a line
abbrev pub has_decimals : FieldKind → Bool
has_decimals (Int low high) = true
has_decimals (Scaled low high scale offset) = is_some (line_in (Scaled low high scale offset))
has_decimals Bits32 = true
has_decimals Bits64 = true
has_decimals Text = true

-- an integer z with a line as the text of `z * scale + offset`; every other item as it is
abbrev pub on_line : Option Line → Value → Value
on_line None v = v
on_line (Some line) (whole z) = octets (decimal_text (value_of line z))
on_line (Some line) (word n) = word n
on_line (Some line) (octets bytes) = octets bytes

-- the line of field f, where numbers are to be shown
abbrev pub line_at : Bool → List Field → ℕ → Option Line
line_at numbers fields f = if numbers then line_in (field_at fields f).kind else None

-- the lines of the asked fields
abbrev pub lines_of : Bool → List Field → List ℕ → List (Option Line)
lines_of numbers fields asked = map (λ (f : ℕ). line_at numbers fields f) asked

-- an item of field f as it is
abbrev pub as_it_is : ℕ → Value → Value
as_it_is f v = v

-- An item of field f as it is shown: where numbers are to be shown, a scaled integer as the number that it stands for.
abbrev pub show_of : Bool → List Field → ℕ → Value → Value
show_of numbers fields f v = on_line (line_at numbers fields f) v
