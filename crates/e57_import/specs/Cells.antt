-- The item that a cell has, by the kind of its column.
use Rattle.std.specs.Prelude.{ℕ, ◌==◌, nat_lt, nat_le, ◌&&◌, ℤ, pos, neg_ℤ, int_le, List, [], ◌∷◌, length, Option, Some, None, option_map, option_and_then, if◌then◌else◌}
use Rattle.std.specs.List.{list_all}
use Rattle.e57_layout.specs.declared.field.FieldKind.{FieldKind}
use Rattle.e57_layout.specs.declared.field.FieldKind.TheVariants.{Int, Scaled, Bits32, Bits64, Text}
use Rattle.e57_layout.specs.Strings.{string_limit}
use Rattle.e57_layout.specs.Values.{Value, whole, word, octets}
use Rattle.e57_pieces.specs.Words.{is_decimal, is_hexadecimal, numeral}

-- the most digits of an integer
abbrev pub most_digits : ℕ
most_digits = 20

-- the number that 1 to 20 decimal digits write
unfoldable pub digits_cell : List ℕ → Option ℕ
digits_cell digits =
    if nat_lt 0 (length digits) && (nat_le (length digits) most_digits && list_all is_decimal digits) then Some (numeral 10 digits) else None

-- an optional `-`, and the digits
unfoldable pub signed_cell : List ℕ → Option ℤ
signed_cell [] = None
signed_cell (b ∷ bs) = if b == 45 then option_map (λ n. neg_ℤ (pos n)) (digits_cell bs) else option_map pos (digits_cell (b ∷ bs))

-- the integer, where it is within these limits
unfoldable pub when_within : ℤ → ℤ → ℤ → Option ℤ
when_within low high z = if int_le low z && int_le z high then Some z else None

unfoldable pub integer_cell : ℤ → ℤ → List ℕ → Option ℤ
integer_cell low high cell = option_and_then (when_within low high) (signed_cell cell)

-- the number that so many hexadecimal digits write, in either case
unfoldable pub word_cell : ℕ → List ℕ → Option ℕ
word_cell count cell = if length cell == count && list_all is_hexadecimal cell then Some (numeral 16 cell) else None

-- at most 2^24 bytes
unfoldable pub text_cell : List ℕ → Option (List ℕ)
text_cell cell = if nat_le (length cell) string_limit then Some cell else None

-- the item; none where the cell isn't of its column's form
unfoldable pub cell_value : FieldKind → List ℕ → Option Value
cell_value (Int low high) cell = option_map whole (integer_cell low high cell)
cell_value (Scaled low high scale offset) cell = option_map whole (integer_cell low high cell)
cell_value Bits32 cell = option_map word (word_cell 8 cell)
cell_value Bits64 cell = option_map word (word_cell 16 cell)
cell_value Text cell = option_map octets (text_cell cell)
