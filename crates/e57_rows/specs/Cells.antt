-- Items and rows of items as text.
use Rattle.std.specs.Prelude.{ℕ, zero, suc, ◌+◌, ◌/◌, ◌%◌, ◌^◌, nat_lt, if◌then◌else◌, List, [], ◌∷◌}
use Rattle.std.specs.Fmt.{signed_decimal}
use Rattle.csv.specs.Writing.{default_writer, row_text}
use Rattle.e57_blocks.specs.declared.block.Item.{Item}
use Rattle.e57_blocks.specs.declared.block.Item.TheVariants as an_item
use Rattle.e57_layout.specs.Values.{ItemKind, integers, words, strings, Value, whole, word, octets}

-- the hexadecimal digit of a number below 16, in lower case
abbrev pub hex_digit : ℕ → ℕ
hex_digit d = if nat_lt d 10 then 48 + d else 87 + d

-- the last k hexadecimal digits of a number, the highest first
unfoldable pub hex : ℕ → ℕ → List ℕ
hex zero n = []
hex (suc k) n = hex_digit (n / 16 ^ k % 16) ∷ hex k n

-- how many hexadecimal digits an item has, if it is a word
abbrev pub digits_of : ItemKind → ℕ
digits_of (integers low high) = 0
digits_of (words w) = w / 4
digits_of strings = 0

-- An item as it stands in a row: an integer in decimal, a word as all its hexadecimal digits, a string as its bytes.
abbrev pub cell : ItemKind → Value → List ℕ
cell kind (whole z) = signed_decimal z
cell kind (word n) = hex (digits_of kind) n
cell kind (octets bytes) = bytes

-- the cell of an item
abbrev pub item_text : Item → List ℕ
item_text (an_item.Whole z) = signed_decimal z
item_text (an_item.Word32 n) = hex 8 n
item_text (an_item.Word64 n) = hex 16 n
item_text (an_item.Text bytes) = bytes.now

-- a row of these cells: separated by commas, in quotes where they have to be, with a line feed at the end
abbrev pub csv_row : List (List ℕ) → List ℕ
csv_row cells = row_text default_writer cells
