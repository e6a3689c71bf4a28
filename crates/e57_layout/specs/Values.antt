-- What the items of a field are, and what is found where one is looked for.
use Rattle.std.specs.Prelude.{◌≡◌, ℕ, ℤ, ◌^◌, ◌<◌, ◌≤ℤ◌, List}
use Rattle.std.specs.Int.{int_gap}
use Rattle.e57_layout.specs.declared.field.Field.{Field}
use Rattle.e57_layout.specs.declared.field.FieldKind.{FieldKind}
use Rattle.e57_layout.specs.declared.field.FieldKind.TheVariants.{Int, Scaled, Bits32, Bits64, Text}
use Rattle.e57_layout.specs.Widths.{width}

-- integers with a lowest and a highest value, words of w bits, or strings
pub data ItemKind : Type 0 where
  integers : ℤ → ℤ → ItemKind
  words : ℕ → ItemKind
  strings : ItemKind

-- the limits are in order, and less than 2 ^ 64 apart
abbrev pub IsKind : ItemKind → Type 0
IsKind (integers low high) = (low ≤ℤ high) × (int_gap low high < 2 ^ 64)
IsKind (words w) = Unit {0}
IsKind strings = Unit {0}

-- what the items of a field of this kind are: scale and offset play no part
abbrev pub item_kind : FieldKind → ItemKind
item_kind (Int low high) = integers low high
item_kind (Scaled low high scale offset) = integers low high
item_kind Bits32 = words 32
item_kind Bits64 = words 64
item_kind Text = strings

-- an item: an integer, a word as a number, or the bytes of a string
pub data Value : Type 0 where
  whole : ℤ → Value
  word : ℕ → Value
  octets : List ℕ → Value

-- the item that is looked for; or why there is none, and which item has this fault
pub data Outcome : Type 0 where
  here : Value → Outcome
  short : ℕ → Outcome
  over_limit : ℕ → Outcome
  out_of_range : ℕ → Outcome

-- how many bits an item has; 0 for strings, which have no common width
abbrev pub kind_width : ItemKind → ℕ
kind_width (integers low high) = width low high
kind_width (words w) = w
kind_width strings = 0

-- the lowest value isn't above the highest
abbrev pub AreLimits : ItemKind → Type 0
AreLimits (integers low high) = low ≤ℤ high
AreLimits (words w) = Unit {0}
AreLimits strings = Unit {0}

-- the limits are in order, and the width is that of the items
pub record IsValidField (field : Field) : Type 0 where
  pub limits : AreLimits (item_kind field.kind)
  pub width : field.width ≡ kind_width (item_kind field.kind)
