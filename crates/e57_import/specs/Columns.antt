-- The columns that are asked for: of each its name, and what its cells are.
use Rattle.std.specs.Prelude.{◌≡◌, ℕ, ◌<◌, ◌≤ℤ◌, Bool, true, false, ◌||◌, ◌==◌, List, [], ◌∷◌, length, map, if◌then◌else◌}
use Rattle.std.specs.List.{AllByRecursion, list_any}
use Rattle.std.specs.Str.{bytes_eq}
use Rattle.e57_layout.specs.declared.field.FieldKind.{FieldKind}
use Rattle.e57_layout.specs.declared.field.FieldKind.TheVariants.{Int, Scaled, Bits32, Bits64, Text}
use Rattle.e57_pieces.specs.Characters.{between, AreCharacters}
use Rattle.e57_pieces.specs.Words.{Each}
use Rattle.e57_import.specs.declared.columns.ColumnAsk.{ColumnAsk}
use Rattle.e57_import.specs.declared.columns.ColumnKind.{ColumnKind}
use Rattle.e57_import.specs.declared.columns.ColumnKind.TheVariants as asked

-- a column, and what the items of its field are
pub record Column : Type 0 where
  pub name : List ℕ
  pub kind : FieldKind

abbrev pub kind_asked : ColumnKind → FieldKind
kind_asked (asked.Int low high) = Int low high
kind_asked (asked.Scaled low high scale offset) = Scaled low high scale.now offset.now
kind_asked asked.F32 = Bits32
kind_asked asked.F64 = Bits64
kind_asked asked.Text = Text

abbrev pub column_asked : ColumnAsk → Column
column_asked ask = record { name = ask.name.now; kind = kind_asked ask.kind }

abbrev pub columns_asked : List ColumnAsk → List Column
columns_asked asks = map column_asked asks

abbrev pub names_of : List Column → List (List ℕ)
names_of columns = map (λ (column : Column). column.name) columns

-- ---- which columns may be asked for

-- an ASCII letter or `_`
unfoldable pub begins_column : ℕ → Bool
begins_column b = between 65 90 b || between 97 122 b || b == 95

-- also a digit, `-` or `.`
unfoldable pub goes_on_column : ℕ → Bool
goes_on_column b = begins_column b || between 48 57 b || b == 45 || b == 46

abbrev pub IsColumnName : List ℕ → Type 0
IsColumnName [] = ⊥
IsColumnName (b ∷ bs) = (begins_column b ≡ true) × Each goes_on_column bs

-- the limits are in order, and the scale and the offset are characters
abbrev pub IsColumnKind : FieldKind → Type 0
IsColumnKind (Int low high) = low ≤ℤ high
IsColumnKind (Scaled low high scale offset) = (low ≤ℤ high) × AreCharacters scale × AreCharacters offset
IsColumnKind Bits32 = Unit {0}
IsColumnKind Bits64 = Unit {0}
IsColumnKind Text = Unit {0}

pub record IsColumn (column : Column) : Type 0 where
  pub name : IsColumnName column.name
  pub kind : IsColumnKind column.kind

-- no name stands twice
unfoldable pub names_differ : List (List ℕ) → Bool
names_differ [] = true
names_differ (name ∷ names) = if list_any (λ other. bytes_eq name other) names then false else names_differ names

-- One column or more, whose names differ.
pub record AreColumnsAsked (columns : List Column) : Type 0 where
  pub some : 0 < length columns
  pub each : AllByRecursion IsColumn columns
  pub names : names_differ (names_of columns) ≡ true
