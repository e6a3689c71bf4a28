-- Records that are marked: a flag for each of some records.
use Rattle.std.specs.Prelude.{◌≡◌, ℕ, ◌+◌, ◌%◌, ◌<◌, ◌==◌, Bool, false, ◌&&◌, List, map, length, get_or}
use Rattle.std.specs.List.{list_all}
use Rattle.e57_layout.specs.Values.{Value}
use Rattle.e57_plain.specs.Kept.{Test, is_between, column_value, chosen}
use Rattle.e57_filter.specs.Keeping.{Sieve}

-- n flags, which are what `pass` says of their numbers
abbrev pub AreMarks : ℕ → (ℕ → Bool) → List Bool → Type 0
AreMarks n pass flags = (length flags ≡ n) × ((k : ℕ) → k < n → get_or flags k false ≡ pass k)

-- record k of these columns is within the limits of a test
unfoldable pub is_within : Test → List (List Value) → ℕ → Bool
is_within t columns k = is_between t.low t.high (column_value columns t.field k)

-- it passes a sieve; it is the record behind `past` ones and k more
unfoldable pub passes_here : Sieve → ℕ → List (List Value) → ℕ → Bool
passes_here s past columns k = (past + k) % s.every == 0 && list_all (λ (t : Test). is_within t columns k) s.tests

-- the items of the records that are marked
abbrev pub picked : List Bool → List (List Value) → List (List Value)
picked flags columns = map (chosen flags) columns

-- how many are marked
abbrev pub mark_count : List Bool → ℕ
mark_count flags = length (chosen flags flags)
