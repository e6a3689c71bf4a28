-- Which fields of a cloud are chosen.
use Rattle.std.specs.Prelude.{◌≡◌, ℕ, List, length, slice_get, Some, Bool}
use Rattle.e57_layout.specs.declared.field.Field.{Field}

-- There is one truth value for each field of cloud k.
abbrev pub HasChoices : List (List Field) → ℕ → List Bool → Type 0
HasChoices clouds k chosen = (fields : List Field) → slice_get clouds k ≡ Some fields → length chosen ≡ length fields
