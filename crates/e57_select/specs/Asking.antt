-- What is asked of some fields and records of a cloud, by names and numbers.
use Rattle.std.specs.Prelude.{ℕ, ◌+◌, ◌-◌, ◌^◌, ◌==◌, List, [], ◌∷◌, length, Option, Some, None, Result, Ok, Err}
use Rattle.std.specs.List.{range_with_len, slice_split}
use Rattle.e57_layout.specs.declared.field.Field.{Field}
use Rattle.e57_file.specs.Opened.{field_number}

-- the most records of an ask
abbrev pub most_asked : ℕ
most_asked = 2 ^ 40

-- the names of a list, which commas separate
abbrev pub names_in : List ℕ → List (List ℕ)
names_in text = slice_split (λ b. b == 44) text

-- a field's number before those of others
abbrev pub with_number : ℕ → Result (List ℕ) ℕ → Result (List ℕ) ℕ
with_number f (Ok others) = Ok (f ∷ others)
with_number f (Err at) = Err at

-- the number of the field with name j before those of the fields with the names behind it; or j if no field has it
abbrev pub by_number : ℕ → Option ℕ → Result (List ℕ) ℕ → Result (List ℕ) ℕ
by_number j None others = Err j
by_number j (Some f) others = with_number f others

-- The numbers of the fields with these names, of which the first one is name j of the list; or the number of the first name that
-- no field has.
unfoldable pub numbers_from : List Field → ℕ → List (List ℕ) → Result (List ℕ) ℕ
numbers_from fields j [] = Ok []
numbers_from fields j (name ∷ names) = by_number j (field_number name fields) (numbers_from fields (j + 1) names)

-- the numbers of the asked fields, or the number of the first name that no field has
abbrev pub numbers_of : List Field → Option (List (List ℕ)) → Result (List ℕ) ℕ
numbers_of fields None = Ok (range_with_len 0 (length fields))
numbers_of fields (Some names) = numbers_from fields 0 names

-- the number of the record past the last one that is asked for by a number; else of the first one
abbrev pub asked_end : ℕ → Option ℕ → ℕ
asked_end from None = from
asked_end from (Some n) = from + n

abbrev pub asked_count : ℕ → ℕ → Option ℕ → ℕ
asked_count records from None = records - from
asked_count records from (Some n) = n
