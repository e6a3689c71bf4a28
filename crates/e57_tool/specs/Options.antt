-- Options: words `--NAME=VALUE` behind the places of a command, in any order.
use Rattle.std.specs.Prelude.{ℕ, ◌+◌, Bool, true, false, ◌&&◌, not, nat_lt, nat_le, nat_eq, if◌then◌else◌, List, [], ◌∷◌, length, drop, Option, Some, None, option_map, IfSome, ◌≤◌, Result, Ok, Err, codes}
use Rattle.std.specs.List.{list_any, starts_with}
use Rattle.std.specs.Option.{option_map_or, option_and_then, unwrap_or}
use Rattle.std.specs.Str.{bytes_eq}
use Rattle.e57_select.specs.Asking.{names_in, most_asked}
use Rattle.e57_show.specs.Extract.{Asked}
use Rattle.e57_tool.specs.Cursor.{number_of}
use Rattle.e57_tool.specs.declared.options.RowsOptions.{RowsOptions}

-- One option of a command: what its word begins with, and what is given with its value beside what was given before; none if
-- it takes no such value, or doesn't stand there once more.
pub record OptionRow (Given : Type 0) : Type 0 where
  pub front : List ℕ
  pub add : List ℕ → Given → Option Given

-- what stands behind this front in a word that begins so
abbrev pub value_behind : List ℕ → List ℕ → Option (List ℕ)
value_behind front word = if starts_with nat_eq word front then Some (drop (length front) word) else None

-- what is given with a word, by the first row with whose front it begins
unfoldable pub with_option : {Given : Type 0} → List (OptionRow Given) → List ℕ → Given → Option Given
with_option [] word given = None
with_option (row ∷ rows) word given = option_map_or (λ value. row.add value given) (value_behind row.front word) (with_option rows word given)

-- what is given with these words, the first of which is word `at`; or the number of the first that is no option there
unfoldable pub with_options : {Given : Type 0} → List (OptionRow Given) → ℕ → List (List ℕ) → Given → Result Given ℕ
with_options rows at [] given = Ok given
with_options rows at (word ∷ words) given = option_map_or (λ more. with_options rows (at + 1) words more) (with_option rows word given) (Err at)

-- an option that stands once: what is given with its value, if that is one and none was given before
abbrev pub given_once : {Given Value : Type 0} → Option Value → Option Value → (Value → Given) → Option Given
given_once None (Some value) with_value = Some (with_value value)
given_once _ _ with_value = None

-- ---- values

-- the number of a record, or a number of records
abbrev pub number_asked : List ℕ → Option ℕ
number_asked value = option_and_then (λ n. if nat_le n most_asked then Some n else None) (number_of value)

-- the most names of a list: as many as a cloud has fields
abbrev pub most_names : ℕ
most_names = 512

-- the name is not empty, and none of these is the same
abbrev pub is_new : List ℕ → List (List ℕ) → Bool
is_new name others = nat_lt 0 (length name) && not (list_any (λ other. bytes_eq other name) others)

-- no name is empty, and all differ
unfoldable pub are_distinct : List (List ℕ) → Bool
are_distinct [] = true
are_distinct (name ∷ others) = is_new name others && are_distinct others

-- the names of a list: 1 to 512, separated by commas
unfoldable pub names_asked : List ℕ → Option (List (List ℕ))
names_asked value = if nat_le (length (names_in value)) most_names && are_distinct (names_in value) then Some (names_in value) else None

-- whether decimals are asked for: `yes` is the one value
abbrev pub decimal_asked : List ℕ → Option Bool
decimal_asked value = if bytes_eq value (codes "yes") then Some true else None

-- ---- the options of `extract`

-- the names of the asked fields, the first record, how many, and whether decimals are asked for
pub record RowsGiven : Type 0 where
  pub names : Option (List (List ℕ))
  pub from : Option ℕ
  pub count : Option ℕ
  pub decimal : Option Bool

abbrev pub nothing_given : RowsGiven
nothing_given = record { names = None; from = None; count = None; decimal = None }

-- `--fields=A,B`, `--from=I`, `--count=N`, `--decimal=yes`, each once
abbrev pub rows_options : List (OptionRow RowsGiven)
rows_options =
    record { front = codes "--fields="; add = λ value given. given_once given.names (names_asked value) (λ names. record given { names = Some names }) }
    ∷ record { front = codes "--from="; add = λ value given. given_once given.from (number_asked value) (λ n. record given { from = Some n }) }
    ∷ record { front = codes "--count="; add = λ value given. given_once given.count (number_asked value) (λ n. record given { count = Some n }) }
    ∷ record { front = codes "--decimal="; add = λ value given. given_once given.decimal (decimal_asked value) (λ b. record given { decimal = Some b }) }
    ∷ []

-- what is asked of a cloud: from its first record on, if no other is given
abbrev pub rows_asked : ℕ → RowsGiven → Asked
rows_asked cloud given = record { cloud = cloud; names = given.names; from = unwrap_or given.from 0; count = given.count; decimal = unwrap_or given.decimal false }

-- options as what they give
abbrev pub given_by : RowsOptions → RowsGiven
given_by options = record { names = option_map (λ text. names_in text.now) options.fields; from = options.from; count = options.count; decimal = options.decimal }

-- no number is above the most records
pub record AreLimited (options : RowsOptions) : Type 0 where
  pub from : IfSome options.from (λ n. n ≤ most_asked)
  pub count : IfSome options.count (λ n. n ≤ most_asked)
