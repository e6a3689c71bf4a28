-- The options of `filter`.
use Rattle.std.specs.Prelude.{ℕ, ◌^◌, ◌<◌, ◌≤◌, ◌==◌, nat_lt, nat_le, if◌then◌else◌, ℤ, pos, neg_ℤ, List, [], ◌∷◌, ◌++◌, length, map, Option, Some, None, option_map, IfSome, codes}
use Rattle.std.specs.Option.{option_map_or, option_and_then, unwrap_or}
use Rattle.e57_select.specs.Asking.{names_in, most_asked}
use Rattle.e57_filter.specs.Asking.{KeepAsked, FilterAsked}
use Rattle.e57_filter.specs.Asks.{keep_asked}
use Rattle.e57_tool.specs.Cursor.{number_of}
use Rattle.e57_tool.specs.Options.{OptionRow, given_once, names_asked, number_asked, value_behind}
use Rattle.e57_tool.specs.declared.filter_options.FilterOptions.{FilterOptions}

-- ---- values

-- the number of these digits without a sign, if it is below 2 ^ 63
abbrev pub positive_of : List ℕ → Option ℤ
positive_of digits = option_and_then (λ n. if nat_lt n (2 ^ 63) then Some (pos n) else None) (number_of digits)

-- the number of these digits behind a minus, if it isn't below - 2 ^ 63
abbrev pub negative_of : List ℕ → Option ℤ
negative_of digits = option_and_then (λ n. if nat_le n (2 ^ 63) then Some (neg_ℤ (pos n)) else None) (number_of digits)

-- the number that a word of decimal digits writes, with a minus before them or none
unfoldable pub signed_of : List ℕ → Option ℤ
signed_of word = option_map_or negative_of (value_behind (codes "-") word) (positive_of word)

-- what stands before the last colon of a byte and a text, and what behind it, by how the text is cut
abbrev pub cut_before : ℕ → List ℕ → Option (List ℕ × List ℕ) → Option (List ℕ × List ℕ)
cut_before b text (Some (front, back)) = Some (b ∷ front, back)
cut_before b text None = if b == 58 then Some ([], text) else None

-- what stands before the last colon, and what behind it
unfoldable pub cut_last : List ℕ → Option (List ℕ × List ℕ)
cut_last [] = None
cut_last (b ∷ text) = cut_before b text (cut_last text)

-- limits of the field with this path, which isn't empty
abbrev pub keep_between : List ℕ → Option ℤ → Option ℤ → Option KeepAsked
keep_between field (Some low) (Some high) = if length field == 0 then None else Some (record { field = field; low = low; high = high })
keep_between field _ _ = None

-- `FIELD:LOW:HIGH`, cut at its last two colons
unfoldable pub keep_of : List ℕ → Option KeepAsked
keep_of value =
    option_and_then (λ (cut : List ℕ × List ℕ). option_and_then (λ (front : List ℕ × List ℕ). keep_between front.0 (signed_of front.1) (signed_of cut.1)) (cut_last cut.0))
    (cut_last value)

-- the most limits
abbrev pub most_keeps : ℕ
most_keeps = 8

-- each one of so many records: at least 1
abbrev pub every_asked : List ℕ → Option ℕ
every_asked value = option_and_then (λ n. if nat_lt 0 n then Some n else None) (number_of value)

-- ---- the options

-- the names of the kept fields, limits, each one of how many records, the first record, and how many
pub record FilterGiven : Type 0 where
  pub names : Option (List (List ℕ))
  pub keeps : List KeepAsked
  pub every : Option ℕ
  pub from : Option ℕ
  pub count : Option ℕ

abbrev pub no_filter_given : FilterGiven
no_filter_given = record { names = None; keeps = []; every = None; from = None; count = None }

-- an option that stands several times: what is given with its value behind those before, if that is one and fewer than 8 are
abbrev pub with_keep : FilterGiven → Option KeepAsked → Option FilterGiven
with_keep given None = None
with_keep given (Some keep) = if nat_lt (length given.keeps) most_keeps then Some (record given { keeps = given.keeps ++ keep ∷ [] }) else None

-- `--fields=A,B`, `--every=K`, `--from=I`, `--count=N`, each once, and `--keep=FIELD:LOW:HIGH` up to 8 times
abbrev pub filter_rows : List (OptionRow FilterGiven)
filter_rows =
    record { front = codes "--fields="; add = λ value given. given_once given.names (names_asked value) (λ names. record given { names = Some names }) }
    ∷ record { front = codes "--keep="; add = λ value given. with_keep given (keep_of value) }
    ∷ record { front = codes "--every="; add = λ value given. given_once given.every (every_asked value) (λ n. record given { every = Some n }) }
    ∷ record { front = codes "--from="; add = λ value given. given_once given.from (number_asked value) (λ n. record given { from = Some n }) }
    ∷ record { front = codes "--count="; add = λ value given. given_once given.count (number_asked value) (λ n. record given { count = Some n }) }
    ∷ []

-- what is asked of a cloud: each record from its first one on, if nothing else is given
abbrev pub filter_given : ℕ → FilterGiven → FilterAsked
filter_given cloud given =
    record {
      cloud = cloud;
      names = given.names;
      keeps = given.keeps;
      every = unwrap_or given.every 1;
      from = unwrap_or given.from 0;
      count = given.count;
    }

-- options as what they give
abbrev pub given_to_filter : FilterOptions → FilterGiven
given_to_filter options =
    record {
      names = option_map (λ text. names_in text.now) options.fields;
      keeps = map keep_asked options.keeps.items;
      every = options.every;
      from = options.from;
      count = options.count;
    }

-- no number is above the most records, and each record or each of some is looked at
pub record AreLimitedToFilter (options : FilterOptions) : Type 0 where
  pub every : IfSome options.every (λ n. 0 < n)
  pub from : IfSome options.from (λ n. n ≤ most_asked)
  pub count : IfSome options.count (λ n. n ≤ most_asked)
