-- The words of a command line, read one after another.
use Rattle.std.specs.Prelude.{ℕ, ◌+◌, ◌^◌, Bool, ◌&&◌, not, nat_lt, nat_le, if◌then◌else◌, List, [], ◌∷◌, length, map, drop, Option, Some, None, Result, Ok, Err, codes, nat_eq}
use Rattle.std.specs.List.{list_all, starts_with}
use Rattle.std.specs.Str.{bytes_eq}
use Rattle.std.specs.Str.Parse.{digits_value}
use Rattle.std.specs.String.{string_bytes}
use Rattle.e57_tool.specs.declared.cursor.Cursor.{Cursor}

-- the words that are still to be read, and the number of the first of them
pub record Unread : Type 0 where
  pub at : ℕ
  pub words : List (List ℕ)

-- the words from this number on
abbrev pub unread_from : ℕ → List (List ℕ) → Unread
unread_from at words = record { at = at; words = drop at words }

-- the words that a cursor has not read
abbrev pub unread : Cursor → Unread
unread cursor = unread_from cursor.next (map string_bytes cursor.words.now)

-- a word that may stand in a place
abbrev pub is_place : List ℕ → Bool
is_place word = not (starts_with nat_eq word (codes "--"))

-- the next word, which may stand in a place, and the words behind it; or the number of the word at fault
abbrev pub next_place : Unread → Result (List ℕ × Unread) ℕ
next_place unread = placed unread.at unread.words where
  placed : ℕ → List (List ℕ) → Result (List ℕ × Unread) ℕ
  placed at [] = Err at
  placed at (word ∷ words) = if is_place word then Ok (word, record { at = at + 1; words = words }) else Err at

-- the next word, which may stand in a place and isn't this name, and the words behind it; or the number of the word at fault
abbrev pub next_other : List ℕ → Unread → Result (List ℕ × Unread) ℕ
next_other name unread = placed (next_place unread) where
  placed : Result (List ℕ × Unread) ℕ → Result (List ℕ × Unread) ℕ
  placed (Ok (word, rest)) = if bytes_eq word name then Err unread.at else Ok (word, rest)
  placed (Err at) = Err at

-- the most digits of a number
abbrev pub most_digits : ℕ
most_digits = 20

-- a decimal digit
abbrev pub is_digit : ℕ → Bool
is_digit b = nat_le 48 b && nat_le b 57

-- the number that a word of 1 to 20 decimal digits writes, if it is below 2 ^ 64
unfoldable pub number_of : List ℕ → Option ℕ
number_of word =
    if nat_lt 0 (length word) && (nat_le (length word) most_digits && (list_all is_digit word && nat_lt (digits_value 10 word) (2 ^ 64))) then Some (digits_value 10 word) else None

-- the next word, which is a number, and the words behind it; or the number of the word at fault
abbrev pub next_number : Unread → Result (ℕ × Unread) ℕ
next_number unread = counted (next_place unread) where
  numbered : Option ℕ → Unread → Result (ℕ × Unread) ℕ
  numbered (Some n) rest = Ok (n, rest)
  numbered None rest = Err unread.at

  counted : Result (List ℕ × Unread) ℕ → Result (ℕ × Unread) ℕ
  counted (Ok (word, rest)) = numbered (number_of word) rest
  counted (Err at) = Err at

-- the next word, which is a number up to this one, and the words behind it; or the number of the word at fault
abbrev pub next_number_up_to : ℕ → Unread → Result (ℕ × Unread) ℕ
next_number_up_to most unread = bounded (next_number unread) where
  bounded : Result (ℕ × Unread) ℕ → Result (ℕ × Unread) ℕ
  bounded (Ok (n, rest)) = if nat_le n most then Ok (n, rest) else Err unread.at
  bounded (Err at) = Err at

-- the number of the next word, where one is left
abbrev pub left_over : Unread → Option ℕ
left_over unread = next unread.words where
  next : List (List ℕ) → Option ℕ
  next [] = None
  next (word ∷ words) = Some unread.at

-- what was read, where no word is left; or the number of the next word
abbrev pub at_end : {A : Type 0} → A → Unread → Result A ℕ
at_end {A} read unread = ended (left_over unread) where
  ended : Option ℕ → Result A ℕ
  ended None = Ok read
  ended (Some at) = Err at
