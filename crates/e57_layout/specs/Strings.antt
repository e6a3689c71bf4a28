-- The strings of a stream, one after another, each a prefix that has its length, and its bytes (ASTM E2807, strings).
use Rattle.std.specs.Prelude.{ℕ, zero, suc, ◌+◌, ◌*◌, ◌/◌, ◌%◌, ◌^◌, ◌==◌, nat_lt, nat_le, if◌then◌else◌, List, [], ◌∷◌, ◌++◌, length, take, drop, Option, Some, None}
use Rattle.e57_bits.specs.Bits.{number}
use Rattle.e57_layout.specs.Bytes.{low_bytes}
use Rattle.e57_layout.specs.Values.{Outcome, here, short, over_limit, word, octets}

-- the most bytes of a string: a limit of ours
abbrev pub string_limit : ℕ
string_limit = 2 ^ 24

-- ---- how a string is read

-- a prefix's length and what follows the prefix; or the length is above the limit; or the stream ends within the prefix
pub data PrefixRead : Type 0 where
  prefix_found : ℕ → List ℕ → PrefixRead
  prefix_too_long : PrefixRead
  prefix_cut_off : PrefixRead

-- a length that a prefix states, which may be above the limit
abbrev pub within_limit : ℕ → List ℕ → PrefixRead
within_limit n rest = if nat_lt string_limit n then prefix_too_long else prefix_found n rest

-- A prefix whose first byte is even is that one byte. Else it has eight. The length is half of its number, rounded down.
unfoldable pub first_prefix : List ℕ → PrefixRead
first_prefix [] = prefix_cut_off
first_prefix (b ∷ bs) =
    if b % 2 == 0 then within_limit (b / 2) bs
    else (if nat_lt (length bs) 7 then prefix_cut_off else within_limit (number (b ∷ bs) 0 64 / 2) (drop 7 bs))

-- a string and what follows it; or its length is above the limit; or the stream ends within it
pub data StringRead : Type 0 where
  string_found : List ℕ → List ℕ → StringRead
  string_too_long : StringRead
  string_cut_off : StringRead

-- the string after a prefix
abbrev pub after_prefix : PrefixRead → StringRead
after_prefix (prefix_found n rest) = if nat_lt (length rest) n then string_cut_off else string_found (take n rest) (drop n rest)
after_prefix prefix_too_long = string_too_long
after_prefix prefix_cut_off = string_cut_off

unfoldable pub first_string : List ℕ → StringRead
first_string stream = after_prefix (first_prefix stream)

-- what comes of string number k, which was read so
abbrev pub on_string : ℕ → (List ℕ → List ℕ → Outcome) → StringRead → Outcome
on_string k found (string_found t rest) = found t rest
on_string k found string_too_long = over_limit k
on_string k found string_cut_off = short k

-- string number `done + k` of a stream whose first `done` strings are taken off
unfoldable pub string_at : ℕ → List ℕ → ℕ → Outcome
string_at done stream zero = on_string done (λ t rest. here (octets t)) (first_string stream)
string_at done stream (suc k) = on_string done (λ t rest. string_at (done + 1) rest k) (first_string stream)

-- what comes of the length of string number k, whose prefix was read so
abbrev pub on_prefix : ℕ → PrefixRead → Outcome
on_prefix k (prefix_found n rest) = here (word n)
on_prefix k prefix_too_long = over_limit k
on_prefix k prefix_cut_off = short k

-- the length of that string, for which its bytes needn't be there
unfoldable pub string_length_at : ℕ → List ℕ → ℕ → Outcome
string_length_at done stream zero = on_prefix done (first_prefix stream)
string_length_at done stream (suc k) = on_string done (λ t rest. string_length_at (done + 1) rest k) (first_string stream)

-- what comes of what follows a string
abbrev pub on_rest : (List ℕ → Option (List ℕ)) → StringRead → Option (List ℕ)
on_rest next (string_found t rest) = next rest
on_rest next string_too_long = None
on_rest next string_cut_off = None

-- what follows the first k strings, if they are there
unfoldable pub after_strings : ℕ → List ℕ → Option (List ℕ)
after_strings zero stream = Some stream
after_strings (suc k) stream = on_rest (after_strings k) (first_string stream)

-- ---- how a string is written

-- the prefix of a string of n bytes: one byte up to 127, eight bytes above
unfoldable pub string_prefix : ℕ → List ℕ
string_prefix n = if nat_le n 127 then low_bytes 1 (2 * n) else low_bytes 8 (2 * n + 1)

unfoldable pub string_bytes_of : List ℕ → List ℕ
string_bytes_of t = string_prefix (length t) ++ t
