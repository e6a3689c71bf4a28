-- Where a cursor stands in a stream, wherever the stream was cut.
use Rattle.std.specs.Prelude.{◌≡◌, ℕ, ◌+◌, ◌<◌, ◌≤◌, List, ◌++◌, length, take, drop}
use Rattle.e57_layout.specs.Strings.{StringRead, string_found, string_too_long, string_cut_off, first_prefix, first_string, string_limit, within_limit}
use Rattle.e57_strings.specs.Progress.{Progress, in_prefix, in_string, prefix_size, stated_length}
use Rattle.e57_strings.specs.declared.cursor.Fed.{Fed}
use Rattle.e57_strings.specs.declared.cursor.Fed.TheVariants.{More, Length, Whole}

-- the bytes so far are the prefix and d of the n bytes of a string; these d stand in the buffer
pub record HoldsString (so_far : List ℕ) (n d : ℕ) (out : List ℕ) : Type 0 where
  pub stated : n ≡ stated_length so_far
  pub counted : length so_far ≡ prefix_size so_far + d
  pub within : d ≤ n
  pub put : take d out ≡ drop (prefix_size so_far) so_far

-- a cursor that took these bytes since the last string ended, and a buffer
abbrev pub Holds : List ℕ → Progress → List ℕ → Type 0
Holds so_far (in_prefix bs) out = (bs ≡ so_far) × (length so_far < prefix_size so_far)
Holds so_far (in_string n d) out = HoldsString so_far n d out

-- no whole string is there
abbrev pub IsUnfinished : StringRead → Type 0
IsUnfinished (string_found t rest) = ⊥
IsUnfinished string_too_long = Unit {0}
IsUnfinished string_cut_off = Unit {0}

-- What a call means for the stream: the bytes so far with the piece hold no whole string; or they are a prefix, whatever
-- follows; or they are a string, which stands in the buffer.
abbrev pub Reads : List ℕ → List ℕ → Fed → Progress → List ℕ → Type 0
Reads so_far piece (More taken) after out =
    Holds (so_far ++ piece) after out × IsUnfinished (first_string (so_far ++ piece))
Reads so_far piece (Length taken n) after out =
    Holds (so_far ++ take taken piece) after out
    × ((rest : List ℕ) → first_prefix (so_far ++ take taken piece ++ rest) ≡ within_limit n rest)
Reads so_far piece (Whole taken n) after out =
    n ≤ string_limit → (rest : List ℕ) → first_string (so_far ++ take taken piece ++ rest) ≡ string_found (take n out) rest
