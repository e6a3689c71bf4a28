-- How much of a string has been taken.
use Rattle.std.specs.Prelude.{ℕ, ◌%◌, ◌/◌, ◌==◌, if◌then◌else◌, ◌<◌, List, [], length, slice_index}
use Rattle.e57_bits.specs.Bits.{number}

-- the bytes so far of a prefix that isn't whole; or the length of the string, and how many of its bytes are taken
pub data Progress : Type 0 where
  in_prefix : List ℕ → Progress
  in_string : ℕ → ℕ → Progress

-- how many bytes a prefix has that begins so: one if its first byte is even, else eight
abbrev pub prefix_size : List ℕ → ℕ
prefix_size begun = if slice_index begun 0 % 2 == 0 then 1 else 8

-- the length that a prefix states: half of its number, rounded down
abbrev pub stated_length : List ℕ → ℕ
stated_length prefix = if slice_index prefix 0 % 2 == 0 then slice_index prefix 0 / 2 else number prefix 0 64 / 2

-- the prefix so far, or nothing within a string
abbrev pub begun : Progress → List ℕ
begun (in_prefix bs) = bs
begun (in_string n d) = []

-- a prefix that isn't whole
abbrev pub IsInPrefix : Progress → Type 0
IsInPrefix (in_prefix bs) = length bs < prefix_size bs
IsInPrefix (in_string n d) = ⊥

-- the length of the string that is being taken, and how many of its bytes are
abbrev pub whole_length : Progress → ℕ
whole_length (in_prefix bs) = 0
whole_length (in_string n d) = n

abbrev pub length_taken : Progress → ℕ
length_taken (in_prefix bs) = 0
length_taken (in_string n d) = d

abbrev pub IsInString : Progress → Type 0
IsInString (in_prefix bs) = ⊥
IsInString (in_string n d) = Unit {0}
