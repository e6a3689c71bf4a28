-- Short strings.
use Rattle.std.specs.Prelude.{ℕ, ◌+◌, ◌≤◌, List, length}
use Rattle.e57_texts.specs.Prefix.{StatesLength}

-- the most bytes of a short string
abbrev pub short_length : ℕ
short_length = 16

-- The bytes begin with a prefix of one byte, of a short string, and as many bytes as a short one has at most stand behind it.
pub record BeginsShort (bytes : List ℕ) (n : ℕ) : Type 0 where
  pub states : StatesLength bytes n 1
  pub few : n ≤ short_length
  pub there : short_length + 1 ≤ length bytes
