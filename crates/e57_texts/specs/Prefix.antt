-- The prefix of a string, as far as its bytes are there.
use Rattle.std.specs.Prelude.{◌≡◌, ℕ, ◌<◌, ◌≤◌, List, ◌++◌, length, take}
use Rattle.e57_layout.specs.Strings.{string_limit, first_prefix, prefix_found, prefix_too_long, prefix_cut_off}
use Rattle.e57_texts.specs.declared.prefix.Prefix.{Prefix}
use Rattle.e57_texts.specs.declared.prefix.Prefix.TheVariants.{Stated, TooLong, Cut}

-- The first `size` bytes are a prefix of a string of n bytes, whatever follows them.
pub record StatesLength (bytes : List ℕ) (n size : ℕ) : Type 0 where
  pub there : size ≤ length bytes
  pub limit : n ≤ string_limit
  pub stated : (rest : List ℕ) → first_prefix (take size bytes ++ rest) ≡ prefix_found n rest

-- what the bytes begin with
abbrev pub BeginsWith : List ℕ → Prefix → Type 0
BeginsWith bytes (Stated n size) = StatesLength bytes n size
BeginsWith bytes TooLong = first_prefix bytes ≡ prefix_too_long
BeginsWith bytes Cut = (first_prefix bytes ≡ prefix_cut_off) × (length bytes < 8)
