-- Strings that stand one behind another in some bytes.
use Rattle.std.specs.Prelude.{◌≡◌, ℕ, ◌+◌, ◌-◌, ◌^◌, ◌<◌, ◌≤◌, nat_le, if◌then◌else◌, List, [], ◌∷◌, length, map, take, drop}
use Rattle.e57_layout.specs.Values.{Value, octets}
use Rattle.e57_layout.specs.Strings.{string_limit}

-- the strings that end here in the bytes, the first of which begins at `begin`
unfoldable pub strings_at : List ℕ → ℕ → List ℕ → List Value
strings_at bytes begin [] = []
strings_at bytes begin (e ∷ es) = octets (take (e - begin) (drop begin bytes)) ∷ strings_at bytes e es

-- strings of at most 2^24 bytes end here, one behind another, the first of which begins at `begin`, among `most` bytes
unfoldable pub AreEnds : ℕ → ℕ → List ℕ → Type 0
AreEnds most begin [] = begin ≤ most
AreEnds most begin (e ∷ es) = (begin ≤ e) × (e ≤ begin + string_limit) × AreEnds most e es

-- how many bytes a string of n bytes has as it is written
unfoldable pub text_size : ℕ → ℕ
text_size n = if nat_le n 127 then 1 + n else 8 + n

-- how many bytes such strings have as they are written
unfoldable pub texts_size : ℕ → List ℕ → ℕ
texts_size begin [] = 0
texts_size begin (e ∷ es) = text_size (e - begin) + texts_size e es

-- these strings are the first ones of some bytes, and end here
pub record AreGathered (bytes ends : List ℕ) (these : List Value) : Type 0 where
  pub strings : strings_at bytes 0 ends ≡ these
  pub order : AreEnds (length bytes) 0 ends

-- an end that has 64 bits where the first string begins at `start` in place of `begin`
abbrev pub IsMovable : ℕ → ℕ → ℕ → Type 0
IsMovable begin start e = (begin ≤ e) × (start + (e - begin) < 2 ^ 64)

-- where strings end if the first one begins at `start` in place of `begin`
abbrev pub moved_ends : ℕ → ℕ → List ℕ → List ℕ
moved_ends begin start ends = map (λ e. start + (e - begin)) ends
