-- Where a piece of bytes stands.
use Rattle.std.specs.Prelude.{◌≡◌, ℕ, List, length, take, drop}

-- the piece stands in the bytes from place q on
abbrev pub Stands : List ℕ → ℕ → List ℕ → Type 0
Stands bytes q piece = take (length piece) (drop q bytes) ≡ piece
