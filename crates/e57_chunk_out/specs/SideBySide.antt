-- The fields of a cloud, side by side.
use Rattle.std.specs.Prelude.{◌≡◌, ◌⊎◌, ℕ, ◌≤◌, List, [], ◌∷◌, length}
use Rattle.e57_layout.specs.Values.{strings}
use Rattle.e57_layout.specs.Items.{field_bytes}
use Rattle.e57_chunk_out.specs.Waiting.{Waiting, part, HasRoom}

-- so many items wait, at least
abbrev pub Has : ℕ → Waiting → Type 0
Has n w = n ≤ length w.items

-- there is room for n items, from `from` on
abbrev pub HasRoomFor : ℕ → ℕ → Waiting → Type 0
HasRoomFor from n w = HasRoom w (length (field_bytes w.kind (part from n w.items)))

-- there is a field of strings
abbrev pub HasText : List Waiting → Type 0
HasText [] = ⊥
HasText (w ∷ ws) = (w.kind ≡ strings) ⊎ HasText ws
