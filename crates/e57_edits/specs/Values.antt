-- Attributes that are copied one after another, the first one of a name with another value.
use Rattle.std.specs.Prelude.{ℕ, Bool, ◌&&◌, not, List, if◌then◌else◌}
use Rattle.std.specs.Str.{bytes_eq}
use Rattle.e57_pieces.specs.declared.piece.Attr.{Attr}

abbrev pub is_named : List ℕ → Attr → Bool
is_named name attr = bytes_eq attr.name name

-- the attribute; the first one of this name has this value
abbrev pub next_attr : Bool → List ℕ → List ℕ → Attr → Attr
next_attr is_set name value attr = if not is_set && is_named name attr then record { name = attr.name; value = value } else attr
