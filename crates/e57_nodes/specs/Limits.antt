-- Other limits of integer elements.
use Rattle.std.specs.Prelude.{ℕ, ◌+◌, nat_le, ℤ, Bool, List, [], ◌∷◌, ◌++◌, length, codes, Option, Some, None, is_some, if◌then◌else◌}
use Rattle.std.specs.Fmt.{signed_decimal}
use Rattle.e57_pieces.specs.declared.piece.Attr.{Attr}
use Rattle.e57_elements.specs.Tree.{Element, element, Elements, none, more}
use Rattle.e57_nodes.specs.Facts.{value_of}
use Rattle.e57_nodes.specs.Shape.{shape_of, node_count}
use Rattle.e57_nodes.specs.Places.{with_value}

-- the attributes, in which the one of this name has this value; it is put last where it was absent
unfoldable pub with_value_or_new : List ℕ → List ℕ → List Attr → List Attr
with_value_or_new name value attrs = if is_some (value_of name attrs) then with_value name value attrs else attrs ++ record { name = name; value = value } ∷ []

-- 1 where the attribute is absent
abbrev pub absent_count : List ℕ → List Attr → ℕ
absent_count name attrs = if is_some (value_of name attrs) then 0 else 1

-- with both limits there are at most 64 attributes
unfoldable pub has_room : List Attr → Bool
has_room attrs = nat_le (length attrs + (absent_count (codes "minimum") attrs + absent_count (codes "maximum") attrs)) 64

-- the attributes with these limits, the least and the greatest; as they are where there is no room
abbrev pub limited : Option (ℤ × ℤ) → List Attr → List Attr
limited None attrs = attrs
limited (Some range) attrs =
    if has_room attrs then with_value_or_new (codes "maximum") (signed_decimal range.1) (with_value_or_new (codes "minimum") (signed_decimal range.0) attrs) else attrs

-- the tree in which each node has the limits that it is given by its number, where the first node has this number
abbrev mutual
  pub with_limits : (ℕ → Option (ℤ × ℤ)) → ℕ → Element → Element
  with_limits ranges n (element name attrs text children) = element name (limited (ranges n) attrs) text (with_limits_all ranges (n + 1) children)

  pub with_limits_all : (ℕ → Option (ℤ × ℤ)) → ℕ → Elements → Elements
  with_limits_all ranges n none = none
  with_limits_all ranges n (more e es) = more (with_limits ranges n e) (with_limits_all ranges (n + node_count (shape_of e)) es)
