-- Nodes and attributes that are copied, with other places.
use Rattle.std.specs.Prelude.{ℕ, Bool, ◌&&◌, not, List, if◌then◌else◌}
use Rattle.std.specs.Str.{bytes_eq}
use Rattle.e57_pieces.specs.declared.piece.Attr.{Attr}
use Rattle.e57_elements.specs.declared.tree.RawNode.{RawNode}
use Rattle.e57_nodes.specs.Places.{is_cloud_or_blob, place_name}

-- how many sections a node has
abbrev pub section_count : RawNode → ℕ
section_count node = if is_cloud_or_blob node.attrs then 1 else 0

abbrev pub is_place : Attr → Bool
is_place attr = bytes_eq attr.name place_name

-- the attribute; the first place has this value
abbrev pub next_attr : Bool → List ℕ → Attr → Attr
next_attr is_set value attr = if not is_set && is_place attr then record { name = attr.name; value = value } else attr
