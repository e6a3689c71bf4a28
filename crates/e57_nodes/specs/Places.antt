-- The `fileOffset` of clouds and blobs: the physical offsets of their sections.
use Rattle.std.specs.Prelude.{ℕ, Bool, true, false, List, [], ◌∷◌, drop, length, replicate, codes, slice_index_or, Option, Some, None, option_and_then, unwrap_or, if◌then◌else◌}
use Rattle.std.specs.List.{filter_map, AllByRecursion}
use Rattle.std.specs.Str.{bytes_eq}
use Rattle.e57_pieces.specs.declared.piece.Attr.{Attr}
use Rattle.e57_elements.specs.declared.tree.RawNode.{RawNode}
use Rattle.e57_elements.specs.Tree.{Element, element, Elements, none, more, preorder}
use Rattle.e57_nodes.specs.declared.ElementType.{ElementType}
use Rattle.e57_nodes.specs.declared.ElementType.TheVariants as element_type
use Rattle.e57_nodes.specs.Facts.{value_of, unsigned_in, type_in}
use Rattle.std.specs.Prelude.{◌≡◌, is_some}
use Rattle.e57_pieces.specs.Characters.{AreCharacters}

-- an element of this type has a section in the file
abbrev pub has_section : Option ElementType → Bool
has_section (Some element_type.CompressedVector) = true
has_section (Some element_type.Blob) = true
has_section _ = false

-- these attributes are a cloud's or a blob's
abbrev pub is_cloud_or_blob : List Attr → Bool
is_cloud_or_blob attrs = has_section (type_in attrs)

abbrev pub place_name : List ℕ
place_name = codes "fileOffset"

-- ---- the places that are stated

-- the offset that a cloud or a blob states; nothing of another node
unfoldable pub stated_place : RawNode → Option ℕ
stated_place node = if is_cloud_or_blob node.attrs then Some (unwrap_or (option_and_then unsigned_in (value_of place_name node.attrs)) 0) else None

-- one for each cloud and blob in document order
abbrev pub places_in : Element → List ℕ
places_in e = filter_map stated_place (preorder e)

-- ---- other places

-- the attributes, in which the one of this name has this value
unfoldable pub with_value : List ℕ → List ℕ → List Attr → List Attr
with_value name value [] = []
with_value name value (attr ∷ attrs) = if bytes_eq attr.name name then record { name = attr.name; value = value } ∷ attrs else attr ∷ with_value name value attrs

-- the tree with these texts as the places, one for each cloud and blob in document order
abbrev mutual
  pub with_places : List (List ℕ) → Element → Element
  with_places texts (element name attrs text children) =
      if is_cloud_or_blob attrs
      then element name (with_value place_name (slice_index_or texts 0 []) attrs) text (with_places_all (drop 1 texts) children)
      else element name attrs text (with_places_all texts children)

  pub with_places_all : List (List ℕ) → Elements → Elements
  with_places_all texts none = none
  with_places_all texts (more e es) = more (with_places texts e) (with_places_all (drop (length (places_in e)) texts) es)

-- the tree in which each place is the text `0`
abbrev pub without_places : Element → Element
without_places e = with_places (replicate (length (places_in e)) (codes "0")) e

-- nodes with these texts as the places, one for each cloud and blob
abbrev pub placed_node : List (List ℕ) → RawNode → RawNode
placed_node texts node =
    if is_cloud_or_blob node.attrs
    then record { name = node.name; attrs = with_value place_name (slice_index_or texts 0 []) node.attrs; text = node.text; size = node.size }
    else node

abbrev pub texts_after : List (List ℕ) → RawNode → List (List ℕ)
texts_after texts node = if is_cloud_or_blob node.attrs then drop 1 texts else texts

abbrev pub placed_nodes : List (List ℕ) → List RawNode → List RawNode
placed_nodes texts [] = []
placed_nodes texts (node ∷ nodes) = placed_node texts node ∷ placed_nodes (texts_after texts node) nodes

-- how many of nodes have a section
abbrev pub item_count : List RawNode → ℕ
item_count nodes = length (filter_map stated_place nodes)

-- A cloud or blob has a readable place.
pub record IsPlaced (node : RawNode) : Type 0 where
  pub readable : is_cloud_or_blob node.attrs ≡ true → is_some (option_and_then unsigned_in (value_of place_name node.attrs)) ≡ true

abbrev pub ArePlaced : List RawNode → Type 0
ArePlaced nodes = AllByRecursion IsPlaced nodes

-- each text is an unsigned number
abbrev pub AreReadable : List (List ℕ) → Type 0
AreReadable texts = AllByRecursion (λ text. is_some (unsigned_in text) ≡ true) texts

abbrev pub AreTexts : List (List ℕ) → Type 0
AreTexts texts = AllByRecursion AreCharacters texts
