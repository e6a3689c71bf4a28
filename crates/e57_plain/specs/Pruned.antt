-- The tree with one cloud changed: some of its fields, and another number of records.
use Rattle.std.specs.Prelude.{ℕ, ◌+◌, ◌-◌, ◌==◌, nat_lt, Bool, true, false, ◌&&◌, List, take, drop, codes, decimal, Option, Some, if◌then◌else◌}
use Rattle.std.specs.List.{list_any}
use Rattle.std.specs.Str.{bytes_eq}
use Rattle.e57_pieces.specs.declared.piece.Attr.{Attr}
use Rattle.e57_elements.specs.Tree.{Element, element, Elements, none, more}
use Rattle.e57_nodes.specs.declared.ElementType.{ElementType}
use Rattle.e57_nodes.specs.declared.ElementType.TheVariants as element_type
use Rattle.e57_nodes.specs.Facts.{type_in}
use Rattle.e57_nodes.specs.Places.{with_value}

-- ---- fields

abbrev pub is_field_type : Option ElementType → Bool
is_field_type (Some element_type.Integer) = true
is_field_type (Some element_type.ScaledInteger) = true
is_field_type (Some element_type.Float) = true
is_field_type (Some element_type.String) = true
is_field_type other = false

-- 1 where these are the attributes of a field
abbrev pub own_field : List Attr → ℕ
own_field attrs = if is_field_type (type_in attrs) then 1 else 0

-- how many fields there are, an element itself and those below it
abbrev mutual
  pub fields_in : Element → ℕ
  fields_in (element name attrs text children) = own_field attrs + fields_in_all children

  pub fields_in_all : Elements → ℕ
  fields_in_all none = 0
  fields_in_all (more e es) = fields_in e + fields_in_all es

-- one of these fields is kept
abbrev pub keeps_some : List Bool → Bool
keeps_some keep = list_any (λ (b : Bool). b) keep

-- Elements without those that hold no field that is kept; there is one truth value for each field, in preorder.
abbrev mutual
  pub pruned : List Bool → Element → Element
  pruned keep (element name attrs text children) = element name attrs text (pruned_all (drop (own_field attrs) keep) children)

  pub pruned_all : List Bool → Elements → Elements
  pruned_all keep none = none
  pruned_all keep (more e es) =
      if keeps_some (take (fields_in e) keep) then more (pruned keep e) (pruned_all (drop (fields_in e) keep) es)
      else pruned_all (drop (fields_in e) keep) es

-- the children of a CompressedVector, the first `prototype` among them with these fields
abbrev pub with_prototype : List Bool → Elements → Elements
with_prototype keep none = none
with_prototype keep (more (element name attrs text children) es) =
    if bytes_eq name (codes "prototype") then more (element name attrs text (pruned_all keep children)) es
    else more (element name attrs text children) (with_prototype keep es)

-- ---- one cloud of a tree

abbrev pub is_cloud_type : Option ElementType → Bool
is_cloud_type (Some element_type.CompressedVector) = true
is_cloud_type other = false

-- 1 where these are the attributes of a cloud
abbrev pub own_cloud : List Attr → ℕ
own_cloud attrs = if is_cloud_type (type_in attrs) then 1 else 0

-- how many clouds there are
abbrev mutual
  pub clouds_in : Element → ℕ
  clouds_in (element name attrs text children) = own_cloud attrs + clouds_in_all children

  pub clouds_in_all : Elements → ℕ
  clouds_in_all none = 0
  clouds_in_all (more e es) = clouds_in e + clouds_in_all es

abbrev pub count_name : List ℕ
count_name = codes "recordCount"

-- the tree in which cloud k, from 0 on in document order, has only the fields that are kept, and this number of records
abbrev mutual
  pub with_cloud : ℕ → List Bool → ℕ → Element → Element
  with_cloud k keep count (element name attrs text children) =
      if is_cloud_type (type_in attrs) && k == 0
      then element name (with_value count_name (decimal count) attrs) text (with_prototype keep children)
      else element name attrs text (with_cloud_all (k - own_cloud attrs) keep count children)

  pub with_cloud_all : ℕ → List Bool → ℕ → Elements → Elements
  with_cloud_all k keep count none = none
  with_cloud_all k keep count (more e es) =
      if nat_lt k (clouds_in e) then more (with_cloud k keep count e) es
      else more e (with_cloud_all (k - clouds_in e) keep count es)
