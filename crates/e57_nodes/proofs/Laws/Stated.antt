-- The places and the clouds and blobs of a tree without a fault: each has a readable place, and there are as many of one as of the other.
use Rattle.std.proofs.Common.{◌≡◌, ℕ, ◌+◌, Bool, true, false, not, List, [], ◌∷◌, ◌++◌, length, Option, Some, None, refl, sym, ap, ◌∙◌, arith, length-append}
use Rattle.std.specs.List.{filter_map, cons_option}
use Rattle.std.proofs.lemmas.List.Elements.{filter_map-append}
use Rattle.e57_base.specs.declared.kind.Kind.TheVariants as kind
use Rattle.e57_base.specs.Fault.{fault}
use Rattle.e57_pieces.specs.declared.piece.Attr.{Attr}
use Rattle.e57_elements.specs.declared.tree.RawNode.{RawNode}
use Rattle.e57_elements.specs.Tree.{Element, element, Elements, none, more, preorder, preorder_all}
use Rattle.e57_cloud.specs.Section.{when}
use Rattle.e57_nodes.specs.declared.ElementType.{ElementType}
use Rattle.e57_nodes.specs.declared.ElementType.TheVariants as element_type
use Rattle.e57_nodes.specs.Facts.{type_in, Facts, facts_of}
use Rattle.e57_nodes.specs.Shape.{shape_of, shapes_of, node_count, Node, node_at, nodes_from, nodes_from_all}
use Rattle.e57_nodes.specs.Places.{has_section, stated_place, places_in, item_count, IsPlaced, ArePlaced}
use Rattle.e57_nodes.specs.Typed.{unread, attr_fault, typed_fault}
use Rattle.e57_nodes.specs.Items.{stated_by, stated_item, stated_items}
use Rattle.e57_nodes.proofs.Laws.Sound.{AreSound, sound_nodes, option_or-none, sound-parts}
use Rattle.e57_cloud.proofs.Laws.Sections.{when-none}

-- ---- readable places

not-false : (b : Bool) → not b ≡ false → b ≡ true
not-false true e = refl
not-false false e = absurd (cc)

placed_by : (n : ℕ) (t : Option ElementType) (facts : Facts) → attr_fault n t facts ≡ None → has_section t ≡ true → facts.has_place ≡ true
unfolding attr_fault
placed_by n None facts e h = absurd (cc)
placed_by n (Some element_type.Structure) facts e h = absurd (cc)
placed_by n (Some element_type.Vector) facts e h = absurd (cc)
placed_by n (Some element_type.CompressedVector) facts e h =
    not-false facts.has_place (when-none (not facts.has_place) (fault kind.NodeAttr n 4) (option_or-none (when (not facts.has_place) (fault kind.NodeAttr n 4)) (unread n 5 facts.record_count) e).0)
placed_by n (Some element_type.Integer) facts e h = absurd (cc)
placed_by n (Some element_type.ScaledInteger) facts e h = absurd (cc)
placed_by n (Some element_type.Float) facts e h = absurd (cc)
placed_by n (Some element_type.String) facts e h = absurd (cc)
placed_by n (Some element_type.Blob) facts e h =
    not-false facts.has_place (when-none (not facts.has_place) (fault kind.NodeAttr n 4) (option_or-none (when (not facts.has_place) (fault kind.NodeAttr n 4)) (unread n 6 facts.blob_length) e).0)

placed_element : (n size : ℕ) (name : List ℕ) (attrs : List Attr) (text : List ℕ) → attr_fault n (facts_of name attrs text).element_type (facts_of name attrs text) ≡ None
    → IsPlaced (record { name = name; attrs = attrs; text = text; size = size })
unfolding facts_of
placed_element n size name attrs text e = record { readable = λ h. placed_by n (type_in attrs) (facts_of name attrs text) e h }

placed-append : (xs ys : List RawNode) → ArePlaced xs → ArePlaced ys → ArePlaced (xs ++ ys)
placed-append [] ys f g = g
placed-append (x ∷ xs) ys f g = (f.0, placed-append xs ys f.1 g)

mutual
  placed_from : (e : Element) (n : ℕ) → AreSound (nodes_from n (shape_of e)) → ArePlaced (preorder e)
  placed_from (element name attrs text children) n sound =
      (placed_element n (length (preorder_all children) + 1) name attrs text sound.0.attr_none, placed_from_all children (n + 1) sound.1)

  placed_from_all : (es : Elements) (n : ℕ) → AreSound (nodes_from_all n (shapes_of es)) → ArePlaced (preorder_all es)
  placed_from_all none n sound = tt
  placed_from_all (more e es) n sound =
      let both = sound-parts (nodes_from n (shape_of e)) (nodes_from_all (n + node_count (shape_of e)) (shapes_of es)) sound in
      placed-append (preorder e) (preorder_all es) (placed_from e n both.0) (placed_from_all es (n + node_count (shape_of e)) both.1)

-- In a tree without a fault each cloud and blob has a readable place.
pub ArePlaced-typed : (e : Element) → typed_fault (shape_of e) ≡ None → ArePlaced (preorder e)
ArePlaced-typed e free = placed_from e 0 (sound_nodes e None 0 free)

-- ---- how many there are

one_each : (x : Node) (t : Option ElementType) (node : RawNode) → type_in node.attrs ≡ t → length (cons_option (stated_by x t) []) ≡ length (cons_option (stated_place node) [])
unfolding stated_place
one_each x None node e = rw e refl
one_each x (Some element_type.Structure) node e = rw e refl
one_each x (Some element_type.Vector) node e = rw e refl
one_each x (Some element_type.CompressedVector) node e = rw e refl
one_each x (Some element_type.Integer) node e = rw e refl
one_each x (Some element_type.ScaledInteger) node e = rw e refl
one_each x (Some element_type.Float) node e = rw e refl
one_each x (Some element_type.String) node e = rw e refl
one_each x (Some element_type.Blob) node e = rw e refl

length-before : {X : Type 0} (found : Option X) (xs : List X) → length (cons_option found xs) ≡ length (cons_option found []) + length xs
length-before None xs = omega arith
length-before (Some x) xs = omega arith

one_element : (n : ℕ) (name : List ℕ) (attrs : List Attr) (text : List ℕ) (children : Elements)
    → length (cons_option (stated_item (node_at n (shape_of (element name attrs text children)))) [])
    ≡ length (cons_option (stated_place (record { name = name; attrs = attrs; text = text; size = length (preorder_all children) + 1 })) [])
unfolding stated_item facts_of
one_element n name attrs text children = one_each (node_at n (shape_of (element name attrs text children))) (type_in attrs) (record { name = name; attrs = attrs; text = text; size = length (preorder_all children) + 1 }) refl

mutual
  pub as_many : (e : Element) (n : ℕ) → length (filter_map stated_item (nodes_from n (shape_of e))) ≡ item_count (preorder e)
  as_many (element name attrs text children) n =
      let node : RawNode = record { name = name; attrs = attrs; text = text; size = length (preorder_all children) + 1 } in
      let one = one_element n name attrs text children in
      let later = as_many_all children (n + 1) in
      length-before (stated_item (node_at n (shape_of (element name attrs text children)))) (filter_map stated_item (nodes_from_all (n + 1) (shapes_of children)))
      ∙ ap (λ k. k + length (filter_map stated_item (nodes_from_all (n + 1) (shapes_of children)))) one
      ∙ ap (λ k. length (cons_option (stated_place node) []) + k) later
      ∙ sym (length-before (stated_place node) (filter_map stated_place (preorder_all children)))

  pub as_many_all : (es : Elements) (n : ℕ) → length (filter_map stated_item (nodes_from_all n (shapes_of es))) ≡ item_count (preorder_all es)
  as_many_all none n = refl
  as_many_all (more e es) n =
      let first = as_many e n in
      let later = as_many_all es (n + node_count (shape_of e)) in
      ap length (filter_map-append stated_item (nodes_from n (shape_of e)) (nodes_from_all (n + node_count (shape_of e)) (shapes_of es)))
      ∙ length-append (filter_map stated_item (nodes_from n (shape_of e))) (filter_map stated_item (nodes_from_all (n + node_count (shape_of e)) (shapes_of es)))
      ∙ ap (λ k. k + length (filter_map stated_item (nodes_from_all (n + node_count (shape_of e)) (shapes_of es)))) first
      ∙ ap (λ k. item_count (preorder e) + k) later
      ∙ sym (ap length (filter_map-append stated_place (preorder e) (preorder_all es)) ∙ length-append (filter_map stated_place (preorder e)) (filter_map stated_place (preorder_all es)))

-- A tree states as many places as it has clouds and blobs.
pub length-stated_items : (e : Element) → length (stated_items (shape_of e)) ≡ length (places_in e)
length-stated_items e = as_many e 0
