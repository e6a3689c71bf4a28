-- What an edit makes of the elements of a tree: one change for each node in preorder.
use Rattle.std.specs.Prelude.{◌≡◌, ℕ, ◌+◌, Bool, true, false, ◌&&◌, ◌||◌, List, [], ◌∷◌, ◌++◌, length, drop, replicate, codes, decimal, slice_index_or, Option, Some, None, if◌then◌else◌}
use Rattle.std.specs.Str.{bytes_eq}
use Rattle.e57_pieces.specs.declared.piece.Attr.{Attr}
use Rattle.e57_elements.specs.declared.tree.RawNode.{RawNode}
use Rattle.e57_elements.specs.Tree.{Element, element, Elements, none, more, preorder, preorder_all}
use Rattle.e57_elements.specs.Lawful.{IsLawful}
use Rattle.e57_nodes.specs.declared.ElementType.{ElementType}
use Rattle.e57_nodes.specs.declared.ElementType.TheVariants as element_type
use Rattle.e57_nodes.specs.Facts.{type_in}
use Rattle.e57_nodes.specs.Shape.{shape_of}
use Rattle.e57_nodes.specs.Typed.{typed_fault}
use Rattle.e57_nodes.specs.Places.{is_cloud_or_blob, with_value}
use Rattle.e57_nodes.specs.Limits.{limited}
use Rattle.e57_plain.specs.Pruned.{count_name, is_field_type, own_field}
use Rattle.e57_tree.specs.Flat.{end_of, nodes_between}
use Rattle.e57_edits.specs.declared.limits.Range.{Range}
use Rattle.e57_edits.specs.declared.changes.Change.{Change}
use Rattle.e57_edits.specs.declared.changes.Change.TheVariants.{Keep, Omit, Limit, Records, Length}
use Rattle.e57_edits.specs.Counts.{length_name}

-- ---- of one node

-- it stays also where nothing below it does
abbrev pub stays_alone : Change → Bool
stays_alone Omit = false
stays_alone other = true

abbrev pub changed_attrs : Change → List Attr → List Attr
changed_attrs Keep attrs = attrs
changed_attrs Omit attrs = attrs
changed_attrs (Limit range) attrs = limited (Some (range.low, range.high)) attrs
changed_attrs (Records count) attrs = with_value count_name (decimal count) attrs
changed_attrs (Length count) attrs = with_value length_name (decimal count) attrs

abbrev pub first_change : List Change → Change
first_change changes = slice_index_or changes 0 Keep

-- ---- of elements

abbrev pub are_some : Elements → Bool
are_some none = false
are_some (more e es) = true

-- the elements that stay: by themselves, or for one below them
abbrev pub edited_all : List Change → Elements → Elements
edited_all changes none = none
edited_all changes (more (element name attrs text children) es) =
    if stays_alone (first_change changes) || are_some (edited_all (drop 1 changes) children)
    then
    more (element name (changed_attrs (first_change changes) attrs) text (edited_all (drop 1 changes) children))
    (edited_all (drop (length (preorder_all children) + 1) changes) es)
    else edited_all (drop (length (preorder_all children) + 1) changes) es

-- The tree of these nodes, edited so, is one lawful tree without a fault of its nodes.
pub record IsSoundEdit (changes : List Change) (nodes : List RawNode) : Type 0 where
  pub before : Element
  pub after : Element
  pub nodes_are : nodes ≡ preorder before
  pub edited : edited_all changes (more before none) ≡ more after none
  pub is_lawful : IsLawful after
  pub typed : typed_fault (shape_of after) ≡ None

-- ---- the changes of each edit

-- as many nodes stay as they are
abbrev pub kept : ℕ → List Change
kept n = replicate n Keep

abbrev pub limit_change : Option Range → Change
limit_change None = Keep
limit_change (Some range) = Limit range

abbrev pub count_change : Option ElementType → ℕ → Change
count_change (Some element_type.CompressedVector) count = Records count
count_change (Some element_type.Blob) count = Length count
count_change other count = Keep

-- of nodes one after another, with these counts of clouds and blobs
unfoldable pub count_changes : List ℕ → List RawNode → List Change
count_changes counts [] = []
count_changes counts (node ∷ nodes) =
    count_change (type_in node.attrs) (slice_index_or counts 0 0) ∷ count_changes (if is_cloud_or_blob node.attrs then drop 1 counts else counts) nodes

abbrev pub choice_change : Bool → Change
choice_change stays = if stays then Keep else Omit

-- of the nodes below a prototype: a field stays if it is chosen
unfoldable pub choice_changes : List Bool → List RawNode → List Change
choice_changes chosen [] = []
choice_changes chosen (node ∷ nodes) =
    choice_change (is_field_type (type_in node.attrs) && slice_index_or chosen 0 false) ∷ choice_changes (drop (own_field node.attrs) chosen) nodes

-- of the children of a cloud and the nodes below them: the first `prototype` gets these fields
abbrev pub prototype_changes : List Bool → Elements → List Change
prototype_changes chosen none = []
prototype_changes chosen (more (element name attrs text children) es) =
    if bytes_eq name (codes "prototype") then Keep ∷ (choice_changes chosen (preorder_all children) ++ kept (length (preorder_all es)))
    else kept (length (preorder_all children) + 1) ++ prototype_changes chosen es

-- of these, and of the nodes that follow them
abbrev pub changes_behind : List Bool → Elements → List RawNode → List Change
changes_behind chosen es rest = prototype_changes chosen es ++ kept (length rest)

-- of all nodes, where the cloud is the node with number n and has these children
abbrev pub cloud_changes : ℕ → List Bool → ℕ → Elements → List RawNode → List Change
cloud_changes n chosen count es rest = kept n ++ (Records count ∷ changes_behind chosen es rest)

-- the nodes below the one with number n
abbrev pub nodes_below : List RawNode → ℕ → List RawNode
nodes_below nodes n = nodes_between nodes (n + 1) (end_of nodes n)
