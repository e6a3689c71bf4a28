-- A tree edited by counts is the tree with these counts.
use Rattle.std.proofs.Common.{◌≡◌, ℕ, suc, ◌+◌, ◌≤◌, Bool, true, false, cond, ◌||◌, List, [], ◌∷◌, ◌++◌, length, drop, get_or, Option, Some, None, slice_get, refl, sym, ap, subst, ◌∙◌, arith, append_assoc}
use Rattle.std.specs.Prelude.{decimal, unwrap_or, option_and_then}
use Rattle.std.specs.List.{filter_map, cons_option}
use Rattle.std.proofs.lemmas.List.{append-nil, drop-drop, get_or-drop}
use Rattle.std.proofs.Math.Seq.{drop-append_seam}
use Rattle.e57_pieces.specs.declared.piece.Attr.{Attr}
use Rattle.e57_elements.specs.declared.tree.RawNode.{RawNode}
use Rattle.e57_elements.specs.Tree.{Element, element, Elements, none, more, preorder, preorder_all}
use Rattle.e57_elements.specs.Lawful.{AreNodes}
use Rattle.e57_nodes.specs.declared.ElementType.{ElementType}
use Rattle.e57_nodes.specs.declared.ElementType.TheVariants as element_type
use Rattle.e57_nodes.specs.Facts.{value_of, unsigned_in, type_in}
use Rattle.e57_nodes.specs.Shape.{shape_of}
use Rattle.e57_nodes.specs.Typed.{typed_fault, max_records}
use Rattle.e57_nodes.specs.Places.{has_section, is_cloud_or_blob, place_name, stated_place, places_in, with_value, item_count}
use Rattle.e57_nodes.specs.Items.{StatedItem, stated_cloud, stated_blob, stated_items}
use Rattle.e57_tree.specs.declared.items.Item.TheVariants as item
use Rattle.e57_tree.specs.Held.{items_among, items_of}
use Rattle.e57_edits.specs.declared.changes.Change.{Change}
use Rattle.e57_edits.specs.Counts.{count_name_of, with_counts, with_counts_all, AreCounts}
use Rattle.e57_edits.specs.Changes.{stays_alone, changed_attrs, first_change, are_some, edited_all, count_change, count_changes, IsSoundEdit}
use Rattle.e57_edits.proofs.Pruning.{edited-more}
use Rattle.e57_edits.proofs.Recounted.{counts_after, with_counts-is, AreUnsigned, FewItems, counts-lawful, counts-typed_fault}

-- ---- the changes of nodes one after another

count_one : (node : RawNode) (rest : List RawNode) → item_count (node ∷ rest) ≡ cond (is_cloud_or_blob node.attrs) 1 0 + item_count rest
unfolding stated_place
count_one node rest = by_test (is_cloud_or_blob node.attrs) where
  value : ℕ
  value = unwrap_or (option_and_then unsigned_in (value_of place_name node.attrs)) 0

  by_test : (b : Bool) → length (cons_option (cond b (Some value) None) (filter_map stated_place rest)) ≡ cond b 1 0 + item_count rest
  by_test true = omega arith
  by_test false = omega arith

counts_node : (counts : List ℕ) (node : RawNode) (nodes : List RawNode) → count_changes counts (node ∷ nodes) ≡ count_change (type_in node.attrs) (get_or counts 0 0) ∷ count_changes (counts_after counts node.attrs) nodes
unfolding count_changes
counts_node counts node nodes = refl

counts_none : (counts : List ℕ) → count_changes counts [] ≡ []
unfolding count_changes
counts_none counts = refl

pub length-counts : (counts : List ℕ) (nodes : List RawNode) → length (count_changes counts nodes) ≡ length nodes
length-counts counts [] = ap length (counts_none counts)
length-counts counts (node ∷ nodes) = ap length (counts_node counts node nodes) ∙ ap suc (length-counts (counts_after counts node.attrs) nodes)

after_one : (counts : List ℕ) (node : RawNode) (rest : List RawNode) → drop (item_count rest) (counts_after counts node.attrs) ≡ drop (item_count (node ∷ rest)) counts
after_one counts node rest = by_test (is_cloud_or_blob node.attrs) ∙ ap (λ k. drop k counts) (sym (count_one node rest)) where
  by_test : (b : Bool) → drop (item_count rest) (cond b (drop 1 counts) counts) ≡ drop (cond b 1 0 + item_count rest) counts
  by_test true = drop-drop (item_count rest) 1 counts
  by_test false = let plain : item_count rest ≡ 0 + item_count rest = omega arith in ap (λ k. drop k counts) plain

counts-append : (counts : List ℕ) (xs ys : List RawNode) → count_changes counts (xs ++ ys) ≡ count_changes counts xs ++ count_changes (drop (item_count xs) counts) ys
counts-append counts [] ys = ap (λ cs. cs ++ count_changes counts ys) (sym (counts_none counts))
counts-append counts (node ∷ xs) ys =
    let change = count_change (type_in node.attrs) (get_or counts 0 0) in
    let next = counts_after counts node.attrs in
    counts_node counts node (xs ++ ys) ∙ ap (λ cs. change ∷ cs) (counts-append next xs ys)
    ∙ ap (λ cs. change ∷ (count_changes next xs ++ count_changes cs ys)) (after_one counts node xs)
    ∙ ap (λ cs. cs ++ count_changes (drop (item_count (node ∷ xs)) counts) ys) (sym (counts_node counts node xs))

-- ---- one element

count-stays : (t : Option ElementType) (n : ℕ) → stays_alone (count_change t n) ≡ true
count-stays None n = refl
count-stays (Some element_type.Structure) n = refl
count-stays (Some element_type.Vector) n = refl
count-stays (Some element_type.CompressedVector) n = refl
count-stays (Some element_type.Integer) n = refl
count-stays (Some element_type.ScaledInteger) n = refl
count-stays (Some element_type.Float) n = refl
count-stays (Some element_type.String) n = refl
count-stays (Some element_type.Blob) n = refl

change-attrs : (t : Option ElementType) (n : ℕ) (attrs : List Attr) → changed_attrs (count_change t n) attrs ≡ cond (has_section t) (with_value (count_name_of t) (decimal n) attrs) attrs
change-attrs None n attrs = refl
change-attrs (Some element_type.Structure) n attrs = refl
change-attrs (Some element_type.Vector) n attrs = refl
change-attrs (Some element_type.CompressedVector) n attrs = refl
change-attrs (Some element_type.Integer) n attrs = refl
change-attrs (Some element_type.ScaledInteger) n attrs = refl
change-attrs (Some element_type.Float) n attrs = refl
change-attrs (Some element_type.String) n attrs = refl
change-attrs (Some element_type.Blob) n attrs = refl

pub edited-counts : (counts : List ℕ) (es : Elements) (changes rest : List Change) → changes ≡ count_changes counts (preorder_all es) ++ rest → edited_all changes es ≡ with_counts_all counts es
edited-counts counts none changes rest h = refl
edited-counts counts (more (element name attrs text children) es) changes rest h =
    let e = element name attrs text children in
    let node : RawNode = record { name = name; attrs = attrs; text = text; size = length (preorder_all children) + 1 } in
    let change = count_change (type_in attrs) (get_or counts 0 0) in
    let next = counts_after counts attrs in
    let last = drop (length (places_in e)) counts in
    let below = with_counts_all next children in
    let later = with_counts_all last es in
    let first : count_changes counts (preorder e) ≡ change ∷ count_changes next (preorder_all children) = counts_node counts node (preorder_all children) in
    let whole : changes ≡ change ∷ (count_changes next (preorder_all children) ++ (count_changes last (preorder_all es) ++ rest)) =
    h ∙ ap (λ cs. cs ++ rest) (counts-append counts (preorder e) (preorder_all es) ∙ ap (λ cs. cs ++ count_changes last (preorder_all es)) first)
    ∙ ap (λ cs. change ∷ cs) (append_assoc (count_changes next (preorder_all children)) (count_changes last (preorder_all es)) rest) in
    let far : length (preorder_all children) + 1 ≡ 1 + length (count_changes next (preorder_all children)) = let n = length-counts next (preorder_all children) in omega arith in
    let behind : drop (length (preorder_all children) + 1) changes ≡ count_changes last (preorder_all es) ++ rest =
    ap (λ k. drop k changes) far ∙ sym (drop-drop (length (count_changes next (preorder_all children))) 1 changes)
    ∙ ap (λ cs. drop (length (count_changes next (preorder_all children))) (drop 1 cs)) whole
    ∙ drop-append_seam (count_changes next (preorder_all children)) (count_changes last (preorder_all es) ++ rest) in
    edited-more changes name attrs text children es below later change (ap first_change whole)
    (edited-counts next children (drop 1 changes) (count_changes last (preorder_all es) ++ rest) (ap (drop 1) whole))
    (edited-counts last es (drop (length (preorder_all children) + 1) changes) rest behind)
    ∙ ap (λ (b : Bool). cond (b || are_some below) (more (element name (changed_attrs change attrs) text below) later) later) (count-stays (type_in attrs) (get_or counts 0 0))
    ∙ ap (λ (ys : List Attr). more (element name ys text below) later) (change-attrs (type_in attrs) (get_or counts 0 0) attrs)
    ∙ ap (λ (x : Element). more x later) (sym (with_counts-is counts name attrs text children))

pub edited-counts_tree : (counts : List ℕ) (nodes : List RawNode) (e : Element) → nodes ≡ preorder e → edited_all (count_changes counts nodes) (more e none) ≡ more (with_counts counts e) none
edited-counts_tree counts nodes e same =
    edited-counts counts (more e none) (count_changes counts nodes) []
    (ap (count_changes counts) (same ∙ sym (append-nil (preorder e))) ∙ sym (append-nil (count_changes counts (preorder_all (more e none)))))

-- ---- it is sound

few_items : (items : List StatedItem) (counts : List ℕ) (clouds blobs : ℕ) → ((i cloud : ℕ) → slice_get (items_among clouds blobs items) i ≡ Some (item.Cloud cloud) → get_or counts i 0 ≤ max_records) → FewItems items counts
few_items [] counts clouds blobs h = tt
few_items (stated_cloud n count fields ∷ items) counts clouds blobs h = (h 0 clouds refl, few_items items (drop 1 counts) (clouds + 1) blobs (λ i cloud found. later i (h (suc i) cloud found))) where
  later : (i : ℕ) → get_or counts (suc i) 0 ≤ max_records → get_or (drop 1 counts) i 0 ≤ max_records
  later i few = let e : suc i ≡ 1 + i = omega arith in subst (λ k. k ≤ max_records) (ap (λ j. get_or counts j 0) e ∙ sym (get_or-drop 1 counts i 0)) few
few_items (stated_blob n size ∷ items) counts clouds blobs h = few_items items (drop 1 counts) clouds (blobs + 1) (λ i cloud found. later i (h (suc i) cloud found)) where
  later : (i : ℕ) → get_or counts (suc i) 0 ≤ max_records → get_or (drop 1 counts) i 0 ≤ max_records
  later i few = let e : suc i ≡ 1 + i = omega arith in subst (λ k. k ≤ max_records) (ap (λ j. get_or counts j 0) e ∙ sym (get_or-drop 1 counts i 0)) few

pub counts_sound : (counts : List ℕ) (nodes : List RawNode) (h : AreNodes nodes) → ((e : Element) → nodes ≡ preorder e → typed_fault (shape_of e) ≡ None) → AreUnsigned counts → AreCounts (items_of h.tree) counts → IsSoundEdit (count_changes counts nodes) nodes
counts_sound counts nodes h typed fits few = record {
  before = h.tree;
  after = with_counts counts h.tree;
  nodes_are = h.in_preorder;
  edited = edited-counts_tree counts nodes h.tree h.in_preorder;
  is_lawful = counts-lawful counts h.tree fits h.is_lawful;
  typed = counts-typed_fault counts h.tree fits (few_items (stated_items (shape_of h.tree)) counts 0 0 few) (typed h.tree h.in_preorder);
}
