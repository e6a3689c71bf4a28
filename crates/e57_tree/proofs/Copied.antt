-- Attributes and nodes that are copied one after another.
use Rattle.std.proofs.Common.{◌≡◌, ℕ, suc, ◌+◌, ◌^◌, ◌<◌, ◌≤◌, Bool, true, false, cond, ◌||◌, List, [], ◌∷◌, ◌++◌, length, map, get_or, drop, Some, slice_get, refl, sym, ap, ◌∙◌, arith, append_assoc, Fits, w64, None}
use Rattle.std.specs.Prelude.{unwrap_or, option_and_then}
use Rattle.std.specs.Fmt.{decimal}
use Rattle.std.specs.List.{AllByRecursion, filter_map, cons_option}
use Rattle.std.proofs.lemmas.List.{append-nil, drop-drop}
use Rattle.e57_pieces.specs.declared.piece.Attr.{Attr}
use Rattle.e57_elements.specs.declared.tree.RawNode.{RawNode}
use Rattle.e57_elements.specs.Lawful.{AreNodes}
use Rattle.e57_nodes.specs.Places.{is_cloud_or_blob, place_name, stated_place, with_value, with_places, item_count, placed_node, texts_after, placed_nodes}
use Rattle.e57_nodes.specs.Facts.{value_of, unsigned_in}
use Rattle.e57_nodes.proofs.Laws.Places.{preorder-with_places, IsLawful-with_places, AreTexts-decimals}
use Rattle.e57_tree.specs.Copies.{section_count, is_place, next_attr}
use Rattle.e57_tree.proofs.Lists.{drop-here, drop-all}

-- ---- attributes

-- the attributes that are left, of which the first place has this value unless it is set
abbrev pub attrs_left : Bool → List ℕ → List Attr → List Attr
attrs_left is_set value attrs = cond is_set attrs (with_value place_name value attrs)

left_first : (is_set : Bool) (value : List ℕ) (attr : Attr) (rest : List Attr) → attrs_left is_set value (attr ∷ rest) ≡ next_attr is_set value attr ∷ attrs_left (is_set || is_place attr) value rest
unfolding with_value
left_first true value attr rest = refl
left_first false value attr rest = by_test (is_place attr) where
  by_test : (b : Bool) → cond b ((record { name = attr.name; value = value }) ∷ rest) (attr ∷ with_value place_name value rest) ≡ (cond b (record { name = attr.name; value = value }) attr) ∷ cond b rest (with_value place_name value rest)
  by_test true = refl
  by_test false = refl

pub attrs_go_on : (old new : Bool) (value : List ℕ) (attrs now whole : List Attr) (i : ℕ) (attr added : Attr) → slice_get attrs i ≡ Some attr → added ≡ next_attr old value attr → new ≡ (old || is_place attr)
    → now ++ attrs_left old value (drop i attrs) ≡ whole → (now ++ added ∷ []) ++ attrs_left new value (drop (i + 1) attrs) ≡ whole
attrs_go_on old new value attrs now whole i attr added found a s h =
    append_assoc now (added ∷ []) (attrs_left new value (drop (i + 1) attrs))
    ∙ ap (λ x. now ++ (x ∷ attrs_left new value (drop (i + 1) attrs))) a ∙ ap (λ b. now ++ (next_attr old value attr ∷ attrs_left b value (drop (i + 1) attrs))) s
    ∙ ap (λ xs. now ++ xs) (sym (ap (attrs_left old value) (drop-here attrs i attr found) ∙ left_first old value attr (drop (i + 1) attrs))) ∙ h

none_left : (is_set : Bool) (value : List ℕ) → attrs_left is_set value [] ≡ []
unfolding with_value
none_left true value = refl
none_left false value = refl

pub attrs_end : (is_set : Bool) (value : List ℕ) (attrs now whole : List Attr) (i : ℕ) → length attrs ≤ i → now ++ attrs_left is_set value (drop i attrs) ≡ whole → now ≡ whole
attrs_end is_set value attrs now whole i l h = sym (append-nil now) ∙ ap (λ xs. now ++ xs) (sym (ap (attrs_left is_set value) (drop-all attrs i l) ∙ none_left is_set value)) ∙ h

-- copies as they are
pub copies_go_on : (attrs now : List Attr) (i : ℕ) (attr added : Attr) → slice_get attrs i ≡ Some attr → added ≡ attr → now ++ drop i attrs ≡ attrs → (now ++ added ∷ []) ++ drop (i + 1) attrs ≡ attrs
copies_go_on attrs now i attr added found a h =
    append_assoc now (added ∷ []) (drop (i + 1) attrs) ∙ ap (λ x. now ++ (x ∷ drop (i + 1) attrs)) a ∙ ap (λ xs. now ++ xs) (sym (drop-here attrs i attr found)) ∙ h

pub copies_end : (attrs now : List Attr) (i : ℕ) → length attrs ≤ i → now ++ drop i attrs ≡ attrs → now ≡ attrs
copies_end attrs now i l h = sym (append-nil now) ∙ ap (λ xs. now ++ xs) (sym (drop-all attrs i l)) ∙ h

-- ---- nodes

count_one : (node : RawNode) (rest : List RawNode) → item_count (node ∷ rest) ≡ section_count node + item_count rest
unfolding stated_place
count_one node rest = by_test (is_cloud_or_blob node.attrs) where
  value : ℕ
  value = unwrap_or (option_and_then unsigned_in (value_of place_name node.attrs)) 0

  by_test : (b : Bool) → length (cons_option (cond b (Some value) None) (filter_map stated_place rest)) ≡ cond b 1 0 + item_count rest
  by_test true = omega arith
  by_test false = omega arith

pub count_first : (nodes : List RawNode) (n : ℕ) (node : RawNode) → slice_get nodes n ≡ Some node → item_count (drop n nodes) ≡ section_count node + item_count (drop (n + 1) nodes)
count_first nodes n node found = ap item_count (drop-here nodes n node found) ∙ count_one node (drop (n + 1) nodes)

texts_next : (texts : List (List ℕ)) (used : ℕ) (node : RawNode) → texts_after (drop used texts) node ≡ drop (used + section_count node) texts
texts_next texts used node = by_test (is_cloud_or_blob node.attrs) where
  by_test : (b : Bool) → cond b (drop 1 (drop used texts)) (drop used texts) ≡ drop (used + cond b 1 0) texts
  by_test true = drop-drop 1 used texts
  by_test false = let same : used ≡ used + 0 = omega arith in ap (λ k. drop k texts) same

pub nodes_go_on : (texts : List (List ℕ)) (nodes now whole : List RawNode) (n used count : ℕ) (node added : RawNode) → slice_get nodes n ≡ Some node → count ≡ section_count node → added ≡ placed_node (drop used texts) node
    → now ++ placed_nodes (drop used texts) (drop n nodes) ≡ whole → (now ++ added ∷ []) ++ placed_nodes (drop (used + count) texts) (drop (n + 1) nodes) ≡ whole
nodes_go_on texts nodes now whole n used count node added found c a h =
    append_assoc now (added ∷ []) (placed_nodes (drop (used + count) texts) (drop (n + 1) nodes))
    ∙ ap (λ x. now ++ (x ∷ placed_nodes (drop (used + count) texts) (drop (n + 1) nodes))) a
    ∙ ap (λ k. now ++ (placed_node (drop used texts) node ∷ placed_nodes (drop (used + k) texts) (drop (n + 1) nodes))) c
    ∙ ap (λ ts. now ++ (placed_node (drop used texts) node ∷ placed_nodes ts (drop (n + 1) nodes))) (sym (texts_next texts used node))
    ∙ ap (λ xs. now ++ placed_nodes (drop used texts) xs) (sym (drop-here nodes n node found)) ∙ h

pub nodes_end : (texts : List (List ℕ)) (nodes now whole : List RawNode) (n used : ℕ) → length nodes ≤ n → now ++ placed_nodes (drop used texts) (drop n nodes) ≡ whole → now ≡ whole
nodes_end texts nodes now whole n used l h = sym (append-nil now) ∙ ap (λ xs. now ++ placed_nodes (drop used texts) xs) (sym (drop-all nodes n l)) ∙ h

all_fit : (places : List ℕ) → ((i : ℕ) → Fits w64 (get_or places i 0)) → AllByRecursion (λ n. n < 2 ^ 64) places
all_fit [] h = tt
all_fit (p ∷ ps) h = ((h 0).fits, all_fit ps (λ i. h (suc i)))

pub are_nodes : (places : List ℕ) (nodes new : List RawNode) → ((i : ℕ) → Fits w64 (get_or places i 0)) → AreNodes nodes → new ≡ placed_nodes (map decimal places) nodes → AreNodes new
are_nodes places nodes new fit h e = record {
  tree = with_places (map decimal places) h.tree;
  in_preorder = e ∙ ap (placed_nodes (map decimal places)) h.in_preorder ∙ sym (preorder-with_places (map decimal places) h.tree);
  is_lawful = IsLawful-with_places (map decimal places) h.tree (AreTexts-decimals places (all_fit places fit)) h.is_lawful;
}
