-- Changes that are added one after another, a node at a time.
use Rattle.std.proofs.Common.{◌≡◌, ℕ, suc, ◌+◌, ◌-◌, ◌<◌, ◌≤◌, Bool, true, false, cond, ◌&&◌, List, [], ◌∷◌, ◌++◌, length, take, drop, get_or, Option, Some, None, slice_get, refl, sym, ap, ◌∙◌, arith, append_assoc, ◌⊎◌, inl, inr}
use Rattle.std.proofs.lemmas.List.{append-nil, drop-drop, get_or-drop, replicate_more}
use Rattle.e57_elements.specs.declared.tree.RawNode.{RawNode}
use Rattle.e57_nodes.specs.declared.ElementType.{ElementType}
use Rattle.e57_nodes.specs.declared.ElementType.TheVariants as element_type
use Rattle.e57_nodes.specs.Facts.{type_in}
use Rattle.e57_nodes.specs.Places.{is_cloud_or_blob}
use Rattle.e57_plain.specs.Pruned.{is_field_type, own_field}
use Rattle.e57_tree.specs.Flat.{nodes_between, is_field_type as is_field}
use Rattle.e57_edits.proofs.Lists.{drop-here, drop-all}
use Rattle.e57_edits.specs.declared.changes.Change.{Change}
use Rattle.e57_edits.specs.Changes.{count_change, count_changes, kept, choice_change, choice_changes}
use Rattle.e57_edits.specs.declared.changes.Change.TheVariants.{Keep}
use mir.Val.{bool_byte}

-- one more behind those that are there
pub added : (whole now left : List Change) (change : Change) → now ++ (change ∷ left) ≡ whole → (now ++ change ∷ []) ++ left ≡ whole
added whole now left change h = append_assoc now (change ∷ []) left ∙ h

pub ended : (whole now left : List Change) → left ≡ [] → now ++ left ≡ whole → now ≡ whole
ended whole now left none h = sym (append-nil now) ∙ ap (λ xs. now ++ xs) (sym none) ∙ h

-- a truth value as a number
pub at_most_one : (b : Bool) → bool_byte b ≤ 1
at_most_one true = omega arith
at_most_one false = omega arith

pub one_if : (b : Bool) → bool_byte b ≡ cond b 1 0
one_if true = refl
one_if false = refl

-- ---- counts

pub counts_first : (counts : List ℕ) (nodes : List RawNode) (n used : ℕ) (node : RawNode) → slice_get nodes n ≡ Some node
    → count_changes (drop used counts) (drop n nodes) ≡ count_change (type_in node.attrs) (get_or counts used 0) ∷ count_changes (drop (used + cond (is_cloud_or_blob node.attrs) 1 0) counts) (drop (n + 1) nodes)
unfolding count_changes
counts_first counts nodes n used node found =
    ap (count_changes (drop used counts)) (drop-here nodes n node found)
    ∙ ap (λ count. count_change (type_in node.attrs) count ∷ count_changes (cond (is_cloud_or_blob node.attrs) (drop 1 (drop used counts)) (drop used counts)) (drop (n + 1) nodes)) (get_or-drop used counts 0 0 ∙ ap (λ k. get_or counts k 0) plain)
    ∙ ap (λ cs. count_change (type_in node.attrs) (get_or counts used 0) ∷ count_changes cs (drop (n + 1) nodes)) (by_test (is_cloud_or_blob node.attrs))
  where
    plain : used + 0 ≡ used
    plain = omega arith

    by_test : (b : Bool) → cond b (drop 1 (drop used counts)) (drop used counts) ≡ drop (used + cond b 1 0) counts
    by_test true = drop-drop 1 used counts
    by_test false = ap (λ k. drop k counts) (sym plain)

pub counts_end : (counts : List ℕ) (nodes : List RawNode) (n used : ℕ) → length nodes ≤ n → count_changes (drop used counts) (drop n nodes) ≡ []
unfolding count_changes
counts_end counts nodes n used l = ap (count_changes (drop used counts)) (drop-all nodes n l)

pub counts_go_on : (counts : List ℕ) (nodes : List RawNode) (now whole : List Change) (n used next : ℕ) (node : RawNode) (change : Change) → slice_get nodes n ≡ Some node
    → change ≡ count_change (type_in node.attrs) (get_or counts used 0) → next ≡ used + cond (is_cloud_or_blob node.attrs) 1 0
    → now ++ count_changes (drop used counts) (drop n nodes) ≡ whole → (now ++ change ∷ []) ++ count_changes (drop next counts) (drop (n + 1) nodes) ≡ whole
counts_go_on counts nodes now whole n used next node change found is after h =
    added whole now (count_changes (drop next counts) (drop (n + 1) nodes)) change
    (ap (λ x. now ++ (x ∷ count_changes (drop next counts) (drop (n + 1) nodes))) is
    ∙ ap (λ k. now ++ (count_change (type_in node.attrs) (get_or counts used 0) ∷ count_changes (drop k counts) (drop (n + 1) nodes))) after
    ∙ ap (λ xs. now ++ xs) (sym (counts_first counts nodes n used node found)) ∙ h)

-- ---- choices

-- both crates call the same types fields
pub same_field : (t : Option ElementType) → is_field t ≡ is_field_type t
same_field None = refl
same_field (Some element_type.Structure) = refl
same_field (Some element_type.Vector) = refl
same_field (Some element_type.CompressedVector) = refl
same_field (Some element_type.Integer) = refl
same_field (Some element_type.ScaledInteger) = refl
same_field (Some element_type.Float) = refl
same_field (Some element_type.String) = refl
same_field (Some element_type.Blob) = refl

pub choices_first : (chosen : List Bool) (nodes : List RawNode) (n end used : ℕ) (node : RawNode) → slice_get nodes n ≡ Some node → n < end
    → choice_changes (drop used chosen) (nodes_between nodes n end)
    ≡ choice_change (is_field_type (type_in node.attrs) && get_or chosen used false) ∷ choice_changes (drop (used + own_field node.attrs) chosen) (nodes_between nodes (n + 1) end)
unfolding choice_changes
choices_first chosen nodes n end used node found below =
    ap (choice_changes (drop used chosen)) nodes_are
    ∙ ap (λ c. choice_change (is_field_type (type_in node.attrs) && c) ∷ choice_changes (drop (own_field node.attrs) (drop used chosen)) (nodes_between nodes (n + 1) end)) (get_or-drop used chosen 0 false ∙ ap (λ k. get_or chosen k false) plain)
    ∙ ap (λ cs. choice_change (is_field_type (type_in node.attrs) && get_or chosen used false) ∷ choice_changes cs (nodes_between nodes (n + 1) end)) (drop-drop (own_field node.attrs) used chosen)
  where
    plain : used + 0 ≡ used
    plain = omega arith

    one_less : end - n ≡ suc (end - (n + 1))
    one_less = omega arith

    nodes_are : nodes_between nodes n end ≡ node ∷ nodes_between nodes (n + 1) end
    nodes_are = ap (λ k. take k (drop n nodes)) one_less ∙ ap (take (suc (end - (n + 1)))) (drop-here nodes n node found)

pub choices_end : (chosen : List Bool) (nodes : List RawNode) (n end used : ℕ) → end ≤ n → choice_changes (drop used chosen) (nodes_between nodes n end) ≡ []
unfolding choice_changes
choices_end chosen nodes n end used l = ap (choice_changes (drop used chosen)) nothing where
  none_between : end - n ≡ 0
  none_between = omega arith

  nothing : nodes_between nodes n end ≡ []
  nothing = ap (λ k. take k (drop n nodes)) none_between

pub choices_go_on : (chosen : List Bool) (nodes : List RawNode) (now whole : List Change) (n end used next : ℕ) (node : RawNode) (change : Change) → slice_get nodes n ≡ Some node → n < end
    → change ≡ choice_change (is_field_type (type_in node.attrs) && get_or chosen used false) → next ≡ used + own_field node.attrs
    → now ++ choice_changes (drop used chosen) (nodes_between nodes n end) ≡ whole → (now ++ change ∷ []) ++ choice_changes (drop next chosen) (nodes_between nodes (n + 1) end) ≡ whole
choices_go_on chosen nodes now whole n end used next node change found below is after h =
    added whole now (choice_changes (drop next chosen) (nodes_between nodes (n + 1) end)) change
    (ap (λ x. now ++ (x ∷ choice_changes (drop next chosen) (nodes_between nodes (n + 1) end))) is
    ∙ ap (λ k. now ++ (choice_change (is_field_type (type_in node.attrs) && get_or chosen used false) ∷ choice_changes (drop k chosen) (nodes_between nodes (n + 1) end))) after
    ∙ ap (λ xs. now ++ xs) (sym (choices_first chosen nodes n end used node found below)) ∙ h)

-- ---- nodes that stay as they are

pub kept_one : (before now : List Change) (i start : ℕ) → start ≤ i → now ≡ before ++ kept (i - start) → now ++ Keep ∷ [] ≡ before ++ kept (i + 1 - start)
kept_one before now i start le h =
    let more : i - start + 1 ≡ i + 1 - start = omega arith in
    ap (λ xs. xs ++ Keep ∷ []) h ∙ append_assoc before (kept (i - start)) (Keep ∷ []) ∙ ap (λ xs. before ++ xs) (replicate_more (i - start) Keep) ∙ ap (λ k. before ++ kept k) more

pub kept_end : (before now : List Change) (i start end : ℕ) → start ≤ i → end ≤ i → (i ≤ end) ⊎ (i ≡ start) → now ≡ before ++ kept (i - start) → now ≡ before ++ kept (end - start)
kept_end before now i start end le at (inl few) h = let same : i - start ≡ end - start = omega arith in h ∙ ap (λ k. before ++ kept k) same
kept_end before now i start end le at (inr same) h = let all : i - start ≡ end - start = omega arith in h ∙ ap (λ k. before ++ kept k) all
