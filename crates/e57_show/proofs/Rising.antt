-- In document order the numbers of the nodes of clouds and blobs rise.
use Rattle.std.proofs.Common.{◌≡◌, ℕ, ◌+◌, ◌≤◌, List, [], ◌∷◌, ◌++◌, Option, Some, None, refl, sym, ap, subst, arith, append_assoc, add-zero}
use Rattle.std.specs.Prelude.{unwrap_or}
use Rattle.std.specs.List.{filter_map, cons_option}
use Rattle.std.proofs.Math.Nat.{le_refl}
use Rattle.std.proofs.lemmas.List.{append-nil}
use Rattle.e57_nodes.specs.declared.ElementType.{ElementType}
use Rattle.e57_nodes.specs.declared.ElementType.TheVariants as element_type
use Rattle.e57_nodes.specs.Fields.{fields_of}
use Rattle.e57_nodes.specs.Shape.{Shape, shape, Shapes, no_shapes, shapes, node_count, node_count_all, Node, nodes_from, nodes_from_all}
use Rattle.e57_nodes.specs.Items.{StatedItem, stated_cloud, stated_blob, stated_by, stated_item, stated_items}

abbrev number_of : StatedItem → ℕ
number_of (stated_cloud n count fields) = n
number_of (stated_blob n size) = n

-- None of these stands before the one in front of it, nor before this number.
abbrev pub Rise : ℕ → List StatedItem → Type 0
Rise low [] = Unit {0}
Rise low (x ∷ xs) = (low ≤ number_of x) × Rise (number_of x) xs

abbrev NodesRise : ℕ → List Node → Type 0
NodesRise low [] = Unit {0}
NodesRise low (x ∷ xs) = (low ≤ x.number) × NodesRise (x.number + 1) xs

mutual
  nodes_rise : (n : ℕ) (s : Shape) (after : List Node) → NodesRise (n + node_count s) after → NodesRise n (nodes_from n s ++ after)
  nodes_rise n (shape facts below) after h =
      let count : n + (node_count_all below + 1) ≡ n + 1 + node_count_all below = omega arith in
      (le_refl n, nodes_rise_all (n + 1) below after (subst (λ (k : ℕ). NodesRise k after) count h))

  nodes_rise_all : (n : ℕ) (ss : Shapes) (after : List Node) → NodesRise (n + node_count_all ss) after → NodesRise n (nodes_from_all n ss ++ after)
  nodes_rise_all n no_shapes after h = subst (λ (k : ℕ). NodesRise k after) (add-zero n) h
  nodes_rise_all n (shapes s ss) after h =
      let count : n + (node_count s + node_count_all ss) ≡ n + node_count s + node_count_all ss = omega arith in
      subst (λ (xs : List Node). NodesRise n xs) (sym (append_assoc (nodes_from n s) (nodes_from_all (n + node_count s) ss) after))
      (nodes_rise n s (nodes_from_all (n + node_count s) ss ++ after)
      (nodes_rise_all (n + node_count s) ss after (subst (λ (k : ℕ). NodesRise k after) count h)))

lower : (low high : ℕ) (xs : List StatedItem) → low ≤ high → Rise high xs → Rise low xs
lower low high [] l h = tt
lower low high (x ∷ xs) l h = let first = h.0 in (omega arith, h.1)

same_number : (a b : StatedItem) → Some a ≡ Some b → number_of a ≡ number_of b
same_number a b e = ap (λ o. number_of (unwrap_or o a)) e

stated_number : (x : Node) (s : StatedItem) → stated_item x ≡ Some s → number_of s ≡ x.number
unfolding stated_item
stated_number x s e = by_type x.facts.element_type e where
  by_type : (t : Option ElementType) → stated_by x t ≡ Some s → number_of s ≡ x.number
  by_type (Some element_type.CompressedVector) e = sym (same_number (stated_cloud x.number (unwrap_or x.facts.record_count 0) (fields_of x)) s e)
  by_type (Some element_type.Blob) e = sym (same_number (stated_blob x.number (unwrap_or x.facts.blob_length 0)) s e)
  by_type None e = absurd cc
  by_type (Some element_type.Structure) e = absurd cc
  by_type (Some element_type.Vector) e = absurd cc
  by_type (Some element_type.Integer) e = absurd cc
  by_type (Some element_type.ScaledInteger) e = absurd cc
  by_type (Some element_type.Float) e = absurd cc
  by_type (Some element_type.String) e = absurd cc

items_rise : (low : ℕ) (xs : List Node) → NodesRise low xs → Rise low (filter_map stated_item xs)
items_rise low [] h = tt
items_rise low (x ∷ xs) h = by_item (stated_item x) refl (items_rise (x.number + 1) xs h.1) where
  by_item : (o : Option StatedItem) → stated_item x ≡ o → Rise (x.number + 1) (filter_map stated_item xs) → Rise low (cons_option o (filter_map stated_item xs))
  by_item None e later = let first = h.0 in lower low (x.number + 1) (filter_map stated_item xs) (omega arith) later
  by_item (Some s) e later =
      let same = stated_number x s e in
      (subst (λ (k : ℕ). low ≤ k) (sym same) h.0, lower (number_of s) (x.number + 1) (filter_map stated_item xs) (omega arith) later)

pub stated_rise : (tree : Shape) → Rise 0 (stated_items tree)
stated_rise tree = items_rise 0 (nodes_from 0 tree) (subst (λ (xs : List Node). NodesRise 0 xs) (append-nil (nodes_from 0 tree)) (nodes_rise 0 tree [] tt))
