-- The clouds and blobs that are found, node after node.
use Rattle.std.proofs.Common.{◌≡◌, ℕ, ◌+◌, ◌-◌, ◌<◌, ◌≤◌, cond, List, [], ◌∷◌, ◌++◌, length, drop, Option, Some, None, sym, ap, subst, ◌∙◌, arith, append_assoc, length-append}
use Rattle.std.specs.List.{filter_map, cons_option}
use Rattle.std.proofs.lemmas.List.{append-nil}
use Rattle.std.proofs.Math.Nat.{le_refl}
use Rattle.std.proofs.lemmas.Option.{slice_get-get_or}
use Rattle.e57_elements.specs.declared.tree.RawNode.{RawNode}
use Rattle.e57_elements.specs.Tree.{Element, none, more, preorder, preorder_all}
use Rattle.e57_nodes.specs.declared.ElementType.{ElementType}
use Rattle.e57_nodes.specs.declared.ElementType.TheVariants as element_type
use Rattle.e57_nodes.specs.Facts.{type_in}
use Rattle.e57_nodes.specs.Shape.{shape_of, nodes_from, nodes_from_all}
use Rattle.e57_nodes.specs.Places.{has_section, stated_place, places_in}
use Rattle.e57_nodes.specs.Items.{StatedItem, stated_by, stated_item, stated_items}
use Rattle.e57_tree.specs.declared.found.Found.{Found}
use Rattle.e57_tree.specs.Flat.{no_node, raw_at, node_in, AreElements}
use Rattle.e57_tree.specs.Held.{clouds_among, blobs_among, items_among, fields_among, Holds, place_at, AddsCloud, AddsBlob, AddsNode}
use Rattle.e57_tree.proofs.Laws.Flat.{shapes_between-is}
use Rattle.e57_tree.proofs.Lists.{drop-here, drop-all}
use Rattle.e57_tree.proofs.Rows.{row, row_first, row_none, below_in_row}
use Rattle.e57_tree.proofs.Children.{type_read}

-- what the nodes from this one on state
abbrev pub items_left : List RawNode → ℕ → List StatedItem
items_left nodes n = filter_map stated_item (row nodes n (length nodes - n))

abbrev pub places_left : List RawNode → ℕ → List ℕ
places_left nodes n = filter_map stated_place (drop n nodes)

-- What is found and what is left are all clouds and blobs.
pub record IsFinding (nodes : List RawNode) (n : ℕ) (found : Found) : Type 0 where
  pub clouds : found.clouds.items ++ clouds_among (items_left nodes n) (places_left nodes n) ≡ clouds_among (items_left nodes 0) (places_left nodes 0)
  pub blobs : found.blobs.items ++ blobs_among (items_left nodes n) (places_left nodes n) ≡ blobs_among (items_left nodes 0) (places_left nodes 0)
  pub items : found.items.items ++ items_among (length found.clouds.items) (length found.blobs.items) (items_left nodes n) ≡ items_among 0 0 (items_left nodes 0)
  pub fields : found.fields.items ++ fields_among (items_left nodes n) ≡ fields_among (items_left nodes 0)
  pub few_clouds : length found.clouds.items ≤ n
  pub few_blobs : length found.blobs.items ≤ n

-- ---- one node

items_first : (nodes : List RawNode) (n : ℕ) → n < length nodes → items_left nodes n ≡ cons_option (stated_by (node_in nodes n) (type_in (raw_at nodes n).attrs)) (items_left nodes (n + 1))
unfolding stated_item
items_first nodes n l =
    ap (filter_map stated_item) (row_first nodes n (length nodes) l)
    ∙ ap (λ t. cons_option (stated_by (node_in nodes n) t) (items_left nodes (n + 1))) (type_read (raw_at nodes n))

places_first : (nodes : List RawNode) (n : ℕ) → n < length nodes → places_left nodes n ≡ cons_option (cond (has_section (type_in (raw_at nodes n).attrs)) (Some (place_at nodes n)) None) (places_left nodes (n + 1))
unfolding stated_place
places_first nodes n l = ap (filter_map stated_place) (drop-here nodes n (raw_at nodes n) (slice_get-get_or nodes n no_node l))

stays : (nodes : List RawNode) (n : ℕ) (old new : Found) → IsFinding nodes n old → new ≡ old → items_left nodes n ≡ items_left nodes (n + 1) → places_left nodes n ≡ places_left nodes (n + 1) → IsFinding nodes (n + 1) new
stays nodes n old new h same e f =
    let few_clouds = h.few_clouds in
    let few_blobs = h.few_blobs in
    subst (λ (x : Found). IsFinding nodes (n + 1) x) (sym same) (record {
      clouds = ap (λ xs. old.clouds.items ++ clouds_among xs (places_left nodes (n + 1))) (sym e) ∙ ap (λ ps. old.clouds.items ++ clouds_among (items_left nodes n) ps) (sym f) ∙ h.clouds;
      blobs = ap (λ xs. old.blobs.items ++ blobs_among xs (places_left nodes (n + 1))) (sym e) ∙ ap (λ ps. old.blobs.items ++ blobs_among (items_left nodes n) ps) (sym f) ∙ h.blobs;
      items = ap (λ xs. old.items.items ++ items_among (length old.clouds.items) (length old.blobs.items) xs) (sym e) ∙ h.items;
      fields = ap (λ xs. old.fields.items ++ fields_among xs) (sym e) ∙ h.fields;
      few_clouds = omega arith;
      few_blobs = omega arith;
    })

one_more : {X : Type 0} (xs ys : List X) (x : X) → ys ≡ xs ++ x ∷ [] → length ys ≡ length xs + 1
one_more xs ys x e = ap length e ∙ length-append xs (x ∷ [])

-- with x added, what is left goes on behind it
behind : {X : Type 0} (xs ys left : List X) (x : X) → ys ≡ xs ++ x ∷ [] → ys ++ left ≡ xs ++ (x ∷ left)
behind xs ys left x e = ap (λ zs. zs ++ left) e ∙ append_assoc xs (x ∷ []) left

cloud_goes_on : (nodes : List RawNode) (n : ℕ) (old new : Found) → IsFinding nodes n old → AddsCloud nodes n old new
    → items_left nodes n ≡ cons_option (stated_by (node_in nodes n) (Some element_type.CompressedVector)) (items_left nodes (n + 1)) → places_left nodes n ≡ place_at nodes n ∷ places_left nodes (n + 1)
    → IsFinding nodes (n + 1) new
cloud_goes_on nodes n old new h adds e f =
    let items = items_left nodes (n + 1) in
    let places = places_left nodes (n + 1) in
    let all = cons_option (stated_by (node_in nodes n) (Some element_type.CompressedVector)) items in
    let more_clouds = one_more old.clouds.items new.clouds.items _ adds.clouds in
    let same_blobs = ap length adds.blobs in
    let few_clouds = h.few_clouds in
    let few_blobs = h.few_blobs in
    record {
      clouds =
          behind old.clouds.items new.clouds.items (clouds_among items places) _ adds.clouds
          ∙ ap (λ xs. old.clouds.items ++ clouds_among xs (place_at nodes n ∷ places)) (sym e) ∙ ap (λ ps. old.clouds.items ++ clouds_among (items_left nodes n) ps) (sym f) ∙ h.clouds;
      blobs =
          ap (λ bs. bs ++ blobs_among items places) adds.blobs
          ∙ ap (λ xs. old.blobs.items ++ blobs_among xs (place_at nodes n ∷ places)) (sym e) ∙ ap (λ ps. old.blobs.items ++ blobs_among (items_left nodes n) ps) (sym f) ∙ h.blobs;
      items =
          ap (λ k. new.items.items ++ items_among k (length new.blobs.items) items) more_clouds ∙ ap (λ k. new.items.items ++ items_among (length old.clouds.items + 1) k items) same_blobs
          ∙ behind old.items.items new.items.items (items_among (length old.clouds.items + 1) (length old.blobs.items) items) _ adds.items
          ∙ ap (λ xs. old.items.items ++ items_among (length old.clouds.items) (length old.blobs.items) xs) (sym e) ∙ h.items;
      fields = behind old.fields.items new.fields.items (fields_among items) _ adds.fields ∙ ap (λ xs. old.fields.items ++ fields_among xs) (sym e) ∙ h.fields;
      few_clouds = omega arith;
      few_blobs = omega arith;
    }

blob_goes_on : (nodes : List RawNode) (n : ℕ) (old new : Found) → IsFinding nodes n old → AddsBlob nodes n old new
    → items_left nodes n ≡ cons_option (stated_by (node_in nodes n) (Some element_type.Blob)) (items_left nodes (n + 1)) → places_left nodes n ≡ place_at nodes n ∷ places_left nodes (n + 1)
    → IsFinding nodes (n + 1) new
blob_goes_on nodes n old new h adds e f =
    let items = items_left nodes (n + 1) in
    let places = places_left nodes (n + 1) in
    let more_blobs = one_more old.blobs.items new.blobs.items _ adds.blobs in
    let same_clouds = ap length adds.clouds in
    let few_clouds = h.few_clouds in
    let few_blobs = h.few_blobs in
    record {
      clouds =
          ap (λ cs. cs ++ clouds_among items places) adds.clouds
          ∙ ap (λ xs. old.clouds.items ++ clouds_among xs (place_at nodes n ∷ places)) (sym e) ∙ ap (λ ps. old.clouds.items ++ clouds_among (items_left nodes n) ps) (sym f) ∙ h.clouds;
      blobs =
          behind old.blobs.items new.blobs.items (blobs_among items places) _ adds.blobs
          ∙ ap (λ xs. old.blobs.items ++ blobs_among xs (place_at nodes n ∷ places)) (sym e) ∙ ap (λ ps. old.blobs.items ++ blobs_among (items_left nodes n) ps) (sym f) ∙ h.blobs;
      items =
          ap (λ k. new.items.items ++ items_among k (length new.blobs.items) items) same_clouds ∙ ap (λ k. new.items.items ++ items_among (length old.clouds.items) k items) more_blobs
          ∙ behind old.items.items new.items.items (items_among (length old.clouds.items) (length old.blobs.items + 1) items) _ adds.items
          ∙ ap (λ xs. old.items.items ++ items_among (length old.clouds.items) (length old.blobs.items) xs) (sym e) ∙ h.items;
      fields = ap (λ fs. fs ++ fields_among items) adds.fields ∙ ap (λ xs. old.fields.items ++ fields_among xs) (sym e) ∙ h.fields;
      few_clouds = omega arith;
      few_blobs = omega arith;
    }

-- by the type of the node
goes_by : (nodes : List RawNode) (n : ℕ) (old new : Found) (t : Option ElementType) → IsFinding nodes n old → AddsNode nodes n t old new
    → items_left nodes n ≡ cons_option (stated_by (node_in nodes n) t) (items_left nodes (n + 1))
    → places_left nodes n ≡ cons_option (cond (has_section t) (Some (place_at nodes n)) None) (places_left nodes (n + 1)) → IsFinding nodes (n + 1) new
goes_by nodes n old new (Some element_type.CompressedVector) h adds e f = cloud_goes_on nodes n old new h adds e f
goes_by nodes n old new (Some element_type.Blob) h adds e f = blob_goes_on nodes n old new h adds e f
goes_by nodes n old new None h adds e f = stays nodes n old new h adds e f
goes_by nodes n old new (Some element_type.Structure) h adds e f = stays nodes n old new h adds e f
goes_by nodes n old new (Some element_type.Vector) h adds e f = stays nodes n old new h adds e f
goes_by nodes n old new (Some element_type.Integer) h adds e f = stays nodes n old new h adds e f
goes_by nodes n old new (Some element_type.ScaledInteger) h adds e f = stays nodes n old new h adds e f
goes_by nodes n old new (Some element_type.Float) h adds e f = stays nodes n old new h adds e f
goes_by nodes n old new (Some element_type.String) h adds e f = stays nodes n old new h adds e f

pub finding_goes_on : (nodes : List RawNode) (n : ℕ) (old new : Found) → n < length nodes → IsFinding nodes n old → AddsNode nodes n (type_in (raw_at nodes n).attrs) old new → IsFinding nodes (n + 1) new
finding_goes_on nodes n old new l h adds = goes_by nodes n old new (type_in (raw_at nodes n).attrs) h adds (items_first nodes n l) (places_first nodes n l)

pub finding_begins : (nodes : List RawNode) (found : Found) → found.clouds.items ≡ [] → found.blobs.items ≡ [] → found.items.items ≡ [] → found.fields.items ≡ [] → IsFinding nodes 0 found
finding_begins nodes found c b i f = record {
  clouds = ap (λ xs. xs ++ clouds_among (items_left nodes 0) (places_left nodes 0)) c;
  blobs = ap (λ xs. xs ++ blobs_among (items_left nodes 0) (places_left nodes 0)) b;
  items =
      ap (λ xs. xs ++ items_among (length found.clouds.items) (length found.blobs.items) (items_left nodes 0)) i
      ∙ ap (λ k. items_among k (length found.blobs.items) (items_left nodes 0)) (ap length c) ∙ ap (λ k. items_among 0 k (items_left nodes 0)) (ap length b);
  fields = ap (λ xs. xs ++ fields_among (items_left nodes 0)) f;
  few_clouds = let none_yet = ap length c in omega arith;
  few_blobs = let none_yet = ap length b in omega arith;
}

-- ---- the whole tree

-- all nodes of the tree
whole_row : (e : Element) → row (preorder e) 0 (length (preorder e) - 0) ≡ nodes_from 0 (shape_of e)
whole_row e =
    let parts : drop 0 (preorder e) ≡ preorder_all (more e none) ++ [] = sym (append-nil (preorder e ++ []) ∙ append-nil (preorder e)) in
    let count : 0 + length (preorder_all (more e none)) ≡ length (preorder e) = let a = ap length (append-nil (preorder e)) in omega arith in
    let all : AreElements (preorder e) 0 (length (preorder e)) = record { elements = more e none; rest = []; parts = parts; ends = count; within = le_refl (length (preorder e)) } in
    sym (below_in_row (preorder e) 0 (length (preorder e)) all)
    ∙ ap (nodes_from_all 0) (shapes_between-is (preorder e) 0 (length (preorder e)) (more e none) [] parts count)
    ∙ append-nil (nodes_from 0 (shape_of e))

all_items : (e : Element) → items_left (preorder e) 0 ≡ stated_items (shape_of e)
all_items e = ap (filter_map stated_item) (whole_row e)

nothing_left : (nodes : List RawNode) (n : ℕ) → length nodes ≤ n → items_left nodes n ≡ []
nothing_left nodes n l = ap (filter_map stated_item) (row_none nodes n (length nodes) l)

no_place_left : (nodes : List RawNode) (n : ℕ) → length nodes ≤ n → places_left nodes n ≡ []
no_place_left nodes n l = ap (filter_map stated_place) (drop-all nodes n l)

pub finding_ends : (nodes : List RawNode) (n : ℕ) (found : Found) → length nodes ≤ n → IsFinding nodes n found → (e : Element) → nodes ≡ preorder e → Holds e found
finding_ends nodes n found l h e same =
    let nothing = nothing_left nodes n l in
    let all : items_left nodes 0 ≡ stated_items (shape_of e) = ap (λ ns. items_left ns 0) same ∙ all_items e in
    let places : places_left nodes 0 ≡ places_in e = ap (λ ns. places_left ns 0) same in
    record {
      clouds =
          sym (append-nil found.clouds.items) ∙ ap (λ xs. found.clouds.items ++ clouds_among xs (places_left nodes n)) (sym nothing) ∙ h.clouds
          ∙ ap (λ xs. clouds_among xs (places_left nodes 0)) all ∙ ap (clouds_among (stated_items (shape_of e))) places;
      blobs =
          sym (append-nil found.blobs.items) ∙ ap (λ xs. found.blobs.items ++ blobs_among xs (places_left nodes n)) (sym nothing) ∙ h.blobs
          ∙ ap (λ xs. blobs_among xs (places_left nodes 0)) all ∙ ap (blobs_among (stated_items (shape_of e))) places;
      items =
          sym (append-nil found.items.items) ∙ ap (λ xs. found.items.items ++ items_among (length found.clouds.items) (length found.blobs.items) xs) (sym nothing) ∙ h.items ∙ ap (items_among 0 0) all;
      fields = sym (append-nil found.fields.items) ∙ ap (λ xs. found.fields.items ++ fields_among xs) (sym nothing) ∙ h.fields ∙ ap fields_among all;
    }
