-- The way down to a node, and its path.
use Rattle.std.proofs.Common.{◌≡◌, ℕ, zero, suc, ◌+◌, ◌-◌, ◌<◌, ◌≤◌, Bool, true, false, List, [], ◌∷◌, ◌++◌, length, slice_get, Option, refl, sym, ap, subst, ◌∙◌, arith, length-append}
use Rattle.std.specs.Prelude.{unwrap_or}
use Rattle.e57_elements.specs.declared.tree.RawNode.{RawNode}
use Rattle.e57_elements.specs.Tree.{Element, element, preorder}
use Rattle.e57_elements.specs.Lawful.{AreNodes}
use Rattle.e57_nodes.specs.Shape.{Shape, shape, Shapes, no_shapes, shapes, shape_of, node_count, node_count_all}
use Rattle.e57_nodes.specs.Paths.{counts_children, child_path, paths_from, paths_from_all, path_of}
use Rattle.e57_tree.specs.Flat.{raw_at, facts_in, shapes_between, end_of, shape_in, AreElements}
use Rattle.e57_tree.specs.Paths.{named_path, path_in, LeadsTo}
use Rattle.e57_tree.proofs.Laws.Flat.{next_element, node_inside, shape_in-root, node_count-shape_of}
use Rattle.e57_tree.proofs.Children.{name_in}

-- ---- as many paths as nodes

mutual
  length-paths_from : (own : List ℕ) (s : Shape) → length (paths_from own s) ≡ node_count s
  length-paths_from own (shape facts below) = let later = length-paths_from_all (counts_children facts.element_type) own 0 below in omega arith

  length-paths_from_all : (counted : Bool) (own : List ℕ) (position : ℕ) (ss : Shapes) → length (paths_from_all counted own position ss) ≡ node_count_all ss
  length-paths_from_all counted own position no_shapes = refl
  length-paths_from_all counted own position (shapes s ss) =
      let first = length-paths_from (child_path counted own position s) s in
      let later = length-paths_from_all counted own (position + 1) ss in
      let sum = length-append (paths_from (child_path counted own position s) s) (paths_from_all counted own (position + 1) ss) in
      omega arith

get-front : (xs ys : List (List ℕ)) (i : ℕ) → i < length xs → slice_get (xs ++ ys) i ≡ slice_get xs i
get-front [] ys i h = absurd (omega arith)
get-front (x ∷ xs) ys zero h = refl
get-front (x ∷ xs) ys (suc i) h = get-front xs ys i (omega arith)

get-back : (xs ys : List (List ℕ)) (i : ℕ) → length xs ≤ i → slice_get (xs ++ ys) i ≡ slice_get ys (i - length xs)
get-back [] ys i h = let same : i ≡ i - 0 = omega arith in ap (slice_get ys) same
get-back (x ∷ xs) ys zero h = absurd (omega arith)
get-back (x ∷ xs) ys (suc i) h = let same : i - length xs ≡ suc i - suc (length xs) = omega arith in get-back xs ys i (omega arith) ∙ ap (slice_get ys) same

-- ---- child after child

-- the path of the wanted node among the children from this one on
abbrev pub path_among : Bool → List ℕ → ℕ → List RawNode → ℕ → ℕ → ℕ → Option (List ℕ)
path_among counted own position nodes child end wanted = slice_get (paths_from_all counted own position (shapes_between nodes child end)) (wanted - child)

paths_next : (counted : Bool) (own : List ℕ) (position : ℕ) (nodes : List RawNode) (child end : ℕ) → AreElements nodes child end → child < end
    → paths_from_all counted own position (shapes_between nodes child end)
    ≡ paths_from (child_path counted own position (shape_in nodes child)) (shape_in nodes child) ++ paths_from_all counted own (position + 1) (shapes_between nodes (end_of nodes child) end)
paths_next counted own position nodes child end h l = ap (paths_from_all counted own position) (next_element nodes child end h l).shapes_are

named_child : (counted : Bool) (own : List ℕ) (position : ℕ) (nodes : List RawNode) (child : ℕ) → child_path counted own position (shape_in nodes child) ≡ named_path counted own position (raw_at nodes child).name
named_child true own position nodes child = refl
named_child false own position nodes child = ap (λ name. own ++ (47 ∷ name)) (name_in (raw_at nodes child))

-- it stands behind this child
pub path_later : (counted : Bool) (own : List ℕ) (position : ℕ) (nodes : List RawNode) (child end wanted : ℕ) → AreElements nodes child end → child < end → end_of nodes child ≤ wanted
    → path_among counted own position nodes child end wanted ≡ path_among counted own (position + 1) nodes (end_of nodes child) end wanted
path_later counted own position nodes child end wanted h l le =
    let next = next_element nodes child end h l in
    let front = paths_from (child_path counted own position (shape_in nodes child)) (shape_in nodes child) in
    let count = length-paths_from (child_path counted own position (shape_in nodes child)) (shape_in nodes child) in
    let size = next.inside.count in
    let place : wanted - child - length front ≡ wanted - end_of nodes child = omega arith in
    ap (λ ps. slice_get ps (wanted - child)) (paths_next counted own position nodes child end h l)
    ∙ get-back front (paths_from_all counted own (position + 1) (shapes_between nodes (end_of nodes child) end)) (wanted - child) (omega arith)
    ∙ ap (slice_get (paths_from_all counted own (position + 1) (shapes_between nodes (end_of nodes child) end))) place

-- it stands at or below this child
pub path_here : (counted : Bool) (own : List ℕ) (position : ℕ) (nodes : List RawNode) (child end wanted : ℕ) → AreElements nodes child end → child < end → child ≤ wanted → wanted < end_of nodes child
    → path_among counted own position nodes child end wanted ≡ slice_get (paths_from (named_path counted own position (raw_at nodes child).name) (shape_in nodes child)) (wanted - child)
path_here counted own position nodes child end wanted h l from le =
    let next = next_element nodes child end h l in
    let front = paths_from (child_path counted own position (shape_in nodes child)) (shape_in nodes child) in
    let count = length-paths_from (child_path counted own position (shape_in nodes child)) (shape_in nodes child) in
    let size = next.inside.count in
    ap (λ ps. slice_get ps (wanted - child)) (paths_next counted own position nodes child end h l)
    ∙ get-front front (paths_from_all counted own (position + 1) (shapes_between nodes (end_of nodes child) end)) (wanted - child) (omega arith)
    ∙ ap (λ p. slice_get (paths_from p (shape_in nodes child)) (wanted - child)) (named_child counted own position nodes child)

-- a node that isn't the first stands below it
pub path_below : (own : List ℕ) (nodes : List RawNode) (n wanted : ℕ) → n < wanted
    → slice_get (paths_from own (shape_in nodes n)) (wanted - n) ≡ path_among (counts_children (facts_in (raw_at nodes n)).element_type) own 0 nodes (n + 1) (end_of nodes n) wanted
path_below own nodes n wanted l =
    let below = paths_from_all (counts_children (facts_in (raw_at nodes n)).element_type) own 0 (shapes_between nodes (n + 1) (end_of nodes n)) in
    let one : wanted - n ≡ suc (wanted - (n + 1)) = omega arith in
    ap (slice_get (own ∷ below)) one

pub path_own : (own : List ℕ) (nodes : List RawNode) (n wanted : ℕ) → wanted ≡ n → path_in nodes n own wanted ≡ own
path_own own nodes n wanted e =
    let nothing : wanted - n ≡ zero = omega arith in
    ap (λ k. unwrap_or (slice_get (paths_from own (shape_in nodes n)) k) []) nothing

pub path_in-root : (e : Element) (wanted : ℕ) → path_in (preorder e) 0 [] wanted ≡ path_of (shape_of e) wanted
path_in-root e wanted = ap (λ s. unwrap_or (slice_get (paths_from [] s) (wanted - 0)) []) (shape_in-root e) ∙ (let same : wanted - 0 ≡ wanted = omega arith in ap (λ k. path_of (shape_of e) k) same)

-- the whole tree stands below the root
pub root_end : (nodes : List RawNode) → AreNodes nodes → end_of nodes 0 ≡ length nodes
root_end nodes h =
    let inside = node_inside nodes 0 h (some nodes h) in
    let same : shape_in nodes 0 ≡ shape_of h.tree = ap (λ ns. shape_in ns 0) h.in_preorder ∙ shape_in-root h.tree in
    let count = sym inside.count ∙ ap node_count same ∙ node_count-shape_of h.tree ∙ ap length (sym h.in_preorder) in
    omega arith
  where
    some : (nodes : List RawNode) → AreNodes nodes → 0 < length nodes
    some nodes h = subst (λ (ns : List RawNode). 0 < length ns) (sym h.in_preorder) (some_node h.tree) where
      some_node : (e : Element) → 0 < length (preorder e)
      some_node (element name attrs text children) = omega arith

-- The wanted node stands at or below a child from this one on.
pub record IsLeading (nodes : List RawNode) (n end wanted child position next : ℕ) : Type 0 where
  pub elements : AreElements nodes child end
  pub after : n < child
  pub from : child ≤ wanted
  pub below : wanted < end
  pub next_is : next ≡ end_of nodes child
  pub few : position ≤ child
  pub same : (own : List ℕ) → path_among (counts_children (facts_in (raw_at nodes n)).element_type) own position nodes child end wanted
      ≡ path_among (counts_children (facts_in (raw_at nodes n)).element_type) own 0 nodes (n + 1) end wanted

pub leading_begins : (nodes : List RawNode) (n end wanted next : ℕ) → AreElements nodes (n + 1) end → n < wanted → wanted < end → next ≡ end_of nodes (n + 1) → IsLeading nodes n end wanted (n + 1) 0 next
leading_begins nodes n end wanted next h l below e = record { elements = h; after = omega arith; from = omega arith; below = below; next_is = e; few = omega arith; same = λ own. refl }

pub leading_goes_on : (nodes : List RawNode) (n end wanted child position next later : ℕ) → IsLeading nodes n end wanted child position next → next ≤ wanted → later ≡ end_of nodes next → IsLeading nodes n end wanted next (position + 1) later
leading_goes_on nodes n end wanted child position next later h l e =
    let from = h.from in
    let below = h.below in
    let is = h.next_is in
    let before : child < end = omega arith in
    let le : end_of nodes child ≤ wanted = omega arith in
    let element_next = next_element nodes child end h.elements before in
    let forward = element_next.inside.forward in
    let after = h.after in
    let few = h.few in
    record {
      elements = subst (λ (k : ℕ). AreElements nodes k end) (sym is) element_next.after;
      after = omega arith;
      from = l;
      below = below;
      next_is = e;
      few = omega arith;
      same = λ own.
          ap (λ k. path_among (counts_children (facts_in (raw_at nodes n)).element_type) own (position + 1) nodes k end wanted) is
          ∙ sym (path_later (counts_children (facts_in (raw_at nodes n)).element_type) own position nodes child end wanted h.elements before le) ∙ h.same own;
    }

pub leading_ends : (nodes : List RawNode) (n end wanted child position next : ℕ) → IsLeading nodes n end wanted child position next → end ≡ end_of nodes n → n < wanted → wanted < next → LeadsTo nodes n wanted child position
leading_ends nodes n end wanted child position next h e l w =
    let from = h.from in
    let below = h.below in
    let is = h.next_is in
    let within = h.elements.within in
    let before : child < end = omega arith in
    let inner : wanted < end_of nodes child = omega arith in
    record {
      after = h.after;
      inside = omega arith;
      from = from;
      below = inner;
      few = h.few;
      path = λ own.
          ap (λ o. unwrap_or o [])
          (path_below own nodes n wanted l
          ∙ ap (λ k. path_among (counts_children (facts_in (raw_at nodes n)).element_type) own 0 nodes (n + 1) k wanted) (sym e)
          ∙ sym (h.same own)
          ∙ path_here (counts_children (facts_in (raw_at nodes n)).element_type) own position nodes child end wanted h.elements before from inner);
    }
