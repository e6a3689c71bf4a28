-- The elements of a list of nodes, and one element after another by number.
use Rattle.std.proofs.Common.{◌≡◌, ℕ, zero, suc, ◌+◌, ◌-◌, ◌<◌, ◌≤◌, Bool, true, false, ltb, List, [], ◌∷◌, ◌++◌, length, take, drop, get_or, refl, sym, ap, subst, ◌∙◌, arith, append_assoc, length-append, add-zero}
use Rattle.std.proofs.lemmas.List.{append-nil, get_or-drop, drop-drop}
use Rattle.std.proofs.Math.Seq.{take-append_seam, drop-append_seam}
use Rattle.e57_elements.specs.declared.tree.RawNode.{RawNode}
use Rattle.e57_elements.specs.Tree.{Element, element, Elements, none, more, preorder, preorder_all}
use Rattle.std.proofs.Math.Nat.{le_refl}
use Rattle.std.proofs.lemmas.Bool.{ltb-true, ltb-false}
use Rattle.e57_pieces.specs.declared.piece.Attr.{Attr}
use Rattle.e57_elements.specs.Lawful.{AreNodes}
use Rattle.e57_nodes.specs.Shape.{shape, no_shapes, shapes, shape_of, shapes_of, node_count, node_count_all}
use Rattle.e57_tree.specs.Flat.{elements_of, first_element, tree_of, no_node, raw_at, facts_in, shapes_between, end_of, shape_in, AreElements}

-- ---- the elements of their nodes

elements_more : (most : ℕ) (node : RawNode) (nodes : List RawNode)
    → elements_of (suc most) (node ∷ nodes) ≡ more (element node.name node.attrs node.text (elements_of most (take (node.size - 1) nodes))) (elements_of most (drop (node.size - 1) nodes))
unfolding elements_of
elements_more most node nodes = refl

-- as many nodes as there are suffice
pub elements_of-preorder_all : (most : ℕ) (es : Elements) → length (preorder_all es) ≤ most → elements_of most (preorder_all es) ≡ es
unfolding elements_of
elements_of-preorder_all zero none few = refl
elements_of-preorder_all (suc most) none few = refl
elements_of-preorder_all zero (more (element name attrs text children) es) few = absurd (omega arith)
elements_of-preorder_all (suc most) (more (element name attrs text children) es) few =
    let n = length-append (preorder_all children) (preorder_all es) in
    let k : length (preorder_all children) + 1 - 1 ≡ length (preorder_all children) = omega arith in
    ap (λ i. more (element name attrs text (elements_of most (take i (preorder_all children ++ preorder_all es)))) (elements_of most (drop i (preorder_all children ++ preorder_all es)))) k
    ∙ ap (λ ns. more (element name attrs text (elements_of most ns)) (elements_of most (drop (length (preorder_all children)) (preorder_all children ++ preorder_all es)))) (take-append_seam (preorder_all children) (preorder_all es))
    ∙ ap (λ ns. more (element name attrs text (elements_of most (preorder_all children))) (elements_of most ns)) (drop-append_seam (preorder_all children) (preorder_all es))
    ∙ ap (λ cs. more (element name attrs text cs) (elements_of most (preorder_all es))) (elements_of-preorder_all most children (omega arith))
    ∙ ap (λ xs. more (element name attrs text children) xs) (elements_of-preorder_all most es (omega arith))

pub tree_of-preorder : (e : Element) → tree_of (preorder e) ≡ e
tree_of-preorder e =
    ap (λ ns. first_element (elements_of (length ns) ns)) (sym (append-nil (preorder e)))
    ∙ ap first_element (elements_of-preorder_all (length (preorder_all (more e none))) (more e none) (omega arith))

-- ---- how many nodes there are

mutual
  pub node_count-shape_of : (e : Element) → node_count (shape_of e) ≡ length (preorder e)
  node_count-shape_of (element name attrs text children) = let n = node_count_all-shapes_of children in omega arith

  pub node_count_all-shapes_of : (es : Elements) → node_count_all (shapes_of es) ≡ length (preorder_all es)
  node_count_all-shapes_of none = refl
  node_count_all-shapes_of (more e es) = let n = node_count-shape_of e in let m = node_count_all-shapes_of es in let a = length-append (preorder e) (preorder_all es) in omega arith

-- ---- one element after another

-- what is read between two numbers is what is read of the elements there
pub shapes_between-is : (nodes : List RawNode) (n end : ℕ) (es : Elements) (rest : List RawNode) → drop n nodes ≡ preorder_all es ++ rest → n + length (preorder_all es) ≡ end
    → shapes_between nodes n end ≡ shapes_of es
shapes_between-is nodes n end es rest parts ends =
    let count : end - n ≡ length (preorder_all es) = omega arith in
    ap (λ k. shapes_of (elements_of k (take k (drop n nodes)))) count
    ∙ ap (λ ns. shapes_of (elements_of (length (preorder_all es)) (take (length (preorder_all es)) ns))) parts
    ∙ ap (λ ns. shapes_of (elements_of (length (preorder_all es)) ns)) (take-append_seam (preorder_all es) rest)
    ∙ ap shapes_of (elements_of-preorder_all (length (preorder_all es)) es (le_refl (length (preorder_all es))))

-- a node, those below it, and what follows
pub record IsInside (nodes : List RawNode) (n : ℕ) : Type 0 where
  pub forward : n < end_of nodes n
  pub within : end_of nodes n ≤ length nodes
  pub below : AreElements nodes (n + 1) (end_of nodes n)
  pub count : node_count (shape_in nodes n) ≡ (raw_at nodes n).size

-- Before the end there is one more: its node with those below it, and the elements that follow.
pub record IsNext (nodes : List RawNode) (n end : ℕ) : Type 0 where
  pub inside : IsInside nodes n
  pub within : end_of nodes n ≤ end
  pub after : AreElements nodes (end_of nodes n) end
  pub shapes_are : shapes_between nodes n end ≡ shapes (shape_in nodes n) (shapes_between nodes (end_of nodes n) end)

abbrev node_of : List ℕ → List Attr → List ℕ → Elements → RawNode
node_of name attrs text children = record { name = name; attrs = attrs; text = text; size = length (preorder_all children) + 1 }

-- The first of some elements: its node, what follows it, and what follows the nodes below it.
record Splits (nodes : List RawNode) (n : ℕ) (node : RawNode) (children es : Elements) (rest : List RawNode) : Type 0 where
  here : raw_at nodes n ≡ node
  behind : drop (n + 1) nodes ≡ preorder_all children ++ (preorder_all es ++ rest)
  after : drop (end_of nodes n) nodes ≡ preorder_all es ++ rest
  number : n + 1 + length (preorder_all children) ≡ end_of nodes n

splits : (nodes : List RawNode) (n : ℕ) (name : List ℕ) (attrs : List Attr) (text : List ℕ) (children es : Elements) (rest : List RawNode)
    → drop n nodes ≡ preorder_all (more (element name attrs text children) es) ++ rest → Splits nodes n (node_of name attrs text children) children es rest
splits nodes n name attrs text children es rest parts =
    let node = node_of name attrs text children in
    let later = preorder_all children ++ (preorder_all es ++ rest) in
    let whole : drop n nodes ≡ node ∷ later = parts ∙ ap (λ ns. node ∷ ns) (append_assoc (preorder_all children) (preorder_all es) rest) in
    let here : raw_at nodes n ≡ node = ap (λ k. get_or nodes k no_node) (sym (add-zero n)) ∙ sym (get_or-drop n nodes 0 no_node) ∙ ap (λ ns. get_or ns 0 no_node) whole in
    let behind : drop (n + 1) nodes ≡ later = sym (drop-drop 1 n nodes) ∙ ap (drop 1) whole in
    let size : (raw_at nodes n).size ≡ length (preorder_all children) + 1 = ap (λ (x : RawNode). x.size) here in
    let number : n + 1 + length (preorder_all children) ≡ end_of nodes n = omega arith in
    record {
      here = here;
      behind = behind;
      after =
          ap (λ k. drop k nodes) (sym number) ∙ sym (drop-drop (length (preorder_all children)) (n + 1) nodes) ∙ ap (drop (length (preorder_all children))) behind
          ∙ drop-append_seam (preorder_all children) (preorder_all es ++ rest);
      number = number;
    }

first_of_them : (nodes : List RawNode) (n end : ℕ) (name : List ℕ) (attrs : List Attr) (text : List ℕ) (children es : Elements) (rest : List RawNode)
    → drop n nodes ≡ preorder_all (more (element name attrs text children) es) ++ rest → n + length (preorder_all (more (element name attrs text children) es)) ≡ end → end ≤ length nodes
    → IsNext nodes n end
first_of_them nodes n end name attrs text children es rest parts ends within =
    let node = node_of name attrs text children in
    let split = splits nodes n name attrs text children es rest parts in
    let number = split.number in
    let sum = length-append (preorder_all children) (preorder_all es) in
    let last : end_of nodes n + length (preorder_all es) ≡ end = omega arith in
    let inner = shapes_between-is nodes (n + 1) (end_of nodes n) children (preorder_all es ++ rest) split.behind number in
    let shape_is : shape_in nodes n ≡ shape_of (element name attrs text children) = ap (λ (x : RawNode). shape (facts_in x) (shapes_between nodes (n + 1) (end_of nodes n))) split.here ∙ ap (λ ss. shape (facts_in node) ss) inner in
    record {
      inside = record {
        forward = omega arith;
        within = omega arith;
        below = record { elements = children; rest = preorder_all es ++ rest; parts = split.behind; ends = number; within = omega arith };
        count = let total = node_count-shape_of (element name attrs text children) in let same = ap node_count shape_is in omega arith;
      };
      within = omega arith;
      after = record { elements = es; rest = rest; parts = split.after; ends = last; within = within };
      shapes_are =
          shapes_between-is nodes n end (more (element name attrs text children) es) rest parts ends
          ∙ sym (ap (λ s. shapes s (shapes_between nodes (end_of nodes n) end)) shape_is ∙ ap (λ ss. shapes (shape_of (element name attrs text children)) ss) (shapes_between-is nodes (end_of nodes n) end es rest split.after last));
    }

pub next_element : (nodes : List RawNode) (n end : ℕ) → AreElements nodes n end → n < end → IsNext nodes n end
next_element nodes n end h l = by_elements h.elements h.parts h.ends where
  by_elements : (es : Elements) → drop n nodes ≡ preorder_all es ++ h.rest → n + length (preorder_all es) ≡ end → IsNext nodes n end
  by_elements none parts ends = absurd (omega arith)
  by_elements (more (element name attrs text children) es) parts ends = first_of_them nodes n end name attrs text children es h.rest parts ends h.within

-- at the end there is none
pub shapes_between-end : (nodes : List RawNode) (n : ℕ) → shapes_between nodes n n ≡ no_shapes
unfolding elements_of
shapes_between-end nodes n = let zero_long : n - n ≡ 0 = omega arith in ap (λ k. shapes_of (elements_of k (take k (drop n nodes)))) zero_long

-- ---- each node of a tree

-- the first of them, one below it, or one behind these
data IsPlace (n first end : ℕ) : Type 0 where
  here : n ≡ first → IsPlace n first end
  below : first + 1 ≤ n → n < end → IsPlace n first end
  behind : end ≤ n → IsPlace n first end

place_of : (n first end : ℕ) → first ≤ n → IsPlace n first end
place_of n first end low = by_tests (ltb first n) refl (ltb n end) refl where
  by_tests : (a : Bool) → ltb first n ≡ a → (b : Bool) → ltb n end ≡ b → IsPlace n first end
  by_tests false e b f = let l = ltb-false first n e in here (omega arith)
  by_tests true e true f = let l = ltb-true first n e in below (omega arith) (ltb-true n end f)
  by_tests true e false f = behind (ltb-false n end f)

inside_at : (es : Elements) (nodes : List RawNode) (first n : ℕ) (rest : List RawNode) → drop first nodes ≡ preorder_all es ++ rest → first + length (preorder_all es) ≤ length nodes
    → first ≤ n → n < first + length (preorder_all es) → IsInside nodes n
inside_at none nodes first n rest parts within low high = absurd (omega arith)
inside_at (more (element name attrs text children) es) nodes first n rest parts within low high =
    let split = splits nodes first name attrs text children es rest parts in
    let number = split.number in
    let sum = length-append (preorder_all children) (preorder_all es) in
    by_place (first_of_them nodes first (first + length (preorder_all (more (element name attrs text children) es))) name attrs text children es rest parts refl within).inside
    (λ low high. inside_at children nodes (first + 1) n (preorder_all es ++ rest) split.behind (omega arith) low (omega arith))
    (λ low. inside_at es nodes (end_of nodes first) n rest split.after (omega arith) low (omega arith))
    (place_of n first (end_of nodes first) low)
  where
    by_place : IsInside nodes first → (first + 1 ≤ n → n < end_of nodes first → IsInside nodes n) → (end_of nodes first ≤ n → IsInside nodes n) → IsPlace n first (end_of nodes first) → IsInside nodes n
    by_place at inner outer (here e) = subst (λ (k : ℕ). IsInside nodes k) (sym e) at
    by_place at inner outer (below l h) = inner l h
    by_place at inner outer (behind l) = outer l

-- all nodes
pub all_elements : (nodes : List RawNode) → AreNodes nodes → AreElements nodes 0 (length nodes)
all_elements nodes h = record {
  elements = more h.tree none;
  rest = [];
  parts = h.in_preorder ∙ sym (append-nil (preorder h.tree)) ∙ sym (append-nil (preorder h.tree ++ []));
  ends = let n = ap length h.in_preorder in let a = ap length (append-nil (preorder h.tree)) in omega arith;
  within = le_refl (length nodes);
}

pub node_inside : (nodes : List RawNode) (n : ℕ) → AreNodes nodes → n < length nodes → IsInside nodes n
node_inside nodes n h l =
    let all = all_elements nodes h in
    let ends = all.ends in
    inside_at all.elements nodes 0 n all.rest all.parts (omega arith) (omega arith) (omega arith)

-- the root's shape is that of the tree
pub shape_in-root : (e : Element) → shape_in (preorder e) 0 ≡ shape_of e
shape_in-root (element name attrs text children) =
    let parts : drop 0 (preorder (element name attrs text children)) ≡ preorder_all (more (element name attrs text children) none) ++ [] =
    sym (append-nil (preorder (element name attrs text children) ++ []) ∙ append-nil (preorder (element name attrs text children))) in
    let split = splits (preorder (element name attrs text children)) 0 name attrs text children none [] parts in
    ap (λ ss. shape (facts_in (node_of name attrs text children)) ss)
    (shapes_between-is (preorder (element name attrs text children)) 1 (end_of (preorder (element name attrs text children)) 0) children (preorder_all none ++ []) split.behind split.number)
