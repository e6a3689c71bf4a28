-- What the calls that make a tree leave of it is lawful so far.
use Rattle.std.proofs.Common.{◌≡◌, ℕ, ◌+◌, ◌-◌, ◌^◌, ◌<◌, ◌≤◌, max, ◌⊎◌, inl, inr, true, List, [], ◌∷◌, ◌++◌, length, get_or, set, refl, sym, ap, subst, ◌∙◌, append_assoc, length-append, arith}
use Rattle.std.proofs.lemmas.List.{append-nil}
use Rattle.std.proofs.Math.Seq.{set-append_seam, get_or-append_seam}
use Rattle.std.specs.List.{AllByRecursion}
use Rattle.e57_pieces.specs.Characters.{AreCharacters}
use Rattle.e57_elements.specs.declared.tree.RawNode.{RawNode}
use Rattle.e57_elements.specs.Tree.{Element, Elements, none, more, preorder, preorder_all, depth_all}
use Rattle.e57_elements.specs.Nested.{only_space}
use Rattle.e57_elements.specs.Lawful.{IsLawfulAttr, IsLawfulNode, AreNodes}
use Rattle.e57_elements.specs.Machine.{Open, State, reading, done, join, begin, with_child, put}
use Rattle.e57_elements.specs.Making.{TreeSoFar, started, add_attr, set_text, set_size, IsInnermost, MayStart, MayAttr, MayText, begun_nodes, begun_places, made, MayHaveChild, AreBegun, IsMade, IsLawfulSoFar}
use Rattle.e57_elements.proofs.Lists.{snoc_same, snoc_some}
use Rattle.e57_elements.proofs.Nodes.{preorder_all-join}
use Rattle.e57_elements.proofs.Elements.{length-preorder, size_some}
use Rattle.e57_base.proofs.Lists.{all_append}

abbrev pub so_far : List RawNode → List ℕ → TreeSoFar
so_far nodes begun = record { nodes = nodes; begun = begun }

abbrev AllLawful : List RawNode → Type 0
AllLawful nodes = AllByRecursion IsLawfulNode nodes

-- ---- the innermost begun node

abbrev begun_node : Open → RawNode
begun_node top = record { name = top.name; attrs = top.attrs; text = top.text; size = 0 }

length-begun_places : (opens : List Open) → length (begun_places opens) ≡ length opens
length-begun_places [] = refl
length-begun_places (top ∷ outer) = let a = length-append (begun_places outer) (length (begun_nodes outer) ∷ []) in let h = length-begun_places outer in omega arith

cons_same : (x y : RawNode) (xs ys : List RawNode) → x ∷ xs ≡ y ∷ ys → (x ≡ y) × (xs ≡ ys)
cons_same x y xs ys e = (cc, cc)

-- lists in two parts, the first ones of one length
same_parts : (xs ys us vs : List RawNode) → xs ++ us ≡ ys ++ vs → length xs ≡ length ys → (xs ≡ ys) × (us ≡ vs)
same_parts [] [] us vs e h = (refl, e)
same_parts [] (y ∷ ys) us vs e h = absurd (omega arith)
same_parts (x ∷ xs) [] us vs e h = absurd (omega arith)
same_parts (x ∷ xs) (y ∷ ys) us vs e h =
    let tails = cons_same x y (xs ++ us) (ys ++ vs) e in
    let p = same_parts xs ys us vs tails.1 (omega arith) in
    (ap (λ z. z ∷ xs) tails.0 ∙ ap (λ zs. y ∷ zs) p.0, p.1)

-- what stands where: the node of the innermost begun element and those below it
pub record Inner (top : Open) (outer : List Open) (places : List ℕ) (before : List RawNode) (node : RawNode) (below : List RawNode) : Type 0 where
  pub places_are : places ≡ begun_places outer
  pub before_is : before ≡ begun_nodes outer
  pub node_is : node ≡ begun_node top
  pub below_is : below ≡ preorder_all top.children

inner_of : (top : Open) (outer : List Open) (places : List ℕ) (before : List RawNode) (node : RawNode) (below : List RawNode)
    → begun_places (top ∷ outer) ≡ places ++ length before ∷ [] → begun_nodes (top ∷ outer) ≡ before ++ node ∷ below → Inner top outer places before node below
inner_of top outer places before node below at_places at_nodes =
    let p = snoc_same (begun_places outer) places (length (begun_nodes outer)) (length before) at_places in
    let n = same_parts (begun_nodes outer) before (begun_node top ∷ preorder_all top.children) (node ∷ below) at_nodes p.1 in
    record { places_are = sym p.0; before_is = sym n.0; node_is = cc; below_is = cc }

-- a tree with an innermost begun node
pub record Within (tree : TreeSoFar) (places : List ℕ) (before : List RawNode) (node : RawNode) (below : List RawNode) : Type 0 where
  pub top : Open
  pub outer : List Open
  pub inner : Inner top outer places before node below
  pub are_begun : AreBegun (top ∷ outer)

pub within : (tree : TreeSoFar) (places : List ℕ) (before : List RawNode) (node : RawNode) (below : List RawNode) → IsLawfulSoFar tree
    → tree.begun ≡ places ++ length before ∷ [] → tree.nodes ≡ before ++ node ∷ below → Within tree places before node below
within tree places before node below h at_places at_nodes = go h.state h.is_made where
  go : (s : State) → IsMade s tree → Within tree places before node below
  go (reading []) (nodes, begun, are) = absurd (snoc_some places (length before) (sym begun ∙ at_places))
  go (reading (top ∷ outer)) (nodes, begun, are) = record { top = top; outer = outer; inner = inner_of top outer places before node below (sym begun ∙ at_places) (sym nodes ∙ at_nodes); are_begun = are }
  go (done e) (nodes, begun, each, deep) = absurd (snoc_some places (length before) (sym begun ∙ at_places))

-- some node is the innermost where one is begun
pub record Begun (tree : TreeSoFar) : Type 0 where
  pub outer : List ℕ
  pub before : List RawNode
  pub node : RawNode
  pub below : List RawNode
  pub begun : tree.begun ≡ outer ++ length before ∷ []
  pub nodes : tree.nodes ≡ before ++ node ∷ below

pub some_begun : (tree : TreeSoFar) → IsLawfulSoFar tree → 0 < length tree.begun → Begun tree
some_begun tree h some = go h.state h.is_made where
  go : (s : State) → IsMade s tree → Begun tree
  go (reading []) (nodes, begun, are) = absurd (let l = ap length begun in omega arith)
  go (reading (top ∷ outer)) (nodes, begun, are) =
      record { outer = begun_places outer; before = begun_nodes outer; node = begun_node top; below = preorder_all top.children; begun = begun; nodes = nodes }
  go (done e) (nodes, begun, each, deep) = absurd (let l = ap length begun in omega arith)

-- ---- no node yet

pub new_lawful : IsLawfulSoFar (so_far [] [])
new_lawful = record { state = reading []; is_made = (refl, refl, tt); not_large = omega arith }

-- ---- a node begins

may_have : (tree : TreeSoFar) (name : List ℕ) (opens : List Open) → tree.nodes ≡ begun_nodes opens → tree.begun ≡ begun_places opens → MayStart tree name → MayHaveChild opens
may_have tree name [] nodes begun may = tt
may_have tree name (top ∷ outer) nodes begun may = go may.place where
  go : (tree.nodes ≡ []) ⊎ ((node : RawNode) × (below : List RawNode) × IsInnermost tree node below × (only_space node.text ≡ true → node.text ≡ [])) → only_space top.text ≡ true → top.text ≡ []
  go (inl empty) = absurd (let a = length-append (begun_nodes outer) (begun_node top ∷ preorder_all top.children) in let f = ap length (sym nodes ∙ empty) in omega arith)
  go (inr (node, below, inner, free)) =
      let i = inner_of top outer inner.outer inner.before node below (sym begun ∙ inner.begun) (sym nodes ∙ inner.nodes) in
      let t : node.text ≡ top.text = ap (λ (x : RawNode). x.text) i.node_is in
      λ space. sym t ∙ free (ap only_space t ∙ space)

not_done : (tree : TreeSoFar) (name : List ℕ) (e : Element) → tree.nodes ≡ preorder e → tree.begun ≡ [] → MayStart tree name → ⊥
not_done tree name e nodes begun may = go may.place where
  go : (tree.nodes ≡ []) ⊎ ((node : RawNode) × (below : List RawNode) × IsInnermost tree node below × (only_space node.text ≡ true → node.text ≡ [])) → ⊥
  go (inl empty) = let l = length-preorder e in let s = size_some e in let f = ap length (sym nodes ∙ empty) in omega arith
  go (inr (node, below, inner, free)) = snoc_some inner.outer (length inner.before) (sym begun ∙ inner.begun)

pub started_lawful : (tree : TreeSoFar) (name : List ℕ) → IsLawfulSoFar tree → MayStart tree name → IsLawfulSoFar (started name tree)
started_lawful tree name h may = go h.state h.is_made where
  go : (s : State) → IsMade s tree → IsLawfulSoFar (started name tree)
  go (reading opens) (nodes, begun, are) =
      let n = length-begun_places opens in
      let b = ap length begun in
      let few = may.few_begun in
      record {
        state = reading (begin name [] ∷ opens);
        is_made = (
          ap (λ ns. ns ++ begun_node (begin name []) ∷ []) nodes,
          ap (λ ps. ps ++ length tree.nodes ∷ []) begun ∙ ap (λ ns. begun_places opens ++ length ns ∷ []) nodes,
          (
            (record { is_name = may.is_name; name = may.characters; each = tt; names_differ = refl; few_attrs = omega arith; text = record { numbers = []; each = tt; spelled = refl }; no_space = λ size space. refl }, tt),
            omega arith,
            may_have tree name opens nodes begun may,
            are,
          ),
        );
        not_large = let l = length-append tree.nodes (begun_node (begin name []) ∷ []) in let f = may.few_nodes in omega arith;
      }
  go (done e) (nodes, begun, each, deep) = absurd (not_done tree name e nodes begun may)

-- ---- the last node is changed

no_children : (es : Elements) → [] ≡ preorder_all es → es ≡ none
no_children none e = refl
no_children (more e es) f = absurd (let l = length-preorder e in let s = size_some e in let a = length-append (preorder e) (preorder_all es) in let g = ap length f in omega arith)

-- it stays lawful where the changed node does
pub changed_lawful : (tree : TreeSoFar) (places : List ℕ) (before : List RawNode) (node new : RawNode) → IsLawfulSoFar tree
    → tree.begun ≡ places ++ length before ∷ [] → tree.nodes ≡ before ++ node ∷ []
    → new.size ≡ node.size → (IsLawfulNode (set_size 1 node) → IsLawfulNode (set_size 1 new)) → IsLawfulSoFar (so_far (before ++ new ∷ []) tree.begun)
changed_lawful tree places before node new h at_places at_nodes same_size keeps =
    let w = within tree places before node [] h at_places at_nodes in
    let top = w.top in
    let childless = no_children top.children w.inner.below_is in
    let now : Open = record { name = new.name; attrs = new.attrs; children = none; text = new.text } in
    let size : new.size ≡ 0 = same_size ∙ ap (λ (x : RawNode). x.size) w.inner.node_is in
    let is : new ≡ begun_node now = ap (λ k. set_size k new) size in
    let alone : IsLawfulNode (set_size 1 (begun_node top)) =
    subst (λ cs. IsLawfulNode (record { name = top.name; attrs = top.attrs; text = top.text; size = length (preorder_all cs) + 1 })) childless w.are_begun.0.0 in
    let old : IsLawfulNode (set_size 1 node) = subst (λ x. IsLawfulNode (set_size 1 x)) (sym w.inner.node_is) alone in
    record {
      state = reading (now ∷ w.outer);
      is_made = (
        ap (λ ns. ns ++ new ∷ []) w.inner.before_is ∙ ap (λ x. begun_nodes w.outer ++ x ∷ []) is,
        at_places ∙ ap (λ ps. ps ++ length before ∷ []) w.inner.places_are ∙ ap (λ ns. begun_places w.outer ++ length ns ∷ []) w.inner.before_is,
        ((keeps old, tt), (let d = w.are_begun.1 in omega arith), w.are_begun.2, w.are_begun.3),
      );
      not_large = let a = length-append before (node ∷ []) in let b = length-append before (new ∷ []) in let f = ap length at_nodes in let l = h.not_large in omega arith;
    }

attr_keeps : (tree : TreeSoFar) (name value : List ℕ) (may : MayAttr tree name value) → IsLawfulNode (set_size 1 may.node) → IsLawfulNode (set_size 1 (add_attr name value may.node))
attr_keeps tree name value may h = record {
  is_name = h.is_name;
  name = h.name;
  each = all_append IsLawfulAttr may.node.attrs (record { name = name; value = value } ∷ []) h.each (record { is_name = may.is_name; name = may.characters; value = may.value_characters }, tt);
  names_differ = may.names_differ;
  few_attrs = let l = length-append may.node.attrs ((record { name = name; value = value }) ∷ []) in let f = may.few in omega arith;
  text = h.text;
  no_space = h.no_space;
}

pub attr_lawful : (tree : TreeSoFar) (name value : List ℕ) (may : MayAttr tree name value) → IsLawfulSoFar tree → IsLawfulSoFar (so_far (may.is_innermost.before ++ add_attr name value may.node ∷ []) tree.begun)
attr_lawful tree name value may h =
    let i = may.is_innermost in
    changed_lawful tree i.outer i.before may.node (add_attr name value may.node) h i.begun i.nodes refl (attr_keeps tree name value may)

text_keeps : (node : RawNode) (text : List ℕ) → AreCharacters text → IsLawfulNode (set_size 1 node) → IsLawfulNode (set_size 1 (set_text text node))
text_keeps node text are h = record {
  is_name = h.is_name;
  name = h.name;
  each = h.each;
  names_differ = h.names_differ;
  few_attrs = h.few_attrs;
  text = are;
  no_space = λ size space. absurd (omega arith);
}

pub text_lawful : (tree : TreeSoFar) (text : List ℕ) (may : MayText tree text) → IsLawfulSoFar tree → IsLawfulSoFar (so_far (may.is_innermost.before ++ set_text text may.node ∷ []) tree.begun)
text_lawful tree text may h =
    let i = may.is_innermost in
    changed_lawful tree i.outer i.before may.node (set_text text may.node) h i.begun i.nodes refl (text_keeps may.node text may.characters)

-- the last node, found by its place
pub record Last (nodes before : List RawNode) (node : RawNode) : Type 0 where
  pub within : length nodes ≡ length before + 1
  pub read : (d : RawNode) → get_or nodes (length nodes - 1) d ≡ node
  pub written : (x : RawNode) → set nodes (length nodes - 1) x ≡ before ++ x ∷ []

pub last_is : (nodes before : List RawNode) (node : RawNode) → nodes ≡ before ++ node ∷ [] → Last nodes before node
last_is nodes before node parts =
    let a = length-append before (node ∷ []) in
    let f = ap length parts in
    let p : length nodes - 1 ≡ length before = omega arith in
    record {
      within = omega arith;
      read = λ d. ap (λ k. get_or nodes k d) p ∙ ap (λ ns. get_or ns (length before) d) parts ∙ get_or-append_seam before node [] d;
      written = λ x. ap (λ k. set nodes k x) p ∙ ap (λ ns. set ns (length before) x) parts ∙ set-append_seam before node [] x;
    }

-- ---- the innermost begun node ends

depth_all-join : (cs ds : Elements) → depth_all (join cs ds) ≡ max (depth_all cs) (depth_all ds)
depth_all-join none ds = omega arith
depth_all-join (more c cs) ds = let h = depth_all-join cs ds in omega arith

-- an element that may have a child and has got one
with_child_lawful : (next : Open) (e : Element) → AllLawful (preorder (made next)) → (only_space next.text ≡ true → next.text ≡ []) → AllLawful (preorder e) → AllLawful (preorder (made (with_child e next)))
with_child_lawful next e h may below = (
  record { is_name = h.0.is_name; name = h.0.name; each = h.0.each; names_differ = h.0.names_differ; few_attrs = h.0.few_attrs; text = h.0.text; no_space = λ size space. may space },
  subst (λ ns. AllLawful ns) (sym (preorder_all-join next.children (more e none))) (all_append IsLawfulNode (preorder_all next.children) (preorder_all (more e none)) h.1 (all_append IsLawfulNode (preorder e) [] below tt)),
)

put_made : (top : Open) (outer : List Open) (places : List ℕ) (before : List RawNode) (node : RawNode) (below : List RawNode) → Inner top outer places before node below → AreBegun (top ∷ outer)
    → IsMade (put (made top) outer) (so_far (before ++ set_size (length below + 1) node ∷ below) places)
put_made top [] places before node below i are = (
  ap (λ ns. ns ++ set_size (length below + 1) node ∷ below) i.before_is
      ∙ ap (λ x. set_size (length below + 1) x ∷ below) i.node_is
      ∙ ap (λ ns. set_size (length ns + 1) (begun_node top) ∷ ns) i.below_is,
  i.places_are,
  are.0,
  let d = are.1 in omega arith,
)
put_made top (next ∷ outer) places before node below i are =
    let e = made top in
    let deep = are.1 in
    let next_deep = are.3.1 in
    let j = depth_all-join next.children (more e none) in (
      ap (λ ns. ns ++ set_size (length below + 1) node ∷ below) i.before_is
          ∙ ap (λ x. begun_nodes (next ∷ outer) ++ set_size (length below + 1) x ∷ below) i.node_is
          ∙ ap (λ ns. begun_nodes (next ∷ outer) ++ set_size (length ns + 1) (begun_node top) ∷ ns) i.below_is
          ∙ append_assoc (begun_nodes outer) (begun_node next ∷ preorder_all next.children) (preorder e)
          ∙ ap (λ ns. begun_nodes outer ++ (begun_node next ∷ ns)) (ap (λ ns. preorder_all next.children ++ ns) (sym (append-nil (preorder e))) ∙ sym (preorder_all-join next.children (more e none))),
      i.places_are,
      (with_child_lawful next e are.3.0 are.2 are.0, omega arith, are.3.2, are.3.3),
    )

pub ended_lawful : (tree : TreeSoFar) (places : List ℕ) (before below : List RawNode) (node : RawNode) → IsLawfulSoFar tree
    → tree.begun ≡ places ++ length before ∷ [] → tree.nodes ≡ before ++ node ∷ below → IsLawfulSoFar (so_far (before ++ set_size (length below + 1) node ∷ below) places)
ended_lawful tree places before below node h at_places at_nodes =
    let w = within tree places before node below h at_places at_nodes in
    record {
      state = put (made w.top) w.outer;
      is_made = put_made w.top w.outer places before node below w.inner w.are_begun;
      not_large = let a = length-append before (node ∷ below) in let b = length-append before (set_size (length below + 1) node ∷ below) in let f = ap length at_nodes in let l = h.not_large in omega arith;
    }

-- the node at a place gets its size
pub ended_is : (nodes before below : List RawNode) (node read : RawNode) (place len : ℕ)
    → nodes ≡ before ++ node ∷ below → place ≡ length before → len ≡ length nodes → read ≡ get_or nodes place read
    → set nodes place (set_size (len - place) read) ≡ before ++ set_size (length below + 1) node ∷ below
ended_is nodes before below node read place len parts at_place is_len is_read =
    let new = set_size (len - place) read in
    let r : read ≡ node = is_read ∙ ap (λ ns. get_or ns place read) parts ∙ ap (λ i. get_or (before ++ node ∷ below) i read) at_place ∙ get_or-append_seam before node below read in
    let n : len - place ≡ length below + 1 = (let a = length-append before (node ∷ below) in let b = ap length parts in omega arith) in
    ap (λ i. set nodes i new) at_place ∙ ap (λ ns. set ns (length before) new) parts ∙ set-append_seam before node below new
    ∙ ap (λ x. before ++ set_size (len - place) x ∷ below) r ∙ ap (λ k. before ++ set_size k node ∷ below) n

-- ---- the whole tree

pub finished_nodes : (tree : TreeSoFar) → IsLawfulSoFar tree → 0 < length tree.nodes → tree.begun ≡ [] → AreNodes tree.nodes
finished_nodes tree h some ended = go h.state h.is_made where
  go : (s : State) → IsMade s tree → AreNodes tree.nodes
  go (reading []) (nodes, begun, are) = absurd (let l = ap length nodes in omega arith)
  go (reading (top ∷ outer)) (nodes, begun, are) = absurd (snoc_some (begun_places outer) (length (begun_nodes outer)) (sym ended ∙ begun))
  go (done e) (nodes, begun, each, deep) = record { tree = e; in_preorder = nodes; is_lawful = record { each = each; not_deep = deep; not_large = subst (λ ns. length ns ≤ 2 ^ 20) nodes h.not_large } }
