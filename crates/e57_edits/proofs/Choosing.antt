-- Where the prototype of a cloud stands among its children.
use Rattle.std.proofs.Common.{◌≡◌, ℕ, ◌+◌, ◌-◌, ◌≤◌, ◌<◌, Bool, true, false, cond, List, [], ◌∷◌, ◌++◌, length, take, drop, get_or, Option, Some, None, Result, Ok, Err, refl, sym, ap, subst, ◌∙◌, arith, append_assoc, length-append, length-drop}
use Rattle.std.specs.Prelude.{codes, find, OnOk}
use Rattle.std.specs.Option.{option_map}
use Rattle.std.specs.Str.{bytes_eq}
use Rattle.std.proofs.lemmas.List.{drop-drop, get_or-drop, replicate-append-replicate, replicate_more, length-replicate, length-take-le}
use Rattle.std.proofs.Math.Seq.{take-append_seam, drop-append_seam}
use Rattle.e57_pieces.specs.declared.piece.Attr.{Attr}
use Rattle.e57_elements.specs.declared.tree.RawNode.{RawNode}
use Rattle.e57_elements.specs.Tree.{element, Elements, none, more, preorder, preorder_all}
use Rattle.e57_nodes.specs.Shape.{shape_of, shapes_of, node_count, Node, node_at, children_from, children_of}
use Rattle.e57_nodes.specs.Fields.{child_named}
use Rattle.e57_plain.proofs.Laws.Pruned.{facts-name}
use Rattle.e57_tree.specs.Flat.{no_node, raw_at, end_of, nodes_between, node_in}
use Rattle.e57_tree.proofs.Laws.Flat.{shapes_between-is, node_count-shape_of}
use Rattle.e57_nodes.proofs.Laws.Places.{node_of}
use Rattle.e57_edits.specs.declared.changes.Change.{Change}
use Rattle.e57_edits.specs.declared.changes.Change.TheVariants.{Keep}
use Rattle.e57_edits.specs.Changes.{kept, choice_changes, prototype_changes}
use Rattle.e57_edits.proofs.Pruning.{length-choices}

-- The prototype found among elements from number n on, and the changes of their nodes.
record IsFound (chosen : List Bool) (nodes : List RawNode) (n p : ℕ) (es : Elements) : Type 0 where
  low : n ≤ p
  forward : p < end_of nodes p
  within : end_of nodes p ≤ n + length (preorder_all es)
  plan : prototype_changes chosen es ≡ kept (p - n) ++ (Keep ∷ (choice_changes chosen (nodes_between nodes (p + 1) (end_of nodes p)) ++ kept (n + length (preorder_all es) - end_of nodes p)))

abbrev Chooses : List Bool → List RawNode → ℕ → Elements → Option Node → Type 0
Chooses chosen nodes n es None = prototype_changes chosen es ≡ kept (length (preorder_all es))
Chooses chosen nodes n es (Some x) = IsFound chosen nodes n x.number es

abbrev is_prototype : Node → Bool
is_prototype x = bytes_eq x.facts.name (codes "prototype")

-- the first of some elements
module _ (nodes : List RawNode) (n : ℕ) (name : List ℕ) (attrs : List Attr) (text : List ℕ) (children es : Elements) (rest : List RawNode)
    (parts : drop n nodes ≡ preorder_all (more (element name attrs text children) es) ++ rest) where
  abbrev size : ℕ
  size = length (preorder_all children)

  whole : drop n nodes ≡ node_of name attrs text children ∷ (preorder_all children ++ (preorder_all es ++ rest))
  whole = parts ∙ ap (λ ns. node_of name attrs text children ∷ ns) (append_assoc (preorder_all children) (preorder_all es) rest)

  here : raw_at nodes n ≡ node_of name attrs text children
  here = (let plain : n ≡ n + 0 = omega arith in ap (λ k. get_or nodes k no_node) plain) ∙ sym (get_or-drop n nodes 0 no_node) ∙ ap (λ ns. get_or ns 0 no_node) whole

  ends : end_of nodes n ≡ n + (size + 1)
  ends = ap (λ (x : RawNode). n + x.size) here

  inner : drop (n + 1) nodes ≡ preorder_all children ++ (preorder_all es ++ rest)
  inner = sym (drop-drop 1 n nodes) ∙ ap (drop 1) whole

  after : drop (n + (size + 1)) nodes ≡ preorder_all es ++ rest
  after =
      let far : n + (size + 1) ≡ n + 1 + size = omega arith in
      ap (λ k. drop k nodes) far ∙ sym (drop-drop size (n + 1) nodes) ∙ ap (drop size) inner ∙ drop-append_seam (preorder_all children) (preorder_all es ++ rest)

  below_is : nodes_between nodes (n + 1) (end_of nodes n) ≡ preorder_all children
  below_is =
      let count : end_of nodes n - (n + 1) ≡ size = let e = ends in omega arith in
      ap (λ k. take k (drop (n + 1) nodes)) count ∙ ap (take size) inner ∙ take-append_seam (preorder_all children) (preorder_all es ++ rest)

  total : length (preorder_all (more (element name attrs text children) es)) ≡ size + 1 + length (preorder_all es)
  total = let sum = length-append (preorder_all children) (preorder_all es) in omega arith

  -- it is the prototype
  first_found : (chosen : List Bool) → bytes_eq name (codes "prototype") ≡ true → IsFound chosen nodes n n (more (element name attrs text children) es)
  first_found chosen is =
      let nothing : 0 ≡ n - n = omega arith in
      let left : length (preorder_all es) ≡ n + length (preorder_all (more (element name attrs text children) es)) - end_of nodes n = let e = ends in let t = total in omega arith in
      record {
        low = omega arith;
        forward = let e = ends in omega arith;
        within = let e = ends in let t = total in omega arith;
        plan =
            ap (λ (b : Bool). cond b (Keep ∷ (choice_changes chosen (preorder_all children) ++ kept (length (preorder_all es)))) (kept (size + 1) ++ prototype_changes chosen es)) is
            ∙ ap (λ ns. Keep ∷ (choice_changes chosen ns ++ kept (length (preorder_all es)))) (sym below_is)
            ∙ ap (λ k. Keep ∷ (choice_changes chosen (nodes_between nodes (n + 1) (end_of nodes n)) ++ kept k)) left
            ∙ ap (λ k. kept k ++ (Keep ∷ (choice_changes chosen (nodes_between nodes (n + 1) (end_of nodes n)) ++ kept (n + length (preorder_all (more (element name attrs text children) es)) - end_of nodes n)))) nothing;
      }

  -- it isn't
  later_found : (chosen : List Bool) (found : Option Node) → bytes_eq name (codes "prototype") ≡ false → Chooses chosen nodes (n + (size + 1)) es found → Chooses chosen nodes n (more (element name attrs text children) es) found
  later_found chosen None other h =
      let t : size + 1 + length (preorder_all es) ≡ length (preorder_all (more (element name attrs text children) es)) = sym total in
      ap (λ (b : Bool). cond b (Keep ∷ (choice_changes chosen (preorder_all children) ++ kept (length (preorder_all es)))) (kept (size + 1) ++ prototype_changes chosen es)) other
      ∙ ap (λ xs. kept (size + 1) ++ xs) h ∙ replicate-append-replicate (size + 1) (length (preorder_all es)) Keep ∙ ap (λ k. kept k) t
  later_found chosen (Some x) other h =
      let p = x.number in
      let low = h.low in
      let within = h.within in
      let t = total in
      let front : size + 1 + (p - (n + (size + 1))) ≡ p - n = omega arith in
      let back : n + (size + 1) + length (preorder_all es) - end_of nodes p ≡ n + length (preorder_all (more (element name attrs text children) es)) - end_of nodes p = omega arith in
      let left = Keep ∷ (choice_changes chosen (nodes_between nodes (p + 1) (end_of nodes p)) ++ kept (n + (size + 1) + length (preorder_all es) - end_of nodes p)) in
      record {
        low = omega arith;
        forward = h.forward;
        within = omega arith;
        plan =
            ap (λ (b : Bool). cond b (Keep ∷ (choice_changes chosen (preorder_all children) ++ kept (length (preorder_all es)))) (kept (size + 1) ++ prototype_changes chosen es)) other
            ∙ ap (λ xs. kept (size + 1) ++ xs) h.plan ∙ sym (append_assoc (kept (size + 1)) (kept (p - (n + (size + 1)))) left)
            ∙ ap (λ xs. xs ++ left) (replicate-append-replicate (size + 1) (p - (n + (size + 1))) Keep) ∙ ap (λ k. kept k ++ left) front
            ∙ ap (λ k. kept (p - n) ++ (Keep ∷ (choice_changes chosen (nodes_between nodes (p + 1) (end_of nodes p)) ++ kept k))) back;
      }

chooses : (chosen : List Bool) (es : Elements) (nodes : List RawNode) (n : ℕ) (rest : List RawNode) → drop n nodes ≡ preorder_all es ++ rest → Chooses chosen nodes n es (find is_prototype (children_from n (shapes_of es)))
chooses chosen none nodes n rest parts = refl
chooses chosen (more (element name attrs text children) es) nodes n rest parts =
    by_test (chooses chosen es nodes (n + (length (preorder_all children) + 1)) rest (after nodes n name attrs text children es rest parts)) (bytes_eq name (codes "prototype")) refl
  where
    first : Node
    first = node_at n (shape_of (element name attrs text children))

    found : Option Node
    found = find is_prototype (children_from (n + (length (preorder_all children) + 1)) (shapes_of es))

    named : is_prototype first ≡ bytes_eq name (codes "prototype")
    named = ap (λ (x : List ℕ). bytes_eq x (codes "prototype")) (facts-name name attrs text)

    same : find is_prototype (children_from n (shapes_of (more (element name attrs text children) es))) ≡ cond (bytes_eq name (codes "prototype")) (Some first) found
    same =
        ap (λ (b : Bool). cond b (Some first) (find is_prototype (children_from (n + node_count (shape_of (element name attrs text children))) (shapes_of es)))) named
        ∙ ap (λ k. cond (bytes_eq name (codes "prototype")) (Some first) (find is_prototype (children_from (n + k) (shapes_of es)))) (node_count-shape_of (element name attrs text children) ∙ (let e : length (preorder (element name attrs text children)) ≡ length (preorder_all children) + 1 = omega arith in e))

    by_test : Chooses chosen nodes (n + (length (preorder_all children) + 1)) es found → (b : Bool) → bytes_eq name (codes "prototype") ≡ b
        → Chooses chosen nodes n (more (element name attrs text children) es) (find is_prototype (children_from n (shapes_of (more (element name attrs text children) es))))
    by_test later true e =
        subst (λ (f : Option Node). Chooses chosen nodes n (more (element name attrs text children) es) f) (sym (same ∙ ap (λ (b : Bool). cond b (Some first) found) e))
        (first_found nodes n name attrs text children es rest parts chosen e)
    by_test later false e =
        subst (λ (f : Option Node). Chooses chosen nodes n (more (element name attrs text children) es) f) (sym (same ∙ ap (λ (b : Bool). cond b (Some first) found) e))
        (later_found nodes n name attrs text children es rest parts chosen found e later)

-- what the call finds
found_is : (chosen : List Bool) (nodes : List RawNode) (n : ℕ) (es : Elements) (rest : List RawNode) (result : Option ℕ) → drop (n + 1) nodes ≡ preorder_all es ++ rest → n + 1 + length (preorder_all es) ≡ end_of nodes n
    → option_map (node_in nodes) result ≡ child_named (codes "prototype") (children_of (node_in nodes n)) → Chooses chosen nodes (n + 1) es (option_map (node_in nodes) result)
unfolding child_named
found_is chosen nodes n es rest result parts last is =
    subst (λ (f : Option Node). Chooses chosen nodes (n + 1) es f)
    (sym (is ∙ ap (λ ss. find is_prototype (children_from (n + 1) ss)) (shapes_between-is nodes (n + 1) (end_of nodes n) es rest parts last)))
    (chooses chosen es nodes (n + 1) rest parts)

all_nodes : (nodes : List RawNode) (n : ℕ) (es : Elements) (rest : List RawNode) → n < length nodes → drop (n + 1) nodes ≡ preorder_all es ++ rest → length nodes ≡ n + 1 + (length (preorder_all es) + length rest)
all_nodes nodes n es rest l parts =
    let fewer = length-drop (n + 1) nodes in
    let same = ap length parts ∙ length-append (preorder_all es) rest in
    omega arith

-- ---- the changes that are added

pub none_chosen : {A E : Type 0} (chosen : List Bool) (nodes : List RawNode) (n count : ℕ) (es : Elements) (rest : List RawNode) (old new : List Change) (result : Result A E) → n < length nodes → count ≡ length nodes → length old ≡ n + 1
    → drop (n + 1) nodes ≡ preorder_all es ++ rest → n + 1 + length (preorder_all es) ≡ end_of nodes n → None ≡ child_named (codes "prototype") (children_of (node_in nodes n))
    → OnOk result (new ≡ old ++ kept (count - length old)) → OnOk result (new ≡ old ++ (prototype_changes chosen es ++ kept (length rest)))
none_chosen chosen nodes n count es rest old new (Ok x) l all behind parts last is h =
    let plan : prototype_changes chosen es ≡ kept (length (preorder_all es)) = found_is chosen nodes n es rest None parts last is in
    let sum = all_nodes nodes n es rest l parts in
    let left : count - length old ≡ length (preorder_all es) + length rest = omega arith in
    h ∙ ap (λ k. old ++ kept k) left ∙ ap (λ xs. old ++ xs) (sym (replicate-append-replicate (length (preorder_all es)) (length rest) Keep) ∙ ap (λ xs. xs ++ kept (length rest)) (sym plan))
none_chosen chosen nodes n count es rest old new (Err e) l all behind parts last is h = tt

pub some_chosen : {A E : Type 0} (chosen : List Bool) (nodes : List RawNode) (n p count : ℕ) (es : Elements) (rest : List RawNode) (old first second new : List Change) (result : Result A E) → n < length nodes → count ≡ length nodes → length old ≡ n + 1
    → drop (n + 1) nodes ≡ preorder_all es ++ rest → n + 1 + length (preorder_all es) ≡ end_of nodes n → Some (node_in nodes p) ≡ child_named (codes "prototype") (children_of (node_in nodes n))
    → first ≡ old ++ kept (p + 1 - length old) → second ≡ first ++ choice_changes chosen (nodes_between nodes (p + 1) (end_of nodes p))
    → OnOk result (new ≡ second ++ kept (count - length second)) → OnOk result (new ≡ old ++ (prototype_changes chosen es ++ kept (length rest)))
some_chosen chosen nodes n p count es rest old first second new (Ok x) l all behind parts last is one two h =
    let found : IsFound chosen nodes (n + 1) p es = found_is chosen nodes n es rest (Some p) parts last is in
    let low = found.low in
    let within = found.within in
    let forward = found.forward in
    let sum = all_nodes nodes n es rest l parts in
    let choices = choice_changes chosen (nodes_between nodes (p + 1) (end_of nodes p)) in
    let more_kept : p + 1 - length old ≡ p - (n + 1) + 1 = omega arith in
    let many : length choices ≡ end_of nodes p - (p + 1) = length-choices chosen (nodes_between nodes (p + 1) (end_of nodes p)) ∙ length-between nodes (p + 1) (end_of nodes p) (omega arith) in
    let firsts : length first ≡ p + 1 = ap length one ∙ length-append old (kept (p + 1 - length old)) ∙ (let k = length-replicate (p + 1 - length old) Keep in omega arith) in
    let seconds : length second ≡ end_of nodes p = ap length two ∙ length-append first choices ∙ omega arith in
    let left : count - length second ≡ n + 1 + length (preorder_all es) - end_of nodes p + length rest = omega arith in
    let tail = kept (n + 1 + length (preorder_all es) - end_of nodes p) in
    h ∙ ap (λ k. second ++ kept k) left
    ∙ ap (λ xs. second ++ xs) (sym (replicate-append-replicate (n + 1 + length (preorder_all es) - end_of nodes p) (length rest) Keep))
    ∙ ap (λ xs. xs ++ (tail ++ kept (length rest))) (two ∙ ap (λ xs. xs ++ choices) (one ∙ ap (λ k. old ++ kept k) more_kept ∙ ap (λ xs. old ++ xs) (sym (replicate_more (p - (n + 1)) Keep))))
    ∙ joined old (kept (p - (n + 1))) choices tail (kept (length rest))
    ∙ ap (λ xs. old ++ (xs ++ kept (length rest))) (sym found.plan)
  where
    length-between : (nodes : List RawNode) (a b : ℕ) → b ≤ length nodes → length (nodes_between nodes a b) ≡ b - a
    length-between nodes a b within = let fewer = length-drop a nodes in length-take-le (b - a) (drop a nodes) (omega arith)

    joined : (old front choices tail last : List Change) → ((old ++ (front ++ Keep ∷ [])) ++ choices) ++ (tail ++ last) ≡ old ++ ((front ++ (Keep ∷ (choices ++ tail))) ++ last)
    joined old front choices tail last =
        append_assoc (old ++ (front ++ Keep ∷ [])) choices (tail ++ last) ∙ append_assoc old (front ++ Keep ∷ []) (choices ++ (tail ++ last))
        ∙ ap (λ xs. old ++ xs) (append_assoc front (Keep ∷ []) (choices ++ (tail ++ last)) ∙ ap (λ xs. front ++ (Keep ∷ xs)) (sym (append_assoc choices tail last)) ∙ sym (append_assoc front (Keep ∷ (choices ++ tail)) last))
some_chosen chosen nodes n p count es rest old first second new (Err e) l all behind parts last is one two h = tt
