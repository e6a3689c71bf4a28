-- The children of a node, one after another.
use Rattle.std.proofs.Common.{◌≡◌, ℕ, ◌+◌, ◌<◌, ◌≤◌, Bool, true, false, cond, List, [], ◌∷◌, Some, None, refl, sym, ap, subst, ◌∙◌, arith}
use Rattle.std.specs.Prelude.{find, slice_get}
use Rattle.std.specs.Str.{bytes_eq}
use Rattle.e57_elements.specs.declared.tree.RawNode.{RawNode}
use Rattle.e57_nodes.specs.Facts.{facts_of, type_in}
use Rattle.e57_nodes.specs.Shape.{Node, children_from}
use Rattle.e57_nodes.specs.Fields.{child_named}
use Rattle.e57_nodes.specs.Typed.{is_misplaced}
use Rattle.e57_tree.specs.Flat.{raw_at, facts_in, shapes_between, end_of, node_in, AreElements, is_other}
use Rattle.e57_tree.proofs.Laws.Flat.{next_element, shapes_between-end}

abbrev pub children_at : List RawNode → ℕ → ℕ → List Node
children_at nodes n end = children_from n (shapes_between nodes n end)

pub children_next : (nodes : List RawNode) (n end : ℕ) → AreElements nodes n end → n < end → children_at nodes n end ≡ node_in nodes n ∷ children_at nodes (end_of nodes n) end
children_next nodes n end h l =
    let next = next_element nodes n end h l in
    ap (children_from n) next.shapes_are ∙ ap (λ k. node_in nodes n ∷ children_from (n + k) (shapes_between nodes (end_of nodes n) end)) next.inside.count

pub children_end : (nodes : List RawNode) (n end : ℕ) → AreElements nodes n end → end ≤ n → children_at nodes n end ≡ []
children_end nodes n end h l =
    let ends = h.ends in
    let same : n ≡ end = omega arith in
    ap (λ k. children_at nodes k end) same ∙ ap (children_from end) (shapes_between-end nodes end)

pub elements_next : (nodes : List RawNode) (n end : ℕ) → AreElements nodes n end → n < end → AreElements nodes (end_of nodes n) end
elements_next nodes n end h l = (next_element nodes n end h l).after

pub name_in : (node : RawNode) → (facts_in node).name ≡ node.name
unfolding facts_of
name_in node = refl

pub type_read : (node : RawNode) → (facts_in node).element_type ≡ type_in node.attrs
unfolding facts_of
type_read node = refl

find_first : (p : Node → Bool) (x : Node) (xs : List Node) (b : Bool) → p x ≡ b → find p (x ∷ xs) ≡ cond b (Some x) (find p xs)
find_first p x xs b e = ap (λ (t : Bool). cond t (Some x) (find p xs)) e

pub find_here : (p : Node → Bool) (nodes : List RawNode) (n end : ℕ) → AreElements nodes n end → n < end → p (node_in nodes n) ≡ true → find p (children_at nodes n end) ≡ Some (node_in nodes n)
find_here p nodes n end h l e = ap (find p) (children_next nodes n end h l) ∙ find_first p (node_in nodes n) (children_at nodes (end_of nodes n) end) true e

pub find_later : (p : Node → Bool) (nodes : List RawNode) (n end : ℕ) → AreElements nodes n end → n < end → p (node_in nodes n) ≡ false
    → find p (children_at nodes (end_of nodes n) end) ≡ find p (children_at nodes n end)
find_later p nodes n end h l e = sym (ap (find p) (children_next nodes n end h l) ∙ find_first p (node_in nodes n) (children_at nodes (end_of nodes n) end) false e)

pub find_nothing : (p : Node → Bool) (nodes : List RawNode) (n end : ℕ) → AreElements nodes n end → end ≤ n → find p (children_at nodes n end) ≡ None
find_nothing p nodes n end h l = ap (find p) (children_end nodes n end h l)

-- by name
named_test : (name : List ℕ) (nodes : List RawNode) (n : ℕ) (b : Bool) → bytes_eq (raw_at nodes n).name name ≡ b → bytes_eq (node_in nodes n).facts.name name ≡ b
named_test name nodes n b e = ap (λ m. bytes_eq m name) (name_in (raw_at nodes n)) ∙ e

pub named_here : (name : List ℕ) (nodes : List RawNode) (n end : ℕ) → AreElements nodes n end → n < end → bytes_eq (raw_at nodes n).name name ≡ true → child_named name (children_at nodes n end) ≡ Some (node_in nodes n)
unfolding child_named
named_here name nodes n end h l e = find_here (λ (x : Node). bytes_eq x.facts.name name) nodes n end h l (named_test name nodes n true e)

pub named_later : (name : List ℕ) (nodes : List RawNode) (n end : ℕ) → AreElements nodes n end → n < end → bytes_eq (raw_at nodes n).name name ≡ false
    → child_named name (children_at nodes (end_of nodes n) end) ≡ child_named name (children_at nodes n end)
unfolding child_named
named_later name nodes n end h l e = find_later (λ (x : Node). bytes_eq x.facts.name name) nodes n end h l (named_test name nodes n false e)

pub named_nothing : (name : List ℕ) (nodes : List RawNode) (n end : ℕ) → AreElements nodes n end → end ≤ n → child_named name (children_at nodes n end) ≡ None
unfolding child_named
named_nothing name nodes n end h l = find_nothing (λ (x : Node). bytes_eq x.facts.name name) nodes n end h l

-- by another name than those of a CompressedVector's children
pub misplaced_test : (nodes : List RawNode) (n : ℕ) (b : Bool) → is_other (raw_at nodes n).name ≡ b → is_misplaced (node_in nodes n) ≡ b
misplaced_test nodes n b e = ap is_other (name_in (raw_at nodes n)) ∙ e

-- ---- as the loops go on

pub elements_step : (nodes : List RawNode) (n end next : ℕ) → next ≡ end_of nodes n → AreElements nodes n end → n < end → AreElements nodes next end
elements_step nodes n end next e h l = subst (λ (k : ℕ). AreElements nodes k end) (sym e) (elements_next nodes n end h l)

pub find_step : (p : Node → Bool) (nodes : List RawNode) (n end next : ℕ) → next ≡ end_of nodes n → AreElements nodes n end → n < end → p (node_in nodes n) ≡ false
    → find p (children_at nodes next end) ≡ find p (children_at nodes n end)
find_step p nodes n end next e h l f = ap (λ k. find p (children_at nodes k end)) e ∙ find_later p nodes n end h l f

pub named_step : (name : List ℕ) (nodes : List RawNode) (n end next : ℕ) → next ≡ end_of nodes n → AreElements nodes n end → n < end → bytes_eq (raw_at nodes n).name name ≡ false
    → child_named name (children_at nodes next end) ≡ child_named name (children_at nodes n end)
named_step name nodes n end next e h l f = ap (λ k. child_named name (children_at nodes k end)) e ∙ named_later name nodes n end h l f

-- the first of them
pub first_here : (nodes : List RawNode) (n end : ℕ) → AreElements nodes n end → n < end → slice_get (children_at nodes n end) 0 ≡ Some (node_in nodes n)
first_here nodes n end h l = ap (λ xs. slice_get xs 0) (children_next nodes n end h l)

pub first_nothing : (nodes : List RawNode) (n end : ℕ) → AreElements nodes n end → end ≤ n → slice_get (children_at nodes n end) 0 ≡ None
first_nothing nodes n end h l = ap (λ xs. slice_get xs 0) (children_end nodes n end h l)
