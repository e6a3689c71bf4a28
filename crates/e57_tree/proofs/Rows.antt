-- Nodes one after another in preorder, by their numbers.
use Rattle.std.proofs.Common.{◌≡◌, ℕ, zero, suc, ◌+◌, ◌-◌, ◌<◌, ◌≤◌, Bool, true, false, cond, ltb, List, [], ◌∷◌, ◌++◌, length, Option, Some, None, is_some, refl, sym, ap, ◌∙◌, arith, length-append}
use Rattle.std.specs.Prelude.{find}
use Rattle.std.proofs.lemmas.Bool.{ltb-true, ltb-false}
use Rattle.std.proofs.Math.Nat.{le_refl}
use Rattle.e57_elements.specs.declared.tree.RawNode.{RawNode}
use Rattle.e57_layout.specs.declared.field.FieldKind.{FieldKind}
use Rattle.e57_nodes.specs.declared.ElementType.{ElementType}
use Rattle.e57_nodes.specs.declared.ElementType.TheVariants as element_type
use Rattle.e57_nodes.specs.Facts.{Facts, facts_of, type_in}
use Rattle.e57_nodes.specs.Places.{has_section}
use Rattle.e57_nodes.specs.Shape.{Shape, shape, Shapes, no_shapes, shapes, node_count, Node, nodes_from, nodes_from_all}
use Rattle.e57_nodes.specs.Paths.{counts_children, child_path}
use Rattle.e57_nodes.specs.Fields.{kind_of, field_at, fields_from, fields_from_all}
use Rattle.e57_tree.specs.Flat.{raw_at, facts_in, shapes_between, end_of, node_in, AreElements, has_section_node, is_field_type}
use Rattle.e57_tree.proofs.Laws.Flat.{IsNext, next_element, shapes_between-end}

-- k nodes, the first with this number
abbrev pub row : List RawNode → ℕ → ℕ → List Node
row nodes n zero = []
row nodes n (suc k) = node_in nodes n ∷ row nodes (n + 1) k

row-append : (nodes : List RawNode) (n j k : ℕ) → row nodes n j ++ row nodes (n + j) k ≡ row nodes n (j + k)
row-append nodes n zero k = let e : n + zero ≡ n = omega arith in let f : zero + k ≡ k = omega arith in ap (λ m. row nodes m k) e ∙ ap (row nodes n) (sym f)
row-append nodes n (suc j) k =
    let e : n + suc j ≡ n + 1 + j = omega arith in let f : suc j + k ≡ suc (j + k) = omega arith in
    ap (λ m. node_in nodes n ∷ (row nodes (n + 1) j ++ row nodes m k)) e ∙ ap (λ xs. node_in nodes n ∷ xs) (row-append nodes (n + 1) j k) ∙ ap (row nodes n) (sym f)

row_end : (nodes : List RawNode) (n end : ℕ) → AreElements nodes n end → end ≤ n → nodes_from_all n (shapes_between nodes n end) ≡ row nodes n (end - n)
row_end nodes n end h l =
    let ends = h.ends in
    let same : end ≡ n = omega arith in
    let nothing : end - n ≡ zero = omega arith in
    ap (λ k. nodes_from_all n (shapes_between nodes n k)) same ∙ ap (nodes_from_all n) (shapes_between-end nodes n) ∙ ap (row nodes n) (sym nothing)

row_next : (nodes : List RawNode) (n end : ℕ) → IsNext nodes n end
    → nodes_from_all (n + 1) (shapes_between nodes (n + 1) (end_of nodes n)) ≡ row nodes (n + 1) (end_of nodes n - (n + 1))
    → nodes_from_all (end_of nodes n) (shapes_between nodes (end_of nodes n) end) ≡ row nodes (end_of nodes n) (end - end_of nodes n)
    → nodes_from_all n (shapes_between nodes n end) ≡ row nodes n (end - n)
row_next nodes n end next inner outer =
    let forward = next.inside.forward in
    let within = next.within in
    let below = nodes_from_all (n + 1) (shapes_between nodes (n + 1) (end_of nodes n)) in
    let after = shapes_between nodes (end_of nodes n) end in
    let j = end_of nodes n - (n + 1) in
    let k = end - end_of nodes n in
    let place : n + 1 + j ≡ end_of nodes n = omega arith in
    let whole : suc (j + k) ≡ end - n = omega arith in
    ap (nodes_from_all n) next.shapes_are
    ∙ ap (λ m. (node_in nodes n ∷ below) ++ nodes_from_all (n + m) after) next.inside.count
    ∙ ap (λ xs. (node_in nodes n ∷ xs) ++ nodes_from_all (end_of nodes n) after) inner
    ∙ ap (λ ys. (node_in nodes n ∷ row nodes (n + 1) j) ++ ys) outer
    ∙ ap (λ m. (node_in nodes n ∷ row nodes (n + 1) j) ++ row nodes m k) (sym place)
    ∙ ap (λ xs. node_in nodes n ∷ xs) (row-append nodes (n + 1) j k)
    ∙ ap (row nodes n) whole

-- the nodes between two numbers
by_number : (most : ℕ) (nodes : List RawNode) (n end : ℕ) → end - n ≤ most → AreElements nodes n end → nodes_from_all n (shapes_between nodes n end) ≡ row nodes n (end - n)
by_number zero nodes n end few h = row_end nodes n end h (omega arith)
by_number (suc most) nodes n end few h =
    by_test (ltb n end) refl
    (λ l. let next = next_element nodes n end h l in let forward = next.inside.forward in let within = next.within in
    row_next nodes n end next (by_number most nodes (n + 1) (end_of nodes n) (omega arith) next.inside.below) (by_number most nodes (end_of nodes n) end (omega arith) next.after))
  where
    by_test : (b : Bool) → ltb n end ≡ b → (n < end → nodes_from_all n (shapes_between nodes n end) ≡ row nodes n (end - n)) → nodes_from_all n (shapes_between nodes n end) ≡ row nodes n (end - n)
    by_test true e step = step (ltb-true n end e)
    by_test false e step = row_end nodes n end h (ltb-false n end e)

pub below_in_row : (nodes : List RawNode) (n end : ℕ) → AreElements nodes n end → nodes_from_all n (shapes_between nodes n end) ≡ row nodes n (end - n)
below_in_row nodes n end h = by_number (end - n) nodes n end (le_refl (end - n)) h

-- ---- a search among them

pub row_first : (nodes : List RawNode) (n end : ℕ) → n < end → row nodes n (end - n) ≡ node_in nodes n ∷ row nodes (n + 1) (end - (n + 1))
row_first nodes n end l = let one : end - n ≡ suc (end - (n + 1)) = omega arith in ap (row nodes n) one

pub row_none : (nodes : List RawNode) (n end : ℕ) → end ≤ n → row nodes n (end - n) ≡ []
row_none nodes n end l = let nothing : end - n ≡ zero = omega arith in ap (row nodes n) nothing

pub search_here : (p : Node → Bool) (nodes : List RawNode) (n end : ℕ) → n < end → p (node_in nodes n) ≡ true → find p (row nodes n (end - n)) ≡ Some (node_in nodes n)
search_here p nodes n end l e = ap (find p) (row_first nodes n end l) ∙ ap (λ (t : Bool). cond t (Some (node_in nodes n)) (find p (row nodes (n + 1) (end - (n + 1))))) e

pub search_later : (p : Node → Bool) (nodes : List RawNode) (n end : ℕ) → n < end → p (node_in nodes n) ≡ false → find p (row nodes (n + 1) (end - (n + 1))) ≡ find p (row nodes n (end - n))
search_later p nodes n end l e = sym (ap (find p) (row_first nodes n end l) ∙ ap (λ (t : Bool). cond t (Some (node_in nodes n)) (find p (row nodes (n + 1) (end - (n + 1))))) e)

pub search_nothing : (p : Node → Bool) (nodes : List RawNode) (n end : ℕ) → end ≤ n → find p (row nodes n (end - n)) ≡ None
search_nothing p nodes n end l = ap (find p) (row_none nodes n end l)

-- ---- how many fields there are

abbrev pub is_field : Node → Bool
is_field x = is_some (kind_of x.facts x.facts.element_type)

abbrev pub field_count : List Node → ℕ
field_count [] = 0
field_count (x ∷ xs) = cond (is_field x) 1 0 + field_count xs

field_count-append : (xs ys : List Node) → field_count (xs ++ ys) ≡ field_count xs + field_count ys
field_count-append [] ys = omega arith
field_count-append (x ∷ xs) ys = let later = field_count-append xs ys in omega arith

one_field : (n : ℕ) (path : List ℕ) (kind : Option FieldKind) → length (field_at n path kind) ≡ cond (is_some kind) 1 0
one_field n path None = refl
one_field n path (Some kind) = refl

mutual
  length-fields_from : (path : List ℕ) (n : ℕ) (s : Shape) → length (fields_from path n s) ≡ field_count (nodes_from n s)
  length-fields_from path n (shape facts below) =
      let one = one_field n path (kind_of facts facts.element_type) in
      let later = length-fields_from_all (counts_children facts.element_type) path 0 (n + 1) below in
      let sum = length-append (field_at n path (kind_of facts facts.element_type)) (fields_from_all (counts_children facts.element_type) path 0 (n + 1) below) in
      sum ∙ ap (λ k. k + length (fields_from_all (counts_children facts.element_type) path 0 (n + 1) below)) one ∙ ap (λ k. cond (is_some (kind_of facts facts.element_type)) 1 0 + k) later

  pub length-fields_from_all : (counted : Bool) (path : List ℕ) (position n : ℕ) (ss : Shapes) → length (fields_from_all counted path position n ss) ≡ field_count (nodes_from_all n ss)
  length-fields_from_all counted path position n no_shapes = refl
  length-fields_from_all counted path position n (shapes s ss) =
      let first = length-fields_from (child_path counted path position s) n s in
      let later = length-fields_from_all counted path (position + 1) (n + node_count s) ss in
      length-append (fields_from (child_path counted path position s) n s) (fields_from_all counted path (position + 1) (n + node_count s) ss)
      ∙ ap (λ k. k + length (fields_from_all counted path (position + 1) (n + node_count s) ss)) first
      ∙ ap (λ k. field_count (nodes_from n s) + k) later
      ∙ sym (field_count-append (nodes_from n s) (nodes_from_all (n + node_count s) ss))

pub count_more : (nodes : List RawNode) (n end : ℕ) → n < end → field_count (row nodes n (end - n)) ≡ cond (is_field (node_in nodes n)) 1 0 + field_count (row nodes (n + 1) (end - (n + 1)))
count_more nodes n end l = ap field_count (row_first nodes n end l)

pub count_nothing : (nodes : List RawNode) (n end : ℕ) → end ≤ n → field_count (row nodes n (end - n)) ≡ 0
count_nothing nodes n end l = ap field_count (row_none nodes n end l)

-- ---- by the type of the node

kind_by_type : (facts : Facts) (t : Option ElementType) → is_some (kind_of facts t) ≡ is_field_type t
kind_by_type facts None = refl
kind_by_type facts (Some element_type.Structure) = refl
kind_by_type facts (Some element_type.Vector) = refl
kind_by_type facts (Some element_type.CompressedVector) = refl
kind_by_type facts (Some element_type.Integer) = refl
kind_by_type facts (Some element_type.ScaledInteger) = refl
kind_by_type facts (Some element_type.Float) = refl
kind_by_type facts (Some element_type.String) = refl
kind_by_type facts (Some element_type.Blob) = refl

pub is_field_by_type : (nodes : List RawNode) (n : ℕ) → is_field (node_in nodes n) ≡ is_field_type (type_in (raw_at nodes n).attrs)
unfolding facts_of
is_field_by_type nodes n = kind_by_type (facts_in (raw_at nodes n)) (type_in (raw_at nodes n).attrs)

pub section_by_type : (nodes : List RawNode) (n : ℕ) → has_section_node (node_in nodes n) ≡ has_section (type_in (raw_at nodes n).attrs)
unfolding facts_of
section_by_type nodes n = refl

pub counted_yes : (nodes : List RawNode) (n end : ℕ) → n < end → is_field (node_in nodes n) ≡ true → field_count (row nodes n (end - n)) ≡ 1 + field_count (row nodes (n + 1) (end - (n + 1)))
counted_yes nodes n end l e = count_more nodes n end l ∙ ap (λ (b : Bool). cond b 1 0 + field_count (row nodes (n + 1) (end - (n + 1)))) e

pub counted_no : (nodes : List RawNode) (n end : ℕ) → n < end → is_field (node_in nodes n) ≡ false → field_count (row nodes n (end - n)) ≡ 0 + field_count (row nodes (n + 1) (end - (n + 1)))
counted_no nodes n end l e = count_more nodes n end l ∙ ap (λ (b : Bool). cond b 1 0 + field_count (row nodes (n + 1) (end - (n + 1)))) e
