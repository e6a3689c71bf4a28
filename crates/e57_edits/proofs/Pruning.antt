-- A tree edited by the changes of one cloud is the tree with this cloud changed.
use Rattle.std.proofs.Common.{◌≡◌, ℕ, zero, suc, ◌+◌, ◌≤◌, ◌<◌, Bool, true, false, cond, ◌&&◌, ◌||◌, List, [], ◌∷◌, ◌++◌, length, take, drop, get_or, refl, sym, ap, subst, ◌∙◌, arith, append_assoc, length-append, zero-add}
use Rattle.std.specs.Prelude.{codes}
use Rattle.std.specs.Str.{bytes_eq}
use Rattle.std.proofs.lemmas.List.{drop-drop, get_or-drop}
use Rattle.std.proofs.Math.Seq.{drop-append_seam}
use Rattle.e57_pieces.specs.declared.piece.Attr.{Attr}
use Rattle.e57_elements.specs.declared.tree.RawNode.{RawNode}
use Rattle.e57_elements.specs.Tree.{element, Elements, none, more, preorder_all}
use Rattle.e57_nodes.specs.Facts.{type_in}
use Rattle.e57_plain.specs.Pruned.{is_field_type, own_field, fields_in, fields_in_all, keeps_some, pruned, pruned_all, with_prototype}
use Rattle.e57_edits.specs.declared.changes.Change.{Change}
use Rattle.e57_edits.specs.declared.changes.Change.TheVariants.{Keep}
use Rattle.e57_edits.specs.Changes.{stays_alone, changed_attrs, first_change, are_some, edited_all, kept, choice_change, choice_changes, prototype_changes}

-- ---- elements that stay as they are

-- the first of these changes change nothing
abbrev pub AreKept : List Change → ℕ → Type 0
AreKept changes n = (k : ℕ) → k < n → get_or changes k Keep ≡ Keep

-- an element by its own change, those below it, and those behind it
pub edited-more : (changes : List Change) (name : List ℕ) (attrs : List Attr) (text : List ℕ) (children es below later : Elements) (change : Change)
    → first_change changes ≡ change → edited_all (drop 1 changes) children ≡ below → edited_all (drop (length (preorder_all children) + 1) changes) es ≡ later
    → edited_all changes (more (element name attrs text children) es) ≡ cond (stays_alone change || are_some below) (more (element name (changed_attrs change attrs) text below) later) later
edited-more changes name attrs text children es below later change first down behind =
    ap (λ (c : Change). cond (stays_alone c || are_some (edited_all (drop 1 changes) children)) (more (element name (changed_attrs c attrs) text (edited_all (drop 1 changes) children)) (edited_all (drop (length (preorder_all children) + 1) changes) es)) (edited_all (drop (length (preorder_all children) + 1) changes) es)) first
    ∙ ap (λ (x : Elements). cond (stays_alone change || are_some x) (more (element name (changed_attrs change attrs) text x) (edited_all (drop (length (preorder_all children) + 1) changes) es)) (edited_all (drop (length (preorder_all children) + 1) changes) es)) down
    ∙ ap (λ (x : Elements). cond (stays_alone change || are_some below) (more (element name (changed_attrs change attrs) text below) x) x) behind

pub kept-later : (changes : List Change) (n k m : ℕ) → k + m ≤ n → AreKept changes n → AreKept (drop k changes) m
kept-later changes n k m few h i low = get_or-drop k changes i Keep ∙ h (k + i) (omega arith)

pub kept-all : (es : Elements) (changes : List Change) → AreKept changes (length (preorder_all es)) → edited_all changes es ≡ es
kept-all none changes h = refl
kept-all (more (element name attrs text children) es) changes h =
    let sum = length-append (preorder_all children) (preorder_all es) in
    edited-more changes name attrs text children es children es Keep (h 0 (omega arith))
    (kept-all children (drop 1 changes) (kept-later changes (length (preorder_all (more (element name attrs text children) es))) 1 (length (preorder_all children)) (omega arith) h))
    (kept-all es (drop (length (preorder_all children) + 1) changes)
    (kept-later changes (length (preorder_all (more (element name attrs text children) es))) (length (preorder_all children) + 1) (length (preorder_all es)) (omega arith) h))

pub kept-front : (n : ℕ) (rest : List Change) → AreKept (kept n ++ rest) n
kept-front zero rest k low = absurd (omega arith)
kept-front (suc n) rest zero low = refl
kept-front (suc n) rest (suc k) low = kept-front n rest k (omega arith)

pub drop-kept : (n : ℕ) (rest : List Change) → drop n (kept n ++ rest) ≡ rest
drop-kept zero rest = refl
drop-kept (suc n) rest = drop-kept n rest

-- ---- below a prototype

pub choices_node : (chosen : List Bool) (node : RawNode) (nodes : List RawNode)
    → choice_changes chosen (node ∷ nodes) ≡ choice_change (is_field_type (type_in node.attrs) && get_or chosen 0 false) ∷ choice_changes (drop (own_field node.attrs) chosen) nodes
unfolding choice_changes
choices_node chosen node nodes = refl

choices_none : (chosen : List Bool) → choice_changes chosen [] ≡ []
unfolding choice_changes
choices_none chosen = refl

pub length-choices : (chosen : List Bool) (nodes : List RawNode) → length (choice_changes chosen nodes) ≡ length nodes
length-choices chosen [] = ap length (choices_none chosen)
length-choices chosen (node ∷ nodes) = ap length (choices_node chosen node nodes) ∙ ap suc (length-choices (drop (own_field node.attrs) chosen) nodes)

choices-append : (chosen : List Bool) (es : Elements) (nodes : List RawNode) → choice_changes chosen (preorder_all es ++ nodes) ≡ choice_changes chosen (preorder_all es) ++ choice_changes (drop (fields_in_all es) chosen) nodes
choices-append chosen none nodes = ap (λ xs. xs ++ choice_changes chosen nodes) (sym (choices_none chosen))
choices-append chosen (more (element name attrs text children) es) nodes =
    let node : RawNode = record { name = name; attrs = attrs; text = text; size = length (preorder_all children) + 1 } in
    let change = choice_change (is_field_type (type_in attrs) && get_or chosen 0 false) in
    let first = drop (own_field attrs) chosen in
    let second = drop (fields_in_all children) first in
    ap (λ ns. choice_changes chosen (node ∷ ns)) (append_assoc (preorder_all children) (preorder_all es) nodes)
    ∙ choices_node chosen node (preorder_all children ++ (preorder_all es ++ nodes))
    ∙ ap (λ xs. change ∷ xs) (choices-append first children (preorder_all es ++ nodes))
    ∙ ap (λ xs. change ∷ (choice_changes first (preorder_all children) ++ xs)) (choices-append second es nodes)
    ∙ ap (λ xs. change ∷ xs) (sym (append_assoc (choice_changes first (preorder_all children)) (choice_changes second (preorder_all es)) (choice_changes (drop (fields_in_all es) second) nodes)))
    ∙ ap (λ xs. change ∷ (xs ++ choice_changes (drop (fields_in_all es) second) nodes)) (sym (choices-append first children (preorder_all es)))
    ∙ ap (λ xs. xs ++ choice_changes (drop (fields_in_all es) second) nodes) (sym (choices_node chosen node (preorder_all children ++ preorder_all es)))
    ∙ ap (λ cs. choice_changes chosen (node ∷ (preorder_all children ++ preorder_all es)) ++ choice_changes cs nodes) dropped
  where
    dropped : drop (fields_in_all es) (drop (fields_in_all children) (drop (own_field attrs) chosen)) ≡ drop (own_field attrs + fields_in_all children + fields_in_all es) chosen
    dropped =
        ap (drop (fields_in_all es)) (drop-drop (fields_in_all children) (own_field attrs) chosen) ∙ drop-drop (fields_in_all es) (own_field attrs + fields_in_all children) chosen

-- one of the first of them, or of those behind
some-parts : (a b : ℕ) (keep : List Bool) → keeps_some (take (a + b) keep) ≡ (keeps_some (take a keep) || keeps_some (take b (drop a keep)))
some-parts zero b keep = let e = zero-add b in ap (λ k. keeps_some (take k keep)) e
some-parts (suc a) b [] = empty (suc a + b) ∙ sym (empty b) where
  empty : (k : ℕ) → keeps_some (take k []) ≡ false
  empty zero = refl
  empty (suc k) = refl
some-parts (suc a) b (x ∷ keep) =
    let e : suc a + b ≡ suc (a + b) = omega arith in
    ap (λ k. keeps_some (take k (x ∷ keep))) e ∙ by_first x (some-parts a b keep)
  where
    by_first : (x : Bool) → keeps_some (take (a + b) keep) ≡ (keeps_some (take a keep) || keeps_some (take b (drop a keep))) → (x || keeps_some (take (a + b) keep)) ≡ ((x || keeps_some (take a keep)) || keeps_some (take b (drop a keep)))
    by_first true h = refl
    by_first false h = h

own-some : (attrs : List Attr) (keep : List Bool) → keeps_some (take (own_field attrs) keep) ≡ (is_field_type (type_in attrs) && get_or keep 0 false)
own-some attrs keep = by_type (is_field_type (type_in attrs)) keep where
  by_type : (b : Bool) (keep : List Bool) → keeps_some (take (cond b 1 0) keep) ≡ (b && get_or keep 0 false)
  by_type false keep = refl
  by_type true [] = refl
  by_type true (true ∷ keep) = refl
  by_type true (false ∷ keep) = refl

-- something is left where a field is kept
pub some-left : (keep : List Bool) (es : Elements) → are_some (pruned_all keep es) ≡ keeps_some (take (fields_in_all es) keep)
some-left keep none = refl
some-left keep (more e es) = by_first (keeps_some (take (fields_in e) keep)) (some-left (drop (fields_in e) keep) es) ∙ sym (some-parts (fields_in e) (fields_in_all es) keep) where
  by_first : (b : Bool) → are_some (pruned_all (drop (fields_in e) keep) es) ≡ keeps_some (take (fields_in_all es) (drop (fields_in e) keep))
      → are_some (cond b (more (pruned keep e) (pruned_all (drop (fields_in e) keep) es)) (pruned_all (drop (fields_in e) keep) es)) ≡ (b || keeps_some (take (fields_in_all es) (drop (fields_in e) keep)))
  by_first true h = refl
  by_first false h = h

choice-attrs : (b : Bool) (attrs : List Attr) → changed_attrs (choice_change b) attrs ≡ attrs
choice-attrs true attrs = refl
choice-attrs false attrs = refl

choice-stays : (b : Bool) → stays_alone (choice_change b) ≡ b
choice-stays true = refl
choice-stays false = refl

pub edited-choices : (chosen : List Bool) (es : Elements) (changes rest : List Change) → changes ≡ choice_changes chosen (preorder_all es) ++ rest → edited_all changes es ≡ pruned_all chosen es
edited-choices chosen none changes rest h = refl
edited-choices chosen (more (element name attrs text children) es) changes rest h =
    let b = is_field_type (type_in attrs) && get_or chosen 0 false in
    let first = drop (own_field attrs) chosen in
    let second = drop (fields_in_all children) first in
    let node : RawNode = record { name = name; attrs = attrs; text = text; size = length (preorder_all children) + 1 } in
    let whole : changes ≡ choice_change b ∷ (choice_changes first (preorder_all children) ++ (choice_changes second (preorder_all es) ++ rest)) =
    h ∙ ap (λ xs. xs ++ rest) (choices_node chosen node (preorder_all children ++ preorder_all es))
    ∙ ap (λ xs. choice_change b ∷ (xs ++ rest)) (choices-append first children (preorder_all es))
    ∙ ap (λ xs. choice_change b ∷ xs) (append_assoc (choice_changes first (preorder_all children)) (choice_changes second (preorder_all es)) rest) in
    let behind : drop (length (preorder_all children) + 1) changes ≡ choice_changes second (preorder_all es) ++ rest =
    (let e : length (preorder_all children) + 1 ≡ 1 + length (choice_changes first (preorder_all children)) = (let n = length-choices first (preorder_all children) in omega arith) in ap (λ k. drop k changes) e)
    ∙ sym (drop-more (length (choice_changes first (preorder_all children))) changes) ∙ ap (λ cs. drop (length (choice_changes first (preorder_all children))) (drop 1 cs)) whole
    ∙ drop-append_seam (choice_changes first (preorder_all children)) (choice_changes second (preorder_all es) ++ rest) in
    let fields : drop (fields_in (element name attrs text children)) chosen ≡ second = sym (drop-drop (fields_in_all children) (own_field attrs) chosen) in
    edited-more changes name attrs text children es (pruned_all first children) (pruned_all second es) (choice_change b) (ap first_change whole)
    (edited-choices first children (drop 1 changes) (choice_changes second (preorder_all es) ++ rest) (ap (drop 1) whole))
    (edited-choices second es (drop (length (preorder_all children) + 1) changes) rest behind)
    ∙ ap (λ (ys : List Attr). cond (stays_alone (choice_change b) || are_some (pruned_all first children)) (more (element name ys text (pruned_all first children)) (pruned_all second es)) (pruned_all second es)) (choice-attrs b attrs)
    ∙ ap (λ (c : Bool). cond c (more (element name attrs text (pruned_all first children)) (pruned_all second es)) (pruned_all second es))
    (ap (λ c. c || are_some (pruned_all first children)) (choice-stays b ∙ sym (own-some attrs chosen)) ∙ ap (λ c. keeps_some (take (own_field attrs) chosen) || c) (some-left first children)
    ∙ sym (some-parts (own_field attrs) (fields_in_all children) chosen))
    ∙ ap (λ cs. cond (keeps_some (take (fields_in (element name attrs text children)) chosen)) (more (element name attrs text (pruned_all first children)) (pruned_all cs es)) (pruned_all cs es)) (sym fields)
  where
    drop-more : (k : ℕ) (cs : List Change) → drop k (drop 1 cs) ≡ drop (1 + k) cs
    drop-more k cs = drop-drop k 1 cs

-- ---- the children of a cloud

pub edited-prototype : (chosen : List Bool) (es : Elements) (changes rest : List Change) → changes ≡ prototype_changes chosen es ++ rest → edited_all changes es ≡ with_prototype chosen es
edited-prototype chosen none changes rest h = refl
edited-prototype chosen (more (element name attrs text children) es) changes rest h =
    by_test (edited-prototype chosen es (drop (length (preorder_all children) + 1) changes) rest) (bytes_eq name (codes "prototype")) h
  where
    n : ℕ
    n = length (preorder_all children)

    far : n + 1 ≡ 1 + n
    far = omega arith

    by_test : (drop (n + 1) changes ≡ prototype_changes chosen es ++ rest → edited_all (drop (n + 1) changes) es ≡ with_prototype chosen es)
        → (b : Bool) → changes ≡ cond b (Keep ∷ (choice_changes chosen (preorder_all children) ++ kept (length (preorder_all es)))) (kept (n + 1) ++ prototype_changes chosen es) ++ rest
        → edited_all changes (more (element name attrs text children) es) ≡ cond b (more (element name attrs text (pruned_all chosen children)) es) (more (element name attrs text children) (with_prototype chosen es))
    by_test later true h =
        let whole : changes ≡ Keep ∷ (choice_changes chosen (preorder_all children) ++ (kept (length (preorder_all es)) ++ rest)) =
        h ∙ ap (λ xs. Keep ∷ xs) (append_assoc (choice_changes chosen (preorder_all children)) (kept (length (preorder_all es))) rest) in
        let behind : drop (n + 1) changes ≡ kept (length (preorder_all es)) ++ rest =
        ap (λ k. drop k changes) far ∙ sym (drop-drop n 1 changes) ∙ ap (λ cs. drop n (drop 1 cs)) whole
        ∙ ap (λ k. drop k (choice_changes chosen (preorder_all children) ++ (kept (length (preorder_all es)) ++ rest))) (sym (length-choices chosen (preorder_all children)))
        ∙ drop-append_seam (choice_changes chosen (preorder_all children)) (kept (length (preorder_all es)) ++ rest) in
        edited-more changes name attrs text children es (pruned_all chosen children) es Keep (ap first_change whole)
        (edited-choices chosen children (drop 1 changes) (kept (length (preorder_all es)) ++ rest) (ap (drop 1) whole))
        (kept-all es (drop (n + 1) changes) (subst (λ (cs : List Change). AreKept cs (length (preorder_all es))) (sym behind) (kept-front (length (preorder_all es)) rest)))
    by_test later false h =
        let whole : changes ≡ kept (n + 1) ++ (prototype_changes chosen es ++ rest) = h ∙ append_assoc (kept (n + 1)) (prototype_changes chosen es) rest in
        let same : AreKept changes (n + 1) = subst (λ (cs : List Change). AreKept cs (n + 1)) (sym whole) (kept-front (n + 1) (prototype_changes chosen es ++ rest)) in
        edited-more changes name attrs text children es children (with_prototype chosen es) Keep (same 0 (omega arith))
        (kept-all children (drop 1 changes) (kept-later changes (n + 1) 1 n (omega arith) same))
        (later (ap (drop (n + 1)) whole ∙ drop-kept (n + 1) (prototype_changes chosen es ++ rest)))
