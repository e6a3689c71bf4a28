-- The children of a node, judged one after another.
use Rattle.std.proofs.Common.{◌≡◌, ℕ, ◌+◌, ◌<◌, ◌≤◌, Bool, true, false, cond, List, [], ◌∷◌, ◌++◌, Option, Some, None, Err, option_map, refl, sym, ap, subst, ◌∙◌, arith}
use Rattle.std.specs.Prelude.{find}
use Rattle.std.specs.Option.{option_or}
use Rattle.std.specs.Str.{bytes_eq}
use Rattle.e57_base.specs.declared.fault.Fault.{Fault}
use Rattle.e57_base.specs.declared.fault.TextFault.{TextFault}
use Rattle.e57_base.specs.declared.fault.TextFault.TheVariants.{Refused, Memory}
use Rattle.e57_elements.specs.declared.tree.RawNode.{RawNode}
use Rattle.e57_nodes.specs.declared.ElementType.{ElementType}
use Rattle.e57_nodes.specs.Facts.{type_in}
use Rattle.e57_nodes.specs.Shape.{Node}
use Rattle.e57_nodes.specs.Fields.{child_named}
use Rattle.e57_nodes.specs.Typed.{names_differ, namesake_of, tree_fault, trees_fault}
use Rattle.e57_tree.specs.declared.names.Names.{Names}
use Rattle.e57_tree.specs.Names.{number_of}
use Rattle.e57_tree.specs.Judged.{IsJudged, namesake_in, NotesChild}
use Rattle.e57_tree.specs.Flat.{raw_at, facts_in, shapes_between, end_of, node_in, shape_in, AreElements}
use Rattle.e57_tree.proofs.Laws.Flat.{next_element, shapes_between-end}
use Rattle.e57_tree.proofs.Children.{name_in, type_read}

-- the names are those of these children, where names differ
abbrev pub AreNamed : Bool → List Node → Names → Type 0
AreNamed false earlier names = Unit {0}
AreNamed true earlier names = (q : List ℕ) → number_of names q ≡ option_map (λ (x : Node). x.number) (child_named q earlier)

-- The children so far have no fault: what is left has the fault of all, after these.
pub record GoesOn (differ : Bool) (nodes : List RawNode) (n child end : ℕ) (names : Names) : Type 0 where
  pub elements : AreElements nodes child end
  pub earlier : List Node
  pub same : trees_fault differ earlier child (shapes_between nodes child end) ≡ trees_fault differ [] (n + 1) (shapes_between nodes (n + 1) end)
  pub are_named : AreNamed differ earlier names

no_names : (differ : Bool) (names : Names) → ((q : List ℕ) → number_of names q ≡ None) → AreNamed differ [] names
unfolding child_named
no_names false names h = tt
no_names true names h = h

pub begins : (differ : Bool) (nodes : List RawNode) (n end : ℕ) (names : Names) → AreElements nodes (n + 1) end → ((q : List ℕ) → number_of names q ≡ None) → GoesOn differ nodes n (n + 1) end names
begins differ nodes n end names h none = record { elements = h; earlier = []; same = refl; are_named = no_names differ names none }

-- ---- one child more

named-append : (q : List ℕ) (xs : List Node) (x : Node) → child_named q (xs ++ x ∷ []) ≡ option_or (child_named q xs) (cond (bytes_eq x.facts.name q) (Some x) None)
unfolding child_named
named-append q [] x = refl
named-append q (y ∷ ys) x = by_test (named-append q ys x) (bytes_eq y.facts.name q) where
  by_test : find (λ (z : Node). bytes_eq z.facts.name q) (ys ++ x ∷ []) ≡ option_or (find (λ (z : Node). bytes_eq z.facts.name q) ys) (cond (bytes_eq x.facts.name q) (Some x) None) → (b : Bool)
      → cond b (Some y) (find (λ (z : Node). bytes_eq z.facts.name q) (ys ++ x ∷ []))
      ≡ option_or (cond b (Some y) (find (λ (z : Node). bytes_eq z.facts.name q) ys)) (cond (bytes_eq x.facts.name q) (Some x) None)
  by_test later true = refl
  by_test later false = later

map_or : (a : Option Node) (b : Bool) (x : Node) → option_map (λ (y : Node). y.number) (option_or a (cond b (Some x) None)) ≡ option_or (option_map (λ (y : Node). y.number) a) (cond b (Some x.number) None)
map_or None true x = refl
map_or None false x = refl
map_or (Some y) b x = refl

namesake_same : (differ : Bool) (earlier : List Node) (names : Names) (name : List ℕ) → AreNamed differ earlier names → namesake_in names differ name ≡ namesake_of differ earlier name
namesake_same false earlier names name h = refl
namesake_same true earlier names name h = h name

more_names : (differ : Bool) (earlier : List Node) (old new : Names) (name : List ℕ) (x : Node) → x.facts.name ≡ name → AreNamed differ earlier old → NotesChild old new differ name x.number → AreNamed differ (earlier ++ x ∷ []) new
more_names false earlier old new name x e h notes = tt
more_names true earlier old new name x e h notes = λ q.
    notes q ∙ ap (λ o. option_or o (cond (bytes_eq name q) (Some x.number) None)) (h q)
    ∙ sym (map_or (child_named q earlier) (bytes_eq name q) x)
    ∙ ap (λ w. option_map (λ (y : Node). y.number) (option_or (child_named q earlier) (cond (bytes_eq w q) (Some x) None))) (sym e)
    ∙ ap (option_map (λ (y : Node). y.number)) (sym (named-append q earlier x))

-- the fault of what is left: that of the next child, or of those behind it
left_fault : (differ : Bool) (nodes : List RawNode) (child end : ℕ) (earlier : List Node) → AreElements nodes child end → child < end
    → trees_fault differ earlier child (shapes_between nodes child end)
    ≡ option_or (tree_fault (namesake_of differ earlier (facts_in (raw_at nodes child)).name) child (shape_in nodes child))
    (trees_fault differ (earlier ++ node_in nodes child ∷ []) (end_of nodes child) (shapes_between nodes (end_of nodes child) end))
left_fault differ nodes child end earlier h l =
    let next = next_element nodes child end h l in
    ap (trees_fault differ earlier child) next.shapes_are
    ∙ ap (λ k. option_or (tree_fault (namesake_of differ earlier (facts_in (raw_at nodes child)).name) child (shape_in nodes child))
    (trees_fault differ (earlier ++ node_in nodes child ∷ []) (child + k) (shapes_between nodes (end_of nodes child) end))) next.inside.count

namesake_read : (differ : Bool) (nodes : List RawNode) (child : ℕ) (earlier : List Node) (names : Names) (name : List ℕ) (found : Option ℕ)
    → AreNamed differ earlier names → name ≡ (raw_at nodes child).name → found ≡ namesake_in names differ name → found ≡ namesake_of differ earlier (facts_in (raw_at nodes child)).name
namesake_read differ nodes child earlier names name found h e f =
    f ∙ namesake_same differ earlier names name h ∙ ap (namesake_of differ earlier) (e ∙ sym (name_in (raw_at nodes child)))

pub goes_on : (differ : Bool) (nodes : List RawNode) (n child end next : ℕ) (old new : Names) (name : List ℕ) (found : Option ℕ) → GoesOn differ nodes n child end old → child < end
    → next ≡ end_of nodes child → name ≡ (raw_at nodes child).name → found ≡ namesake_in old differ name → NotesChild old new differ name child
    → tree_fault found child (shape_in nodes child) ≡ None → GoesOn differ nodes n next end new
goes_on differ nodes n child end next old new name found h l e named f notes free =
    let same_namesake = namesake_read differ nodes child h.earlier old name found h.are_named named f in
    let left = left_fault differ nodes child end h.earlier h.elements l in
    let rest = trees_fault differ (h.earlier ++ node_in nodes child ∷ []) (end_of nodes child) (shapes_between nodes (end_of nodes child) end) in
    record {
      elements = subst (λ (k : ℕ). AreElements nodes k end) (sym e) (next_element nodes child end h.elements l).after;
      earlier = h.earlier ++ node_in nodes child ∷ [];
      same =
          ap (λ k. trees_fault differ (h.earlier ++ node_in nodes child ∷ []) k (shapes_between nodes k end)) e
          ∙ sym (left ∙ ap (λ o. option_or o rest) (ap (λ m. tree_fault m child (shape_in nodes child)) (sym same_namesake) ∙ free))
          ∙ h.same;
      are_named = more_names differ h.earlier old new name (node_in nodes child) (name_in (raw_at nodes child) ∙ sym named) h.are_named notes;
    }

-- a child's fault is that of all
pub stops : (differ : Bool) (nodes : List RawNode) (n child end : ℕ) (old : Names) (name : List ℕ) (found : Option ℕ) (fault : Fault) → GoesOn differ nodes n child end old → child < end
    → name ≡ (raw_at nodes child).name → found ≡ namesake_in old differ name → tree_fault found child (shape_in nodes child) ≡ Some fault
    → trees_fault differ [] (n + 1) (shapes_between nodes (n + 1) end) ≡ Some fault
stops differ nodes n child end old name found fault h l named f e =
    let same_namesake = namesake_read differ nodes child h.earlier old name found h.are_named named f in
    let left = left_fault differ nodes child end h.earlier h.elements l in
    let rest = trees_fault differ (h.earlier ++ node_in nodes child ∷ []) (end_of nodes child) (shapes_between nodes (end_of nodes child) end) in
    sym h.same ∙ left ∙ ap (λ o. option_or o rest) (ap (λ m. tree_fault m child (shape_in nodes child)) (sym same_namesake) ∙ e)

-- behind the last there is none
pub ends : (differ : Bool) (nodes : List RawNode) (n child end : ℕ) (names : Names) → GoesOn differ nodes n child end names → end ≤ child → trees_fault differ [] (n + 1) (shapes_between nodes (n + 1) end) ≡ None
ends differ nodes n child end names h l =
    let last = h.elements.ends in
    let at : child ≡ end = omega arith in
    sym h.same ∙ ap (λ k. trees_fault differ h.earlier k (shapes_between nodes k end)) at ∙ ap (trees_fault differ h.earlier end) (shapes_between-end nodes end)

-- ---- the answer

pub carried : (T U : Type 0) (e : TextFault) (a b : Option Fault) → ((f : Fault) → a ≡ Some f → b ≡ Some f) → IsJudged {T = T} (Err e) a → IsJudged {T = U} (Err e) b
carried T U (Refused f) a b same h = same f h
carried T U Memory a b same h = tt

-- a node without a fault, and those below it
pub own_none : (a b : Option Fault) (f : Option Fault) → a ≡ None → b ≡ f → option_or a b ≡ f
own_none a b f e g = ap (λ o. option_or o b) e ∙ g

pub differ_in : (nodes : List RawNode) (n : ℕ) (t : Option ElementType) (differ : Bool) → differ ≡ names_differ t → t ≡ type_in (raw_at nodes n).attrs → differ ≡ names_differ (facts_in (raw_at nodes n)).element_type
differ_in nodes n t differ e f = e ∙ ap names_differ (f ∙ sym (type_read (raw_at nodes n)))

-- the fault of those below it, with the code's own values
pub below_is : (nodes : List RawNode) (n end : ℕ) (differ : Bool) (f : Option Fault) → differ ≡ names_differ (facts_in (raw_at nodes n)).element_type → end ≡ end_of nodes n
    → trees_fault differ [] (n + 1) (shapes_between nodes (n + 1) end) ≡ f
    → trees_fault (names_differ (facts_in (raw_at nodes n)).element_type) [] (n + 1) (shapes_between nodes (n + 1) (end_of nodes n)) ≡ f
below_is nodes n end differ f e g h =
    ap (λ d. trees_fault d [] (n + 1) (shapes_between nodes (n + 1) (end_of nodes n))) (sym e) ∙ ap (λ k. trees_fault differ [] (n + 1) (shapes_between nodes (n + 1) k)) (sym g) ∙ h
