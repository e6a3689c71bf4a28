-- A tree edited by limits is the tree with these limits.
use Rattle.std.proofs.Common.{◌≡◌, ℕ, zero, suc, ◌+◌, ℤ, Bool, true, cond, ◌||◌, List, [], ◌∷◌, length, map, drop, get_or, Option, Some, None, Result, Ok, Err, refl, ap, subst, ◌∙◌, arith}
use Rattle.std.specs.Result.{IfOk}
use Rattle.std.proofs.lemmas.List.{drop-drop}
use Rattle.e57_pieces.specs.declared.piece.Attr.{Attr}
use Rattle.e57_elements.specs.declared.tree.RawNode.{RawNode}
use Rattle.e57_elements.specs.Tree.{Element, element, Elements, none, more, preorder, preorder_all}
use Rattle.e57_elements.specs.Lawful.{AreNodes}
use Rattle.e57_nodes.specs.Shape.{shape_of, node_count}
use Rattle.e57_nodes.specs.Typed.{typed_fault}
use Rattle.e57_nodes.specs.Limits.{limited, with_limits, with_limits_all}
use Rattle.e57_plain.proofs.Laws.Limits.{IsRange, AreRanges, with_limits-shape}
use Rattle.e57_plain.proofs.Laws.LimitedTrees.{IsLawful-with_limits}
use Rattle.e57_plain.proofs.Laws.Narrowed.{limited-typed_fault}
use Rattle.e57_tree.proofs.Laws.Flat.{node_count_all-shapes_of}
use Rattle.e57_edits.specs.declared.limits.Range.{Range}
use Rattle.e57_edits.specs.declared.changes.Change.{Change}
use Rattle.e57_edits.specs.declared.changes.Change.TheVariants.{Keep}
use Rattle.e57_edits.specs.Ranges.{limits_of, range_at, IsOrdered, AreOrdered, IsSigned, AreSigned}
use Rattle.e57_edits.specs.Changes.{stays_alone, changed_attrs, first_change, are_some, edited_all, IsSoundEdit, limit_change}
use Rattle.e57_edits.specs.Nodes.{edited_nodes}
use Rattle.e57_edits.proofs.Counted.{change_at}
use Rattle.e57_edits.proofs.Edited.{edited-tree}

limit_at : (ranges : List (Option Range)) (n : ℕ) → get_or (map limit_change ranges) n Keep ≡ limit_change (get_or ranges n None)
limit_at [] n = refl
limit_at (r ∷ rs) zero = refl
limit_at (r ∷ rs) (suc n) = limit_at rs n

limit_attrs : (range : Option Range) (attrs : List Attr) → changed_attrs (limit_change range) attrs ≡ limited (limits_of range) attrs
limit_attrs None attrs = refl
limit_attrs (Some range) attrs = refl

limit_stays : (range : Option Range) → stays_alone (limit_change range) ≡ true
limit_stays None = refl
limit_stays (Some range) = refl

pub edited-limits : (ranges : List (Option Range)) (n : ℕ) (es : Elements) → edited_all (drop n (map limit_change ranges)) es ≡ with_limits_all (range_at ranges) n es
edited-limits ranges n none = refl
edited-limits ranges n (more (element name attrs text children) es) =
    let changes = map limit_change ranges in
    let first : first_change (drop n changes) ≡ limit_change (get_or ranges n None) = change_at changes n ∙ limit_at ranges n in
    let below = edited_all (drop 1 (drop n changes)) children in
    let count = node_count_all-shapes_of children in
    let far : n + (length (preorder_all children) + 1) ≡ n + node_count (shape_of (element name attrs text children)) = omega arith in
    ap (λ (c : Change). cond (stays_alone c || are_some below) (more (element name (changed_attrs c attrs) text below) (edited_all (drop (length (preorder_all children) + 1) (drop n changes)) es)) (edited_all (drop (length (preorder_all children) + 1) (drop n changes)) es)) first
    ∙ ap (λ (b : Bool). cond (b || are_some below) (more (element name (changed_attrs (limit_change (get_or ranges n None)) attrs) text below) (edited_all (drop (length (preorder_all children) + 1) (drop n changes)) es)) (edited_all (drop (length (preorder_all children) + 1) (drop n changes)) es)) (limit_stays (get_or ranges n None))
    ∙ ap (λ (ys : List Attr). more (element name ys text below) (edited_all (drop (length (preorder_all children) + 1) (drop n changes)) es)) (limit_attrs (get_or ranges n None) attrs)
    ∙ ap (λ cs. more (element name (limited (range_at ranges n) attrs) text (edited_all cs children)) (edited_all (drop (length (preorder_all children) + 1) (drop n changes)) es)) (drop-drop 1 n changes)
    ∙ ap (λ (xs : Elements). more (element name (limited (range_at ranges n) attrs) text xs) (edited_all (drop (length (preorder_all children) + 1) (drop n changes)) es)) (edited-limits ranges (n + 1) children)
    ∙ ap (λ cs. more (element name (limited (range_at ranges n) attrs) text (with_limits_all (range_at ranges) (n + 1) children)) (edited_all cs es)) (drop-drop (length (preorder_all children) + 1) n changes ∙ ap (λ k. drop k changes) far)
    ∙ ap (λ (xs : Elements). more (element name (limited (range_at ranges n) attrs) text (with_limits_all (range_at ranges) (n + 1) children)) xs) (edited-limits ranges (n + node_count (shape_of (element name attrs text children))) es)

-- of a tree
pub edited-limits_tree : (ranges : List (Option Range)) (e : Element) → edited_all (map limit_change ranges) (more e none) ≡ more (with_limits (range_at ranges) 0 e) none
edited-limits_tree ranges e = edited-limits ranges 0 (more e none)

pub limits_sound : (ranges : List (Option Range)) (nodes : List RawNode) → AreNodes nodes → ((e : Element) → nodes ≡ preorder e → typed_fault (shape_of e) ≡ None) → AreRanges (range_at ranges) → IsSoundEdit (map limit_change ranges) nodes
limits_sound ranges nodes h typed ok = record {
  before = h.tree;
  after = with_limits (range_at ranges) 0 h.tree;
  nodes_are = h.in_preorder;
  edited = edited-limits_tree ranges h.tree;
  is_lawful = IsLawful-with_limits (range_at ranges) h.tree ok h.is_lawful;
  typed = limited-typed_fault (range_at ranges) (shape_of h.tree) (shape_of (with_limits (range_at ranges) 0 h.tree)) ok (with_limits-shape (range_at ranges) 0 h.tree) (typed h.tree h.in_preorder);
}

-- the entries are limits
pub entries_are : (ranges : List (Option Range)) → AreOrdered ranges → AreSigned ranges → AreRanges (range_at ranges)
entries_are ranges ordered signed n range found = by_entry (get_or ranges n None) found (ordered n) (signed n) where
  by_entry : (entry : Option Range) → limits_of entry ≡ Some range → IsOrdered entry → IsSigned entry → IsRange range
  by_entry None found order fits = absurd (cc)
  by_entry (Some limits) found order fits =
      let same : (limits.low, limits.high) ≡ range = cc in
      subst (λ (r : ℤ × ℤ). IsRange r) same (record { order = order; low = fits.0; high = fits.1 })

-- ---- what the call gives

pub gives : {F : Type 0} (changes : List Change) (nodes : List RawNode) (e x : Element) (result : Result (List RawNode) F) → nodes ≡ preorder e → edited_all changes (more e none) ≡ more x none
    → IfOk result (λ new. new ≡ edited_nodes changes nodes) → IfOk result (λ new. new ≡ preorder x)
gives changes nodes e x (Ok new) same edited h = h ∙ ap (edited_nodes changes) same ∙ edited-tree changes e x edited
gives changes nodes e x (Err error) same edited h = tt
