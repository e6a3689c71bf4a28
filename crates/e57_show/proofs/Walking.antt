-- The walk over the nodes of a tree in preorder, and the path of each.
use Rattle.std.proofs.Common.{◌≡◌, ℕ, ◌+◌, ◌<◌, ◌≤◌, Bool, true, false, cond, List, [], ◌∷◌, ◌++◌, length, take, drop, reverse, slice_get, Some, refl, sym, ap, subst, ◌∙◌, arith, append_assoc, length-append}
use Rattle.std.specs.Prelude.{unwrap_or}
use Rattle.std.specs.Fmt.{decimal}
use Rattle.std.proofs.lemmas.List.{append-nil, take-take, length-take-le, reverse-append}
use Rattle.std.proofs.Math.Seq.{take-append_seam, take-length}
use Rattle.std.proofs.Math.Nat.{le_refl}
use Rattle.e57_base.proofs.Lists.{stands_at}
use Rattle.e57_elements.specs.declared.tree.RawNode.{RawNode}
use Rattle.e57_elements.specs.Tree.{Element, preorder}
use Rattle.e57_elements.specs.Lawful.{AreNodes}
use Rattle.e57_nodes.specs.Facts.{facts_of, type_in}
use Rattle.e57_nodes.specs.Shape.{shape_of, node_count}
use Rattle.e57_nodes.specs.Paths.{counts_children, child_path, paths_from, paths_from_all, path_of}
use Rattle.e57_tree.specs.Flat.{raw_at, facts_in, shapes_between, end_of, shape_in, AreElements}
use Rattle.e57_tree.specs.Paths.{named_path}
use Rattle.e57_tree.proofs.Laws.Flat.{next_element, node_inside, node_count-shape_of, shape_in-root, shapes_between-end}
use Rattle.e57_show.specs.declared.trail.Mark.{Mark}
use Rattle.e57_show.specs.declared.trail.Trail.{Trail}
use Rattle.e57_show.specs.Trail.{first_mark, next_mark, paths_below, paths_left, AreOpen, path_at, IsTrail, IsParent}

-- ---- elements that end

wider : (nodes : List RawNode) (len longest : ℕ) (marks : List Mark) (n : ℕ) → len ≤ longest → AreOpen nodes len marks n → AreOpen nodes longest marks n
wider nodes len longest [] n l h = h
wider nodes len longest (mark ∷ outer) n l h = let own = h.0 in (omega arith, h.1, h.2, h.3)

ended_at : (nodes : List RawNode) (mark : Mark) (n : ℕ) → AreElements nodes n mark.end → mark.end ≤ n → mark.end ≡ n
ended_at nodes mark n h l = let ends = h.ends in omega arith

-- the innermost element ends at n
ended_open : (nodes : List RawNode) (longest : ℕ) (mark : Mark) (outer : List Mark) (n : ℕ) → AreOpen nodes longest (mark ∷ outer) n → mark.end ≤ n → AreOpen nodes longest outer n
ended_open nodes longest mark outer n h l =
    subst (λ (k : ℕ). AreOpen nodes longest outer k) (ended_at nodes mark n h.2 l) (wider nodes mark.own longest outer mark.end h.0 h.3)

ended_left : (nodes : List RawNode) (text : List ℕ) (longest : ℕ) (mark : Mark) (outer : List Mark) (n : ℕ) → AreOpen nodes longest (mark ∷ outer) n → mark.end ≤ n
    → paths_left nodes text (mark ∷ outer) n ≡ paths_left nodes text outer n
ended_left nodes text longest mark outer n h l =
    let same = ended_at nodes mark n h.2 l in
    ap (λ k. paths_from_all mark.counted (take mark.own text) mark.position (shapes_between nodes n k) ++ paths_left nodes text outer k) same
    ∙ ap (λ ss. paths_from_all mark.counted (take mark.own text) mark.position ss ++ paths_left nodes text outer n) (shapes_between-end nodes n)

last_first : (xs : List Mark) (x : Mark) → reverse (xs ++ x ∷ []) ≡ x ∷ reverse xs
last_first xs x = reverse-append xs (x ∷ [])

pub two_more : (marks one two : List Mark) (a b : Mark) → one ≡ marks ++ a ∷ [] → two ≡ one ++ b ∷ [] → reverse two ≡ b ∷ a ∷ reverse marks
two_more marks one two a b e f = ap reverse f ∙ last_first one b ∙ ap (λ xs. b ∷ xs) (ap reverse e ∙ last_first marks a)

-- Some of the elements that are open at n may have ended there; these are left.
pub record StillOpen (nodes : List RawNode) (text : List ℕ) (longest : ℕ) (all marks : List Mark) (n : ℕ) : Type 0 where
  pub are_open : AreOpen nodes longest marks n
  pub left : paths_left nodes text all n ≡ paths_left nodes text marks n

last_open : (nodes : List RawNode) (text : List ℕ) (longest : ℕ) (all marks rest : List Mark) (mark : Mark) (n : ℕ) → StillOpen nodes text longest all (reverse marks) n
    → marks ≡ rest ++ mark ∷ [] → StillOpen nodes text longest all (mark ∷ reverse rest) n
last_open nodes text longest all marks rest mark n h e = subst (λ (ms : List Mark). StillOpen nodes text longest all ms n) (ap reverse e ∙ last_first rest mark) h

pub one_ended : (nodes : List RawNode) (text : List ℕ) (longest : ℕ) (all marks rest : List Mark) (mark : Mark) (n : ℕ) → StillOpen nodes text longest all (reverse marks) n
    → marks ≡ rest ++ mark ∷ [] → mark.end ≤ n → StillOpen nodes text longest all (reverse rest) n
one_ended nodes text longest all marks rest mark n h e l =
    let now = last_open nodes text longest all marks rest mark n h e in
    record {
      are_open = ended_open nodes longest mark (reverse rest) n now.are_open l;
      left = now.left ∙ ended_left nodes text longest mark (reverse rest) n now.are_open l;
    }

pub one_open : (nodes : List RawNode) (text : List ℕ) (longest : ℕ) (all marks rest : List Mark) (mark : Mark) (n : ℕ) → StillOpen nodes text longest all (reverse marks) n
    → marks ≡ rest ++ mark ∷ [] → n < mark.end → IsParent nodes text longest all n (Some mark) (reverse rest)
one_open nodes text longest all marks rest mark n h e l =
    let now = last_open nodes text longest all marks rest mark n h e in
    (l, now.are_open, now.left)

pub none_open : (nodes : List RawNode) (text : List ℕ) (longest : ℕ) (all marks : List Mark) (n : ℕ) → StillOpen nodes text longest all (reverse marks) n → length marks ≡ 0 → length nodes ≤ n
none_open nodes text longest all [] n h e = h.are_open
none_open nodes text longest all (mark ∷ marks) n h e = absurd (omega arith)

-- ---- one front of the text alone counts

same_left : (nodes : List RawNode) (text other : List ℕ) (longest : ℕ) (marks : List Mark) (n : ℕ) → AreOpen nodes longest marks n → take longest text ≡ take longest other
    → paths_left nodes text marks n ≡ paths_left nodes other marks n
same_left nodes text other longest [] n h e = refl
same_left nodes text other longest (mark ∷ outer) n h e =
    let own : take mark.own text ≡ take mark.own other = sym (take-take mark.own longest text h.0) ∙ ap (take mark.own) e ∙ take-take mark.own longest other h.0 in
    ap (λ p. paths_from_all mark.counted p mark.position (shapes_between nodes n mark.end) ++ paths_left nodes text outer mark.end) own
    ∙ ap (λ ps. paths_below nodes other mark n ++ ps) (same_left nodes text other mark.own outer mark.end h.3 own)

-- ---- the next node

name_in : (node : RawNode) → (facts_in node).name ≡ node.name
unfolding facts_of
name_in node = refl

type_read : (node : RawNode) → (facts_in node).element_type ≡ type_in node.attrs
unfolding facts_of
type_read node = refl

child_is : (counted : Bool) (own : List ℕ) (position : ℕ) (nodes : List RawNode) (n : ℕ) → child_path counted own position (shape_in nodes n) ≡ named_path counted own position (raw_at nodes n).name
child_is true own position nodes n = refl
child_is false own position nodes n = ap (λ name. own ++ (47 ∷ name)) (name_in (raw_at nodes n))

-- the text behind the path of the parent
abbrev text_after : List RawNode → List ℕ → Mark → ℕ → List ℕ
text_after nodes text mark n = named_path mark.counted (take mark.own text) mark.position (raw_at nodes n).name

-- the marks after the node
abbrev marks_after : List RawNode → List ℕ → Mark → List Mark → ℕ → List Mark
marks_after nodes text mark outer n = first_mark nodes n (length text) ∷ next_mark mark ∷ outer

front_kept : (own text piece : List ℕ) (k : ℕ) → k ≤ length text → own ≡ take k text → take k (own ++ piece) ≡ take k text
front_kept own text piece k l e =
    let long : k ≡ length own = sym (length-take-le k text l) ∙ ap length (sym e) in
    ap (λ j. take j (own ++ piece)) long ∙ take-append_seam own piece ∙ e

-- the first of the paths that are left is the node's, and the others are left after it
left_after : (nodes : List RawNode) (text : List ℕ) (mark : Mark) (outer : List Mark) (n : ℕ) → AreOpen nodes (length text) (mark ∷ outer) n → n < mark.end
    → paths_left nodes text (mark ∷ outer) n
    ≡ text_after nodes text mark n ∷ paths_left nodes (text_after nodes text mark n) (marks_after nodes (text_after nodes text mark n) mark outer n) (n + 1)
left_after nodes text mark outer n h l =
    let next = next_element nodes n mark.end h.2 l in
    let own : List ℕ = take mark.own text in
    let new : List ℕ = text_after nodes text mark n in
    let counted : Bool = counts_children (facts_in (raw_at nodes n)).element_type in
    let inner = shapes_between nodes (n + 1) (end_of nodes n) in
    let later = shapes_between nodes (end_of nodes n) mark.end in
    let front : take mark.own new ≡ own = front_kept own text (47 ∷ (cond mark.counted (decimal mark.position) (raw_at nodes n).name)) mark.own h.0 refl in
    let first : paths_from_all mark.counted own mark.position (shapes_between nodes n mark.end) ≡ new ∷ (paths_from_all counted new 0 inner ++ paths_from_all mark.counted own (mark.position + 1) later) =
    ap (paths_from_all mark.counted own mark.position) next.shapes_are
    ∙ ap (λ p. paths_from p (shape_in nodes n) ++ paths_from_all mark.counted own (mark.position + 1) later) (child_is mark.counted own mark.position nodes n) in
    let below : paths_from_all counted new 0 inner ≡ paths_below nodes new (first_mark nodes n (length new)) (n + 1) =
    ap (λ t. paths_from_all (counts_children t) new 0 inner) (type_read (raw_at nodes n))
    ∙ ap (λ p. paths_from_all (counts_children (type_in (raw_at nodes n).attrs)) p 0 inner) (sym (take-length new)) in
    let beside : paths_from_all mark.counted own (mark.position + 1) later ≡ paths_below nodes new (next_mark mark) (end_of nodes n) =
    ap (λ p. paths_from_all mark.counted p (mark.position + 1) later) (sym front) in
    let around : paths_left nodes text outer mark.end ≡ paths_left nodes new outer mark.end = same_left nodes text new mark.own outer mark.end h.3 (sym front) in
    ap (λ ps. ps ++ paths_left nodes text outer mark.end) first
    ∙ ap (λ ps. new ∷ ps) (append_assoc (paths_from_all counted new 0 inner) (paths_from_all mark.counted own (mark.position + 1) later) (paths_left nodes text outer mark.end))
    ∙ ap (λ ps. new ∷ (ps ++ (paths_from_all mark.counted own (mark.position + 1) later ++ paths_left nodes text outer mark.end))) below
    ∙ ap (λ ps. new ∷ (paths_below nodes new (first_mark nodes n (length new)) (n + 1) ++ (ps ++ paths_left nodes text outer mark.end))) beside
    ∙ ap (λ ps. new ∷ (paths_below nodes new (first_mark nodes n (length new)) (n + 1) ++ (paths_below nodes new (next_mark mark) (end_of nodes n) ++ ps))) around

open_after : (nodes : List RawNode) (text : List ℕ) (mark : Mark) (outer : List Mark) (n : ℕ) → AreOpen nodes (length text) (mark ∷ outer) n → n < mark.end
    → AreOpen nodes (length (text_after nodes text mark n)) (marks_after nodes (text_after nodes text mark n) mark outer n) (n + 1)
open_after nodes text mark outer n h l =
    let next = next_element nodes n mark.end h.2 l in
    let forward = next.inside.forward in
    let few = h.1 in
    let own = length-take-le mark.own text h.0 in
    let long = length-append (take mark.own text) (47 ∷ (cond mark.counted (decimal mark.position) (raw_at nodes n).name)) in
    (le_refl (length (text_after nodes text mark n)), omega arith, next.inside.below, (omega arith, omega arith, next.after, h.3))

first_path : (all : List (List ℕ)) (n : ℕ) (p : List ℕ) (ps : List (List ℕ)) → drop n all ≡ p ∷ ps → unwrap_or (slice_get all n) [] ≡ p
first_path all n p ps e = ap (λ o. unwrap_or o []) (stands_at all n p ps e).got

-- from a node to the next
pub next_trail : (nodes : List RawNode) (old new : Trail) (mark : Mark) (outer : List Mark) → IsTrail nodes old
    → IsParent nodes old.path.items (length old.path.items) (reverse old.marks.items) (old.node + 1) (Some mark) outer
    → new.node ≡ old.node + 1 → new.path.items ≡ text_after nodes old.path.items mark (old.node + 1) → reverse new.marks.items ≡ marks_after nodes new.path.items mark outer (old.node + 1)
    → IsTrail nodes new
next_trail nodes old new mark outer h p at text marks =
    let n : ℕ = old.node + 1 in
    let t : List ℕ = text_after nodes old.path.items mark n in
    let ms : List Mark = marks_after nodes t mark outer n in
    let all : List (List ℕ) = paths_from [] (shape_in nodes 0) in
    let now : drop n all ≡ t ∷ paths_left nodes t ms (n + 1) = h.left ∙ p.2 ∙ left_after nodes old.path.items mark outer n p.1 p.0 in
    let marks_are : reverse new.marks.items ≡ ms = marks ∙ ap (λ x. marks_after nodes x mark outer n) text in
    let is_open = open_after nodes old.path.items mark outer n p.1 p.0 in
    let here = stands_at all n t (paths_left nodes t ms (n + 1)) now in
    record {
      path = text ∙ sym (first_path all n t (paths_left nodes t ms (n + 1)) now) ∙ ap (path_at nodes) (sym at);
      are_open =
          subst (λ (k : ℕ). AreOpen nodes (length new.path.items) (reverse new.marks.items) (k + 1)) (sym at)
          (subst (λ (x : List ℕ). AreOpen nodes (length x) (reverse new.marks.items) (n + 1)) (sym text)
          (subst (λ (xs : List Mark). AreOpen nodes (length t) xs (n + 1)) (sym marks_are) is_open));
      left =
          ap (λ k. drop (k + 1) all) at ∙ here.after
          ∙ ap (λ xs. paths_left nodes t xs (n + 1)) (sym marks_are)
          ∙ ap (λ x. paths_left nodes x (reverse new.marks.items) (n + 1)) (sym text)
          ∙ ap (λ k. paths_left nodes new.path.items (reverse new.marks.items) (k + 1)) (sym at);
    }

-- ---- the root

root_shape : (nodes : List RawNode) (h : AreNodes nodes) → shape_in nodes 0 ≡ shape_of h.tree
root_shape nodes h = ap (λ ns. shape_in ns 0) h.in_preorder ∙ shape_in-root h.tree

root_end : (nodes : List RawNode) → AreNodes nodes → 0 < length nodes → end_of nodes 0 ≡ length nodes
root_end nodes h l =
    let inside = node_inside nodes 0 h l in
    let count = sym inside.count ∙ ap node_count (root_shape nodes h) ∙ node_count-shape_of h.tree ∙ ap length (sym h.in_preorder) in
    omega arith

pub root_trail : (nodes : List RawNode) (new : Trail) → AreNodes nodes → 0 < length nodes → new.node ≡ 0 → new.path.items ≡ [] → new.marks.items ≡ first_mark nodes 0 0 ∷ [] → IsTrail nodes new
root_trail nodes new h l at text marks =
    let inside = node_inside nodes 0 h l in
    let whole = root_end nodes h l in
    let mark : Mark = first_mark nodes 0 0 in
    let ms : reverse new.marks.items ≡ mark ∷ [] = ap reverse marks in
    let is_open : AreOpen nodes 0 (mark ∷ []) 1 = (omega arith, omega arith, inside.below, omega arith) in
    let inner = shapes_between nodes 1 (end_of nodes 0) in
    let below : paths_from_all (counts_children (facts_in (raw_at nodes 0)).element_type) [] 0 inner ≡ paths_left nodes [] (mark ∷ []) 1 =
    ap (λ t. paths_from_all (counts_children t) [] 0 inner) (type_read (raw_at nodes 0)) ∙ sym (append-nil (paths_from_all (counts_children (type_in (raw_at nodes 0).attrs)) [] 0 inner)) in
    record {
      path = text ∙ ap (path_at nodes) (sym at);
      are_open =
          subst (λ (k : ℕ). AreOpen nodes (length new.path.items) (reverse new.marks.items) (k + 1)) (sym at)
          (subst (λ (x : List ℕ). AreOpen nodes (length x) (reverse new.marks.items) 1) (sym text)
          (subst (λ (xs : List Mark). AreOpen nodes 0 xs 1) (sym ms) is_open));
      left =
          ap (λ k. drop (k + 1) (paths_from [] (shape_in nodes 0))) at ∙ below
          ∙ ap (λ xs. paths_left nodes [] xs 1) (sym ms)
          ∙ ap (λ x. paths_left nodes x (reverse new.marks.items) 1) (sym text)
          ∙ ap (λ k. paths_left nodes new.path.items (reverse new.marks.items) (k + 1)) (sym at);
    }

-- ---- the path of a node of a tree

pub path_of_trail : (nodes : List RawNode) (e : Element) (trail : Trail) → IsTrail nodes trail → nodes ≡ preorder e → trail.path.items ≡ path_of (shape_of e) trail.node
path_of_trail nodes e trail h same = h.path ∙ ap (λ s. path_of s trail.node) (ap (λ ns. shape_in ns 0) same ∙ shape_in-root e)
