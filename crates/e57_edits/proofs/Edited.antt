-- The nodes that stay are those of the elements that stay.
use Rattle.std.proofs.Common.{◌≡◌, ℕ, suc, ◌+◌, ◌-◌, Bool, true, false, cond, ◌||◌, List, [], ◌∷◌, ◌++◌, length, drop, refl, sym, ap, ◌∙◌, arith, append_assoc, length-append, zero-add, Option, Some, Err}
use Rattle.std.proofs.lemmas.Bool.{ne_eqb, lt-ltb, le-ltb}
use Rattle.std.specs.Prelude.{nat_lt}
use Rattle.std.proofs.lemmas.List.{append-nil, drop-drop, get_or-drop}
use Rattle.std.proofs.Math.Seq.{drop-append_seam}
use Rattle.e57_pieces.specs.declared.piece.Attr.{Attr}
use Rattle.e57_elements.specs.declared.tree.RawNode.{RawNode}
use Rattle.e57_elements.specs.Tree.{Element, element, Elements, none, more, preorder, preorder_all}
use Rattle.e57_nodes.proofs.Laws.Places.{node_of}
use Rattle.e57_edits.specs.declared.changes.Change.{Change}
use Rattle.e57_edits.specs.Changes.{stays_alone, changed_attrs, first_change, are_some, edited_all, IsSoundEdit}
use Rattle.e57_base.specs.declared.fault.TextFault.{TextFault}
use Rattle.e57_base.specs.declared.fault.TextFault.TheVariants.{Refused, Memory}
use Rattle.e57_tree.specs.Judged.{IsJudged}
use Rattle.e57_base.specs.declared.fault.Fault.{Fault}
use Rattle.e57_elements.specs.Lawful.{AreNodes}
use Rattle.e57_nodes.specs.Shape.{shape_of}
use Rattle.e57_nodes.specs.Typed.{typed_fault}
use Rattle.e57_edits.specs.Nodes.{count_at, is_left, remaining, size_left, edited_node, node_left, edited_nodes}
use Rattle.e57_edits.proofs.Counted.{remaining_first, drop-remaining, edited_first, edited_none}

-- there are some, if with them there are more
some_more : (es : Elements) (b : ℕ) → nat_lt b (length (preorder_all es) + b) ≡ are_some es
some_more none b = le-ltb b (0 + b) (omega arith)
some_more (more (element name attrs text children) es) b = lt-ltb b (length (preorder_all (more (element name attrs text children) es)) + b) (let sum = length-append (preorder_all children) (preorder_all es) in omega arith)

none_left : (es : Elements) → are_some es ≡ false → es ≡ none
none_left none e = refl
none_left (more e es) h = absurd (cc)

left-some : (change : Change) (node : RawNode) (size : ℕ) → node_left change node (suc size) ≡ edited_node change node (suc size) ∷ []
left-some change node size = ap (λ (b : Bool). cond b [] (edited_node change node (suc size) ∷ [])) (ne_eqb (suc size) 0 (λ e. absurd (omega arith)))

-- ---- one element and those behind it

module _ (changes : List Change) (name : List ℕ) (attrs : List Attr) (text : List ℕ) (children es : Elements) (rest : List RawNode) where
  abbrev node : RawNode
  node = node_of name attrs text children

  abbrev change : Change
  change = first_change changes

  -- what follows the node, and the changes of it
  abbrev follows : List RawNode
  follows = preorder_all children ++ (preorder_all es ++ rest)

  abbrev below : Elements
  below = edited_all (drop 1 changes) children

  abbrev behind : List Change
  behind = drop (length (preorder_all children) + 1) changes

  -- how many stay of those behind the element
  abbrev others : ℕ
  others = count_at (remaining behind (preorder_all es ++ rest)) 0

  abbrev stays : Bool
  stays = stays_alone change || are_some below

  nodes_are : preorder_all (more (element name attrs text children) es) ++ rest ≡ node ∷ follows
  nodes_are = ap (λ ns. node ∷ ns) (append_assoc (preorder_all children) (preorder_all es) rest)

  behind_is : drop (length (preorder_all children)) (drop 1 changes) ≡ behind
  behind_is = drop-drop (length (preorder_all children)) 1 changes ∙ (let e : 1 + length (preorder_all children) ≡ length (preorder_all children) + 1 = omega arith in ap (λ k. drop k changes) e)

  count_behind : count_at (remaining (drop 1 changes) follows) (length (preorder_all children)) ≡ others
  count_behind =
      let k = length (preorder_all children) in
      let sum = length-append (preorder_all children) (preorder_all es ++ rest) in
      let plain : k ≡ k + 0 = omega arith in
      ap (count_at (remaining (drop 1 changes) follows)) plain ∙ sym (get_or-drop k (remaining (drop 1 changes) follows) 0 0)
      ∙ ap (λ xs. count_at xs 0) (drop-remaining k (drop 1 changes) follows (omega arith))
      ∙ ap (λ cs. count_at (remaining cs (drop k follows)) 0) behind_is ∙ ap (λ ns. count_at (remaining behind ns) 0) (drop-append_seam (preorder_all children) (preorder_all es ++ rest))

  module _ (ih : count_at (remaining (drop 1 changes) follows) 0 ≡ length (preorder_all below) + count_at (remaining (drop (length (preorder_all children)) (drop 1 changes)) (preorder_all es ++ rest)) 0) where
    count_below : count_at (remaining (drop 1 changes) follows) 0 ≡ length (preorder_all below) + others
    count_below = ih ∙ ap (λ cs. length (preorder_all below) + count_at (remaining cs (preorder_all es ++ rest)) 0) behind_is

    left_is : is_left change node (remaining (drop 1 changes) follows) ≡ stays
    left_is =
        let less : length (preorder_all children) + 1 - 1 ≡ length (preorder_all children) = omega arith in
        ap (λ k. stays_alone change || nat_lt (count_at (remaining (drop 1 changes) follows) k) (count_at (remaining (drop 1 changes) follows) 0)) less
        ∙ ap (λ k. stays_alone change || nat_lt k (count_at (remaining (drop 1 changes) follows) 0)) count_behind
        ∙ ap (λ k. stays_alone change || nat_lt others k) count_below
        ∙ ap (λ b. stays_alone change || b) (some_more below others)

    first_count : count_at (remaining changes (node ∷ follows)) 0 ≡ cond stays 1 0 + (length (preorder_all below) + others)
    first_count =
        ap (λ xs. count_at xs 0) (remaining_first changes node follows)
        ∙ ap (λ b. cond b 1 0 + count_at (remaining (drop 1 changes) follows) 0) left_is ∙ ap (λ k. cond stays 1 0 + k) count_below

    size_is : size_left changes node follows ≡ cond stays 1 0 + length (preorder_all below)
    size_is =
        let one_more : length (preorder_all children) + 1 ≡ suc (length (preorder_all children)) = omega arith in
        let last : count_at (remaining changes (node ∷ follows)) node.size ≡ others =
        ap (count_at (remaining changes (node ∷ follows))) one_more ∙ ap (λ xs. count_at xs (suc (length (preorder_all children)))) (remaining_first changes node follows) ∙ count_behind in
        let first = first_count in
        omega arith

    -- the node and those below it
    put_first : (b : Bool) → b ≡ stays → node_left change node (cond b 1 0 + length (preorder_all below)) ++ preorder_all below
        ≡ preorder_all (cond b (more (element name (changed_attrs change attrs) text below) none) none)
    put_first true e =
        let one : 1 + length (preorder_all below) ≡ suc (length (preorder_all below)) = omega arith in
        let other : suc (length (preorder_all below)) ≡ length (preorder_all below) + 1 = omega arith in
        ap (λ k. node_left change node k ++ preorder_all below) one
        ∙ ap (λ ns. ns ++ preorder_all below) (left-some change node (length (preorder_all below)))
        ∙ ap (λ k. edited_node change node k ∷ preorder_all below) other ∙ ap (λ ns. edited_node change node (length (preorder_all below) + 1) ∷ ns) (sym (append-nil (preorder_all below)))
    put_first false e =
        let nothing : below ≡ none = none_left below (either (stays_alone change) (are_some below) (sym e)) in
        ap (λ (x : Elements). node_left change node (0 + length (preorder_all x)) ++ preorder_all x) nothing
      where
        either : (a b : Bool) → (a || b) ≡ false → b ≡ false
        either true b h = absurd (cc)
        either false b h = h

joined_nodes : (b : Bool) (x : Element) (es : Elements) → preorder_all (cond b (more x none) none) ++ preorder_all es ≡ preorder_all (cond b (more x es) es)
joined_nodes true x es = ap (λ ns. ns ++ preorder_all es) (append-nil (preorder x))
joined_nodes false x es = refl

joined_length : (b : Bool) (name : List ℕ) (attrs : List Attr) (text : List ℕ) (below es : Elements) → (b ≡ false → below ≡ none)
    → cond b 1 0 + length (preorder_all below) + length (preorder_all es) ≡ length (preorder_all (cond b (more (element name attrs text below) es) es))
joined_length true name attrs text below es h = let sum = length-append (preorder_all below) (preorder_all es) in omega arith
joined_length false name attrs text below es h = let e = ap (λ (x : Elements). length (preorder_all x)) (h refl) in omega arith

-- how many stay
pub edited-count : (changes : List Change) (es : Elements) (rest : List RawNode)
    → count_at (remaining changes (preorder_all es ++ rest)) 0 ≡ length (preorder_all (edited_all changes es)) + count_at (remaining (drop (length (preorder_all es)) changes) rest) 0
edited-count changes none rest = sym (zero-add (count_at (remaining changes rest) 0))
edited-count changes (more (element name attrs text children) es) rest =
    let ih = edited-count (drop 1 changes) children (preorder_all es ++ rest) in
    let later = edited-count (behind changes name attrs text children es rest) es rest in
    let first = first_count changes name attrs text children es rest ih in
    let b = stays changes name attrs text children es rest in
    let x = below changes name attrs text children es rest in
    let sum = joined_length b name (changed_attrs (first_change changes) attrs) text x (edited_all (behind changes name attrs text children es rest) es) (λ e. none_left x (either (stays_alone (first_change changes)) (are_some x) e)) in
    let far : length (preorder_all children) + 1 + length (preorder_all es) ≡ length (preorder_all (more (element name attrs text children) es)) = let sum = length-append (preorder_all children) (preorder_all es) in omega arith in
    let last : drop (length (preorder_all es)) (behind changes name attrs text children es rest) ≡ drop (length (preorder_all (more (element name attrs text children) es))) changes =
    drop-drop (length (preorder_all es)) (length (preorder_all children) + 1) changes ∙ ap (λ k. drop k changes) far in
    ap (λ ns. count_at (remaining changes ns) 0) (nodes_are changes name attrs text children es rest) ∙ first
    ∙ ap (λ k. cond b 1 0 + (length (preorder_all x) + k)) (later ∙ ap (λ cs. length (preorder_all (edited_all (behind changes name attrs text children es rest) es)) + count_at (remaining cs rest) 0) last)
    ∙ totals (cond b 1 0) (length (preorder_all x)) (length (preorder_all (edited_all (behind changes name attrs text children es rest) es))) _ (count_at (remaining (drop (length (preorder_all (more (element name attrs text children) es))) changes) rest) 0) sum
  where
    either : (a b : Bool) → (a || b) ≡ false → b ≡ false
    either true b h = absurd (cc)
    either false b h = h

    totals : (a b c d r : ℕ) → a + b + c ≡ d → a + (b + (c + r)) ≡ d + r
    totals a b c d r h = omega arith

-- which nodes stay
pub edited-nodes : (changes : List Change) (es : Elements) (rest : List RawNode)
    → edited_nodes changes (preorder_all es ++ rest) ≡ preorder_all (edited_all changes es) ++ edited_nodes (drop (length (preorder_all es)) changes) rest
edited-nodes changes none rest = refl
edited-nodes changes (more (element name attrs text children) es) rest =
    let ih = edited-count (drop 1 changes) children (preorder_all es ++ rest) in
    let c = first_change changes in
    let b = stays changes name attrs text children es rest in
    let x = below changes name attrs text children es rest in
    let now = node_of name attrs text children in
    let after = behind changes name attrs text children es rest in
    let new = element name (changed_attrs c attrs) text x in
    let far : length (preorder_all children) + 1 + length (preorder_all es) ≡ length (preorder_all (more (element name attrs text children) es)) = let sum = length-append (preorder_all children) (preorder_all es) in omega arith in
    let last : drop (length (preorder_all es)) after ≡ drop (length (preorder_all (more (element name attrs text children) es))) changes =
    drop-drop (length (preorder_all es)) (length (preorder_all children) + 1) changes ∙ ap (λ k. drop k changes) far in
    let left = node_left c now (cond b 1 0 + length (preorder_all x)) in
    ap (edited_nodes changes) (nodes_are changes name attrs text children es rest) ∙ edited_first changes now (preorder_all children ++ (preorder_all es ++ rest))
    ∙ ap (λ k. node_left c now k ++ edited_nodes (drop 1 changes) (preorder_all children ++ (preorder_all es ++ rest))) (size_is changes name attrs text children es rest ih)
    ∙ ap (λ ns. left ++ ns) (edited-nodes (drop 1 changes) children (preorder_all es ++ rest))
    ∙ ap (λ cs. left ++ (preorder_all x ++ edited_nodes cs (preorder_all es ++ rest))) (behind_is changes name attrs text children es rest)
    ∙ ap (λ ns. left ++ (preorder_all x ++ ns)) (edited-nodes after es rest)
    ∙ ap (λ cs. left ++ (preorder_all x ++ (preorder_all (edited_all after es) ++ edited_nodes cs rest))) last
    ∙ sym (append_assoc left (preorder_all x) (preorder_all (edited_all after es) ++ edited_nodes (drop (length (preorder_all (more (element name attrs text children) es))) changes) rest))
    ∙ ap (λ ns. ns ++ (preorder_all (edited_all after es) ++ edited_nodes (drop (length (preorder_all (more (element name attrs text children) es))) changes) rest)) (put_first changes name attrs text children es rest ih b refl)
    ∙ sym (append_assoc (preorder_all (cond b (more new none) none)) (preorder_all (edited_all after es)) (edited_nodes (drop (length (preorder_all (more (element name attrs text children) es))) changes) rest))
    ∙ ap (λ ns. ns ++ edited_nodes (drop (length (preorder_all (more (element name attrs text children) es))) changes) rest) (joined_nodes b new (edited_all after es))

-- of a whole tree that stays
pub edited-tree : (changes : List Change) (e x : Element) → edited_all changes (more e none) ≡ more x none → edited_nodes changes (preorder e) ≡ preorder x
edited-tree changes e x same =
    ap (edited_nodes changes) (sym (append-nil (preorder e ++ []) ∙ append-nil (preorder e))) ∙ edited-nodes changes (more e none) []
    ∙ ap (λ ns. preorder_all (edited_all changes (more e none)) ++ ns) (edited_none (drop (length (preorder_all (more e none))) changes))
    ∙ append-nil (preorder_all (edited_all changes (more e none))) ∙ ap preorder_all same ∙ append-nil (preorder x)

-- the nodes of a sound edit are those of its tree
pub sound_nodes : (changes : List Change) (nodes : List RawNode) (sound : IsSoundEdit changes nodes) → edited_nodes changes nodes ≡ preorder sound.after
sound_nodes changes nodes sound = ap (edited_nodes changes) sound.nodes_are ∙ edited-tree changes sound.before sound.after sound.edited

pub sound_lawful : (changes : List Change) (nodes new : List RawNode) → IsSoundEdit changes nodes → new ≡ edited_nodes changes nodes → AreNodes new
sound_lawful changes nodes new sound same = record { tree = sound.after; in_preorder = same ∙ sound_nodes changes nodes sound; is_lawful = sound.is_lawful }

-- so that they aren't refused
pub not_refused : (changes : List Change) (nodes new : List RawNode) (found : Fault) → IsSoundEdit changes nodes → new ≡ edited_nodes changes nodes
    → ((e : Element) → new ≡ preorder e → typed_fault (shape_of e) ≡ Some found) → ⊥
not_refused changes nodes new found sound same refused =
    let fault = refused sound.after (same ∙ sound_nodes changes nodes sound) in
    let free = sound.typed in
    absurd (cc)

pub judged_refused : (T : Type 0) (error : TextFault) (found : Fault) (fault : Option Fault) → IsJudged {T = T} (Err error) fault → error ≡ Refused found → fault ≡ Some found
judged_refused T (Refused other) found fault h same = h ∙ ap (λ (f : Fault). Some f) (let e : other ≡ found = cc in e)
judged_refused T Memory found fault h same = absurd (cc)
