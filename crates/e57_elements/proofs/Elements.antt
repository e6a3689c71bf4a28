-- The elements that are still to be written.
use Rattle.std.proofs.Common.{◌≡◌, ℕ, ◌+◌, ◌<◌, ◌≤◌, Bool, true, false, cond, eqb, List, [], ◌∷◌, ◌++◌, length, get_or, drop, codes, Some, Result, Ok, Err, slice_get, refl, sym, ap, ◌∙◌, append_assoc, length-append, length-drop, add-zero, arith}
use Rattle.std.proofs.lemmas.List.{append-nil, get_or-drop, drop-drop}
use Rattle.std.proofs.lemmas.Bool.{eqb-true}
use Rattle.std.proofs.lemmas.Option.{get_or_from_slice_get}
use Rattle.std.proofs.Math.Seq.{drop-append_seam}
use Rattle.std.specs.Result.{OnOk}
use Rattle.e57_elements.specs.declared.tree.RawNode.{RawNode}
use Rattle.e57_elements.specs.Tree.{Element, element, Elements, none, more, preorder, preorder_all}
use Rattle.e57_elements.specs.Spelling.{text_byte, written, attrs_spelling, is_bare, element_spelling, elements_spelling, spelling}
use Rattle.e57_elements.specs.Places.{StandsAt}

abbrev pub children_of : Element → Elements
children_of (element name attrs text children) = children

abbrev pub root : Element → RawNode
root (element name attrs text children) = record { name = name; attrs = attrs; text = text; size = length (preorder_all children) + 1 }

abbrev pub bare : Element → Bool
bare (element name attrs text children) = is_bare text children

-- ---- the nodes of an element

pub root_first : (e : Element) → preorder e ≡ root e ∷ preorder_all (children_of e)
root_first (element name attrs text children) = refl

pub length-preorder : (e : Element) → length (preorder e) ≡ (root e).size
length-preorder (element name attrs text children) = omega arith

pub size_some : (e : Element) → 0 < (root e).size
size_some (element name attrs text children) = omega arith

-- a list that goes on from a place with an element has room for it
pub stands_within : (nodes : List RawNode) (i : ℕ) (e : Element) (rest : List RawNode) → drop i nodes ≡ preorder e ++ rest → i + (root e).size ≤ length nodes
stands_within nodes i e rest parts =
    let d = length-drop i nodes in
    let a = length-append (preorder e) rest in
    let f = ap length parts in
    let n = length-preorder e in
    let s = size_some e in
    omega arith

-- the node there is the root's
pub node_is : (nodes : List RawNode) (i : ℕ) (node : RawNode) (e : Element) (rest : List RawNode) → slice_get nodes i ≡ Some node → drop i nodes ≡ preorder e ++ rest → node ≡ root e
node_is nodes i node e rest found parts =
    sym (get_or_from_slice_get nodes i node node found)
    ∙ ap (λ k. get_or nodes k node) (sym (add-zero i))
    ∙ sym (get_or-drop i nodes 0 node)
    ∙ ap (λ ns. get_or ns 0 node) (parts ∙ ap (λ ns. ns ++ rest) (root_first e))

-- ---- the children that are left

-- From the child's place on stand the elements that are left, up to the end. With them what is written now becomes
-- what was written before the children, and the children.
pub record Left (nodes : List RawNode) (child end : ℕ) (before now : List ℕ) (children : Elements) : Type 0 where
  pub left : Elements
  pub rest : List RawNode
  pub parts : drop child nodes ≡ preorder_all left ++ rest
  pub ends : child + length (preorder_all left) ≡ end
  pub spelled : now ++ elements_spelling left ≡ before ++ elements_spelling children

pub all_left : (nodes : List RawNode) (i : ℕ) (node : RawNode) (e : Element) (rest : List RawNode) (before : List ℕ) → slice_get nodes i ≡ Some node → drop i nodes ≡ preorder e ++ rest
    → Left nodes (i + 1) (i + node.size) before before (children_of e)
all_left nodes i node e rest before found parts =
    let n : node.size ≡ (root e).size = ap (λ (x : RawNode). x.size) (node_is nodes i node e rest found parts) in
    let p = length-preorder e in
    let l = ap length (root_first e) in
    record {
      left = children_of e;
      rest = rest;
      parts = sym (drop-drop 1 i nodes) ∙ ap (λ ns. drop 1 ns) (parts ∙ ap (λ ns. ns ++ rest) (root_first e));
      ends = omega arith;
      spelled = refl;
    }

-- before the end there is one more
pub record Next (nodes : List RawNode) (child end : ℕ) (before now : List ℕ) (children : Elements) : Type 0 where
  pub first : Element
  pub others : Elements
  pub rest : List RawNode
  pub parts : drop child nodes ≡ preorder first ++ (preorder_all others ++ rest)
  pub ends : child + ((root first).size + length (preorder_all others)) ≡ end
  pub spelled : now ++ (element_spelling first ++ elements_spelling others) ≡ before ++ elements_spelling children

pub next_left : (nodes : List RawNode) (child end : ℕ) (before now : List ℕ) (children : Elements) → Left nodes child end before now children → child < end → Next nodes child end before now children
next_left nodes child end before now children l h = go l.left l.parts l.ends l.spelled where
  go : (left : Elements) → drop child nodes ≡ preorder_all left ++ l.rest → child + length (preorder_all left) ≡ end
      → now ++ elements_spelling left ≡ before ++ elements_spelling children → Next nodes child end before now children
  go none parts ends spelled = absurd (omega arith)
  go (more e es) parts ends spelled =
      let n = length-preorder e in
      let a = length-append (preorder e) (preorder_all es) in
      record {
        first = e;
        others = es;
        rest = l.rest;
        parts = parts ∙ append_assoc (preorder e) (preorder_all es) l.rest;
        ends = omega arith;
        spelled = spelled;
      }

pub next_stands : (nodes : List RawNode) (child end : ℕ) (before now : List ℕ) (children : Elements) → Left nodes child end before now children → child < end → StandsAt nodes child
next_stands nodes child end before now children l h =
    let n = next_left nodes child end before now children l h in
    record { tree = n.first; rest = preorder_all n.others ++ n.rest; parts = n.parts }

-- it is written
pub fewer_left : (nodes : List RawNode) (child end : ℕ) (node : RawNode) (before now new : List ℕ) (children : Elements) → Left nodes child end before now children → child < end
    → slice_get nodes child ≡ Some node → ((e : Element) (rest : List RawNode) → drop child nodes ≡ preorder e ++ rest → new ≡ now ++ element_spelling e)
    → Left nodes (child + node.size) end before new children
fewer_left nodes child end node before now new children l h found is_written =
    let n = next_left nodes child end before now children l h in
    let below = preorder_all n.others ++ n.rest in
    let size : node.size ≡ length (preorder n.first) = ap (λ (x : RawNode). x.size) (node_is nodes child node n.first below found n.parts) ∙ sym (length-preorder n.first) in
    let same = length-preorder n.first in
    let total = n.ends in
    record {
      left = n.others;
      rest = n.rest;
      parts = sym (drop-drop node.size child nodes) ∙ ap (λ ns. drop node.size ns) n.parts ∙ ap (λ k. drop k (preorder n.first ++ below)) size ∙ drop-append_seam (preorder n.first) below;
      ends = omega arith;
      spelled = ap (λ t. t ++ elements_spelling n.others) (is_written n.first below n.parts) ∙ append_assoc now (element_spelling n.first) (elements_spelling n.others) ∙ n.spelled;
    }

-- none is left
pub none_left : (nodes : List RawNode) (child end : ℕ) (before now : List ℕ) (children : Elements) → Left nodes child end before now children → end ≤ child → now ≡ before ++ elements_spelling children
none_left nodes child end before now children l h = go l.left l.ends l.spelled where
  go : (left : Elements) → child + length (preorder_all left) ≡ end → now ++ elements_spelling left ≡ before ++ elements_spelling children → now ≡ before ++ elements_spelling children
  go none ends spelled = sym (append-nil now) ∙ spelled
  go (more e es) ends spelled = absurd (let n = length-preorder e in let s = size_some e in let a = length-append (preorder e) (preorder_all es) in omega arith)

-- ---- the whole element

none_of : (xs : List ℕ) → eqb (length xs) 0 ≡ true → xs ≡ []
none_of [] h = refl
none_of (x ∷ xs) h = absurd (let n : length (x ∷ xs) ≡ 0 = eqb-true (length (x ∷ xs)) 0 h in omega arith)

pub is_bare_node : (e : Element) (node : RawNode) → node ≡ root e → node.size ≡ 1 → eqb (length node.text) 0 ≡ true → bare e ≡ true
is_bare_node (element name attrs [] none) node is size empty = refl
is_bare_node (element name attrs [] (more e es)) node is size empty =
    absurd (let z : node.size ≡ length (preorder e ++ preorder_all es) + 1 = ap (λ (x : RawNode). x.size) is in let a = length-append (preorder e) (preorder_all es) in let n = length-preorder e in let s = size_some e in omega arith)
is_bare_node (element name attrs (b ∷ bs) children) node is size empty =
    let t : node.text ≡ b ∷ bs = ap (λ (x : RawNode). x.text) is in
    let f : [] ≡ b ∷ bs = sym (none_of node.text empty) ∙ t in cc

pub not_bare_size : (e : Element) (node : RawNode) → node ≡ root e → (node.size ≡ 1 → ⊥) → bare e ≡ false
not_bare_size (element name attrs [] none) node is size = absurd (size (ap (λ (x : RawNode). x.size) is))
not_bare_size (element name attrs [] (more e es)) node is size = refl
not_bare_size (element name attrs (b ∷ bs) children) node is size = refl

pub not_bare_text : (e : Element) (node : RawNode) → node ≡ root e → eqb (length node.text) 0 ≡ false → bare e ≡ false
not_bare_text (element name attrs [] none) node is some = let t : node.text ≡ [] = ap (λ (x : RawNode). x.text) is in let f : eqb (length node.text) 0 ≡ true = ap (λ (xs : List ℕ). eqb (length xs) 0) t in cc
not_bare_text (element name attrs [] (more e es)) node is some = refl
not_bare_text (element name attrs (b ∷ bs) children) node is some = refl

bare_spelling : (e : Element) → bare e ≡ true → element_spelling e ≡ codes "<" ++ ((root e).name ++ (attrs_spelling (root e).attrs ++ codes "/>"))
bare_spelling (element name attrs text children) h =
    ap (λ b. codes "<" ++ (name ++ (attrs_spelling attrs ++ (cond b (codes "/>")
    (codes ">" ++ (written text_byte text ++ (elements_spelling children ++ (codes "</" ++ (name ++ codes ">"))))))))) h

full_spelling : (e : Element) → bare e ≡ false
    → element_spelling e ≡ codes "<" ++ ((root e).name ++ (attrs_spelling (root e).attrs ++ (codes ">" ++ (written text_byte (root e).text ++ (elements_spelling (children_of e) ++ (codes "</" ++ ((root e).name ++ codes ">")))))))
full_spelling (element name attrs text children) h =
    ap (λ b. codes "<" ++ (name ++ (attrs_spelling attrs ++ (cond b (codes "/>")
    (codes ">" ++ (written text_byte text ++ (elements_spelling children ++ (codes "</" ++ (name ++ codes ">"))))))))) h

pub bare_written : (e : Element) (node : RawNode) (before tag new : List ℕ) → node ≡ root e → bare e ≡ true
    → tag ≡ before ++ (codes "<" ++ (node.name ++ attrs_spelling node.attrs)) → new ≡ tag ++ codes "/>" → new ≡ before ++ element_spelling e
bare_written e node before tag new is h begun closed =
    let n : node.name ≡ (root e).name = ap (λ (x : RawNode). x.name) is in
    let a : node.attrs ≡ (root e).attrs = ap (λ (x : RawNode). x.attrs) is in
    closed
    ∙ ap (λ t. t ++ codes "/>") (begun ∙ ap (λ m. before ++ (codes "<" ++ (m ++ attrs_spelling node.attrs))) n ∙ ap (λ xs. before ++ (codes "<" ++ ((root e).name ++ attrs_spelling xs))) a)
    ∙ regroup before (root e).name (attrs_spelling (root e).attrs) (codes "/>")
    ∙ ap (λ t. before ++ t) (sym (bare_spelling e h)) where
      regroup : (w x y z : List ℕ) → (w ++ (codes "<" ++ (x ++ y))) ++ z ≡ w ++ (codes "<" ++ (x ++ (y ++ z)))
      regroup w x y z = simp append_assoc

form : List ℕ → List ℕ → List ℕ → List ℕ → List ℕ → List ℕ
form before name attrs bytes inner = before ++ (codes "<" ++ (name ++ (attrs ++ (codes ">" ++ (bytes ++ (inner ++ (codes "</" ++ (name ++ codes ">"))))))))

regroup : (before name attrs bytes inner : List ℕ)
    → ((((before ++ (codes "<" ++ (name ++ attrs))) ++ codes ">") ++ bytes) ++ inner) ++ (codes "</" ++ (name ++ codes ">")) ≡ form before name attrs bytes inner
unfolding form
regroup before name attrs bytes inner = simp append_assoc

form_is : (before : List ℕ) (e : Element) → bare e ≡ false → form before (root e).name (attrs_spelling (root e).attrs) (written text_byte (root e).text) (elements_spelling (children_of e)) ≡ before ++ element_spelling e
unfolding form
form_is before e h = ap (λ u. before ++ u) (sym (full_spelling e h))

pub full_written : (e : Element) (node : RawNode) (before tag open_tag text now new : List ℕ) → node ≡ root e → bare e ≡ false
    → tag ≡ before ++ (codes "<" ++ (node.name ++ attrs_spelling node.attrs)) → open_tag ≡ tag ++ codes ">" → text ≡ open_tag ++ written text_byte node.text
    → now ≡ text ++ elements_spelling (children_of e) → new ≡ now ++ (codes "</" ++ (node.name ++ codes ">")) → new ≡ before ++ element_spelling e
full_written e node before tag open_tag text now new is h begun opened texted filled ended =
    let inner = elements_spelling (children_of e) in
    ended
    ∙ ap (λ t. t ++ (codes "</" ++ (node.name ++ codes ">")))
    (filled ∙ ap (λ t. t ++ inner) (texted ∙ ap (λ t. t ++ written text_byte node.text) (opened ∙ ap (λ t. t ++ codes ">") begun)))
    ∙ regroup before node.name (attrs_spelling node.attrs) (written text_byte node.text) inner
    ∙ ap (λ (x : RawNode). form before x.name (attrs_spelling x.attrs) (written text_byte x.text) inner) is
    ∙ form_is before e h

pub on_ok : {T E : Type 0} (P Q : Type 0) (r : Result T E) → (P → Q) → OnOk r P → OnOk r Q
on_ok P Q (Ok x) f h = f h
on_ok P Q (Err e) f h = h

-- ---- the whole tree

-- the declaration and the line feed
abbrev pub heading : List ℕ
heading = codes "<?xml version=" ++ (34 ∷ codes "1.0" ++ (34 ∷ codes " encoding=" ++ (34 ∷ codes "UTF-8" ++ (34 ∷ codes "?>" ++ (10 ∷ [])))))

pub tree_written : (nodes : List RawNode) (e : Element) (before new : List ℕ) → nodes ≡ preorder e → before ≡ heading
    → ((f : Element) (rest : List RawNode) → drop 0 nodes ≡ preorder f ++ rest → new ≡ before ++ element_spelling f) → new ≡ spelling e
tree_written nodes e before new is begun is_written = is_written e [] (is ∙ sym (append-nil (preorder e))) ∙ ap (λ t. t ++ element_spelling e) begun
