-- What the calls that make a tree write into its nodes.
use Rattle.std.proofs.Common.{◌≡◌, ℕ, ◌+◌, ◌-◌, ◌<◌, ◌⊎◌, inl, inr, List, [], ◌∷◌, ◌++◌, length, get_or, set, Result, Ok, Err, sym, ap, subst, ◌∙◌, length-append, arith}
use Rattle.std.specs.Result.{OnOk, OnErr}
use Rattle.e57_pieces.specs.declared.piece.Attr.{Attr}
use Rattle.e57_elements.specs.declared.tree.RawNode.{RawNode}
use Rattle.e57_elements.specs.Making.{TreeSoFar, started, add_attr, set_text, set_size, ChangesLast, Ends, MayStart, MayAttr, MayText, IsLawfulSoFar}
use Rattle.e57_elements.proofs.Makes.{so_far, started_lawful, last_is, attr_lawful, text_lawful, some_begun, ended_lawful, ended_is}
use Rattle.e57_elements.proofs.Lists.{snoc_same}

pub ok_or_err : {E : Type 0} (P Q : Type 0) (r : Result (Unit {0}) E) → OnOk r P → OnErr r Q → P ⊎ Q
ok_or_err P Q (Ok x) f g = inl f
ok_or_err P Q (Err e) f g = inr g

abbrev pub set_attrs : List Attr → RawNode → RawNode
set_attrs attrs node = record { name = node.name; attrs = attrs; text = node.text; size = node.size }

-- ---- the last node

-- a list whose last element is read, changed and written back
pub set_last : (nodes before : List RawNode) (node read new : RawNode) (len : ℕ) (change : RawNode → RawNode)
    → nodes ≡ before ++ node ∷ [] → len ≡ length nodes → read ≡ get_or nodes (len - 1) read → new ≡ change read → set nodes (len - 1) new ≡ before ++ change node ∷ []
set_last nodes before node read new len change parts is_len is_read is_new =
    let l = last_is nodes before node parts in
    let same : read ≡ node = is_read ∙ ap (λ k. get_or nodes (k - 1) read) is_len ∙ l.read read in
    ap (λ k. set nodes (k - 1) new) is_len ∙ l.written new ∙ ap (λ x. before ++ x ∷ []) (is_new ∙ ap change same)

-- it is changed, and all else is as it was
pub changes : (tree new : TreeSoFar) (nodes : List RawNode) (begun : List ℕ) (read now : RawNode) (len : ℕ) (change : RawNode → RawNode)
    → so_far nodes begun ≡ tree → new ≡ so_far (set nodes (len - 1) now) begun → len ≡ length nodes → read ≡ get_or nodes (len - 1) read → now ≡ change read → ChangesLast change tree new
changes tree new nodes begun read now len change is is_new is_len is_read is_now = record {
  begun = ap (λ (t : TreeSoFar). t.begun) is_new ∙ ap (λ (t : TreeSoFar). t.begun) is;
  nodes = λ before node parts. ap (λ (t : TreeSoFar). t.nodes) is_new ∙ set_last nodes before node read now len change (ap (λ (t : TreeSoFar). t.nodes) is ∙ parts) is_len is_read is_now;
}

-- ---- an attribute

pub added : (attrs : List Attr) (name value : List ℕ) (read : RawNode) → attrs ≡ read.attrs ++ (record { name = name; value = value }) ∷ [] → set_attrs attrs read ≡ add_attr name value read
added attrs name value read e = ap (λ xs. set_attrs xs read) e

pub attr_set : (tree : TreeSoFar) (nodes : List RawNode) (begun : List ℕ) (name value : List ℕ) (may : MayAttr tree name value) (read : RawNode) (len : ℕ) (attrs : List Attr)
    → so_far nodes begun ≡ tree → IsLawfulSoFar (so_far nodes begun) → len ≡ length nodes → read ≡ get_or nodes (len - 1) read
    → (attrs ≡ read.attrs ++ (record { name = name; value = value }) ∷ []) ⊎ (attrs ≡ read.attrs) → IsLawfulSoFar (so_far (set nodes (len - 1) (set_attrs attrs read)) begun)
attr_set tree nodes begun name value may read len attrs is h is_len is_read (inl e) =
    let i = may.is_innermost in
    let parts : nodes ≡ i.before ++ may.node ∷ [] = ap (λ (t : TreeSoFar). t.nodes) is ∙ i.nodes in
    let w = set_last nodes i.before may.node read (set_attrs attrs read) len (add_attr name value) parts is_len is_read (added attrs name value read e) in
    let f = attr_lawful tree name value may (subst (λ t. IsLawfulSoFar t) is h) in
    subst (λ ns. IsLawfulSoFar (so_far ns begun)) (sym w) (subst (λ ps. IsLawfulSoFar (so_far (i.before ++ add_attr name value may.node ∷ []) ps)) (sym (ap (λ (t : TreeSoFar). t.begun) is)) f)
attr_set tree nodes begun name value may read len attrs is h is_len is_read (inr e) =
    let i = may.is_innermost in
    let parts : nodes ≡ i.before ++ may.node ∷ [] = ap (λ (t : TreeSoFar). t.nodes) is ∙ i.nodes in
    let same : set_attrs attrs read ≡ read = ap (λ xs. set_attrs xs read) e in
    let w = set_last nodes i.before may.node read (set_attrs attrs read) len (λ x. x) parts is_len is_read same in
    subst (λ ns. IsLawfulSoFar (so_far ns begun)) (parts ∙ sym w) h

-- ---- a text

pub text_set : (tree : TreeSoFar) (nodes : List RawNode) (begun : List ℕ) (text : List ℕ) (may : MayText tree text) (read : RawNode) (len : ℕ) (bytes : List ℕ)
    → so_far nodes begun ≡ tree → IsLawfulSoFar (so_far nodes begun) → len ≡ length nodes → read ≡ get_or nodes (len - 1) read → bytes ≡ text
    → IsLawfulSoFar (so_far (set nodes (len - 1) (set_text bytes read)) begun)
text_set tree nodes begun text may read len bytes is h is_len is_read e =
    let i = may.is_innermost in
    let parts : nodes ≡ i.before ++ may.node ∷ [] = ap (λ (t : TreeSoFar). t.nodes) is ∙ i.nodes in
    let w = set_last nodes i.before may.node read (set_text bytes read) len (set_text text) parts is_len is_read (ap (λ bs. set_text bs read) e) in
    let f = text_lawful tree text may (subst (λ t. IsLawfulSoFar t) is h) in
    subst (λ ns. IsLawfulSoFar (so_far ns begun)) (sym w) (subst (λ ps. IsLawfulSoFar (so_far (i.before ++ set_text text may.node ∷ []) ps)) (sym (ap (λ (t : TreeSoFar). t.begun) is)) f)

-- ---- an end

-- the place that is taken off
pub record Taken (nodes : List RawNode) (begun places : List ℕ) (place : ℕ) : Type 0 where
  pub before : List RawNode
  pub node : RawNode
  pub below : List RawNode
  pub at_places : begun ≡ places ++ length before ∷ []
  pub at_nodes : nodes ≡ before ++ node ∷ below
  pub is_place : place ≡ length before
  pub inside : place < length nodes

pub taken : (nodes : List RawNode) (begun places : List ℕ) (place : ℕ) → IsLawfulSoFar (so_far nodes begun) → begun ≡ places ++ place ∷ [] → Taken nodes begun places place
taken nodes begun places place h popped =
    let some : 0 < length begun = (let a = length-append places (place ∷ []) in let f = ap length popped in omega arith) in
    let b = some_begun (so_far nodes begun) h some in
    let p = snoc_same b.outer places (length b.before) place (sym b.begun ∙ popped) in
    record {
      before = b.before;
      node = b.node;
      below = b.below;
      at_places = b.begun ∙ ap (λ ps. ps ++ length b.before ∷ []) p.0;
      at_nodes = b.nodes;
      is_place = sym p.1;
      inside = let a = length-append b.before (b.node ∷ b.below) in let f = ap length b.nodes in let q = p.1 in omega arith;
    }

pub end_set : (nodes : List RawNode) (begun places : List ℕ) (place len : ℕ) (read : RawNode) → IsLawfulSoFar (so_far nodes begun) → begun ≡ places ++ place ∷ [] → len ≡ length nodes
    → read ≡ get_or nodes place read → IsLawfulSoFar (so_far (set nodes place (set_size (len - place) read)) places)
end_set nodes begun places place len read h popped is_len is_read =
    let t = taken nodes begun places place h popped in
    let w = ended_is nodes t.before t.below t.node read place len t.at_nodes t.is_place is_len is_read in
    subst (λ ns. IsLawfulSoFar (so_far ns places)) (sym w) (ended_lawful (so_far nodes begun) places t.before t.below t.node h t.at_places t.at_nodes)

pub ends : (tree new : TreeSoFar) (nodes : List RawNode) (begun places : List ℕ) (place len : ℕ) (read : RawNode) → so_far nodes begun ≡ tree → begun ≡ places ++ place ∷ [] → len ≡ length nodes
    → read ≡ get_or nodes place read → new ≡ so_far (set nodes place (set_size (len - place) read)) places → Ends tree new
ends tree new nodes begun places place len read is popped is_len is_read is_new outer before below node at_places at_nodes =
    let p = snoc_same places outer place (length before) (sym popped ∙ ap (λ (t : TreeSoFar). t.begun) is ∙ at_places) in
    is_new
    ∙ ap (λ ns. so_far ns places) (ended_is nodes before below node read place len (ap (λ (t : TreeSoFar). t.nodes) is ∙ at_nodes) p.1 is_len is_read)
    ∙ ap (λ ps. so_far (before ++ set_size (length below + 1) node ∷ below) ps) p.0

pub one_attr : (name given_name value given_value : List ℕ) → name ≡ given_name → value ≡ given_value → ◌≡◌ {A = Attr} (record { name = name; value = value }) (record { name = given_name; value = given_value })
one_attr name given_name value given_value e f = cc

-- ---- a start

pub one_node : (name given_name text : List ℕ) (attrs : List Attr) → name ≡ given_name → attrs ≡ [] → text ≡ []
    → ◌≡◌ {A = RawNode} (record { name = name; attrs = attrs; text = text; size = 0 }) (record { name = given_name; attrs = []; text = []; size = 0 })
one_node name given_name text attrs e f g = cc

pub start_set : (tree : TreeSoFar) (nodes : List RawNode) (begun : List ℕ) (name : List ℕ) → MayStart tree name → so_far nodes begun ≡ tree → IsLawfulSoFar (so_far nodes begun)
    → (new_nodes : List RawNode) (new_begun : List ℕ) → new_nodes ≡ nodes ++ (record { name = name; attrs = []; text = []; size = 0 }) ∷ [] → new_begun ≡ begun ++ length nodes ∷ []
    → IsLawfulSoFar (so_far new_nodes new_begun)
start_set tree nodes begun name may is h new_nodes new_begun at_nodes at_begun =
    let f = started_lawful tree name (subst (λ t. IsLawfulSoFar t) is h) may in
    let e : so_far new_nodes new_begun ≡ started name tree =
    ap (λ ns. so_far ns new_begun) at_nodes ∙ ap (λ ps. so_far (nodes ++ (record { name = name; attrs = []; text = []; size = 0 }) ∷ []) ps) at_begun ∙ ap (λ (t : TreeSoFar). started name t) is in
    subst (λ t. IsLawfulSoFar t) (sym e) f
