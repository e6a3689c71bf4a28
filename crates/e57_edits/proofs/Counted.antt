-- How many nodes stay, counted from the last node on.
use Rattle.std.proofs.Common.{◌≡◌, ℕ, zero, suc, ◌+◌, ◌-◌, ◌^◌, ◌<◌, ◌≤◌, Bool, true, false, cond, List, [], ◌∷◌, ◌++◌, length, drop, get_or, Some, slice_get, set, replicate, length-drop, append_assoc, refl, sym, ap, subst, ◌∙◌, arith}
use Rattle.std.proofs.lemmas.List.{append-nil, drop-drop, get_or-drop, drop-set, drop-replicate}
use Rattle.std.proofs.lemmas.Option.{slice_get_within, get_or_from_slice_get}
use Rattle.e57_elements.specs.declared.tree.RawNode.{RawNode}
use Rattle.e57_tree.specs.Flat.{no_node, raw_at, end_of}
use Rattle.e57_elements.specs.Lawful.{AreNodes}
use Rattle.e57_edits.specs.declared.changes.Change.{Change}
use Rattle.e57_edits.specs.declared.changes.Change.TheVariants.{Keep}
use Rattle.e57_edits.specs.Changes.{first_change}
use Rattle.e57_edits.specs.Nodes.{count_at, is_left, count_before, remaining, size_left, node_left, edited_nodes}
use Rattle.e57_edits.proofs.Lists.{drop-here, drop-at, drop-all}

one_at_most : (b : Bool) → cond b 1 0 ≤ 1
one_at_most true = omega arith
one_at_most false = omega arith

pub remaining_first : (changes : List Change) (node : RawNode) (nodes : List RawNode)
    → remaining changes (node ∷ nodes) ≡ count_before (first_change changes) node (remaining (drop 1 changes) nodes) ∷ remaining (drop 1 changes) nodes
unfolding remaining
remaining_first changes node nodes = refl

pub remaining_none : (changes : List Change) → remaining changes [] ≡ 0 ∷ []
unfolding remaining
remaining_none changes = refl

-- at most all of them stay
pub remaining_few : (changes : List Change) (nodes : List RawNode) → count_at (remaining changes nodes) 0 ≤ length nodes
remaining_few changes [] = let e = ap (λ xs. count_at xs 0) (remaining_none changes) in omega arith
remaining_few changes (node ∷ nodes) =
    let later = remaining (drop 1 changes) nodes in
    let e = ap (λ xs. count_at xs 0) (remaining_first changes node nodes) in
    let few = remaining_few (drop 1 changes) nodes in
    let one = one_at_most (is_left (first_change changes) node later) in
    omega arith

-- those behind are the ones of fewer nodes
pub drop-remaining : (k : ℕ) (changes : List Change) (nodes : List RawNode) → k ≤ length nodes → drop k (remaining changes nodes) ≡ remaining (drop k changes) (drop k nodes)
drop-remaining zero changes nodes l = refl
drop-remaining (suc k) changes [] l = absurd (omega arith)
drop-remaining (suc k) changes (node ∷ nodes) l =
    ap (drop (suc k)) (remaining_first changes node nodes) ∙ drop-remaining k (drop 1 changes) nodes (omega arith) ∙ ap (λ cs. remaining cs (drop k nodes)) (drop_more changes)
  where
    drop_more : (cs : List Change) → drop k (drop 1 cs) ≡ drop (suc k) cs
    drop_more cs = drop-drop k 1 cs ∙ (let e : 1 + k ≡ suc k = omega arith in ap (λ i. drop i cs) e)

-- not more of them than from the first on
pub remaining_falls : (k : ℕ) (changes : List Change) (nodes : List RawNode) → count_at (remaining changes nodes) k ≤ count_at (remaining changes nodes) 0
remaining_falls zero changes nodes = omega arith
remaining_falls (suc k) changes [] = let e = ap (λ xs. count_at xs (suc k)) (remaining_none changes) in omega arith
remaining_falls (suc k) changes (node ∷ nodes) =
    let later = remaining (drop 1 changes) nodes in
    let first = ap (λ xs. count_at xs 0) (remaining_first changes node nodes) in
    let next = ap (λ xs. count_at xs (suc k)) (remaining_first changes node nodes) in
    let falls = remaining_falls k (drop 1 changes) nodes in
    omega arith

pub length-remaining : (changes : List Change) (nodes : List RawNode) → length (remaining changes nodes) ≡ length nodes + 1
length-remaining changes [] = ap length (remaining_none changes)
length-remaining changes (node ∷ nodes) =
    let e = ap length (remaining_first changes node nodes) in
    let later = length-remaining (drop 1 changes) nodes in
    omega arith

-- ---- the count of one node more, from the last one on

pub change_at : (changes : List Change) (n : ℕ) → first_change (drop n changes) ≡ get_or changes n Keep
change_at changes n = let plain : n + 0 ≡ n = omega arith in get_or-drop n changes 0 Keep ∙ ap (λ k. get_or changes k Keep) plain

raw_first : (nodes : List RawNode) (n : ℕ) → n < length nodes → drop n nodes ≡ raw_at nodes n ∷ drop (n + 1) nodes
raw_first nodes n l = drop-at nodes n no_node l

pub counts_all : (changes : List Change) (nodes : List RawNode) (counts : List ℕ) (count : ℕ) → count ≡ length nodes → counts ≡ replicate (count + 1) 0 → drop count counts ≡ remaining (drop count changes) (drop count nodes)
counts_all changes nodes counts count all zeros =
    let few : length nodes ≤ count = omega arith in
    let one : count + 1 - count ≡ 1 = omega arith in
    ap (drop count) zeros ∙ drop-replicate count (count + 1) 0 ∙ ap (λ k. replicate k 0) one
    ∙ sym (ap (remaining (drop count changes)) (drop-all nodes count few) ∙ remaining_none (drop count changes))

pub counts_one_more : (changes : List Change) (nodes : List RawNode) (counts : List ℕ) (n next count : ℕ) (change : Change) → next ≡ n + 1 → n < length nodes → length counts ≡ length nodes + 1 → change ≡ get_or changes n Keep
    → count ≡ count_before change (raw_at nodes n) (drop (n + 1) counts) → drop next counts ≡ remaining (drop next changes) (drop next nodes)
    → drop n (set counts n count) ≡ remaining (drop n changes) (drop n nodes)
counts_one_more changes nodes counts n next count change after low all is counted h =
    let same : drop (n + 1) counts ≡ remaining (drop (n + 1) changes) (drop (n + 1) nodes) = subst (λ k. drop k counts ≡ remaining (drop k changes) (drop k nodes)) after h in
    let fewer : drop 1 (drop n changes) ≡ drop (n + 1) changes = drop-drop 1 n changes in
    drop-set counts n count (omega arith)
    ∙ ap (λ k. k ∷ drop (n + 1) counts) (counted ∙ ap (λ c. count_before c (raw_at nodes n) (drop (n + 1) counts)) (is ∙ sym (change_at changes n)))
    ∙ ap (λ later. count_before (first_change (drop n changes)) (raw_at nodes n) later ∷ later) (same ∙ ap (λ cs. remaining cs (drop (n + 1) nodes)) (sym fewer))
    ∙ sym (ap (remaining (drop n changes)) (raw_first nodes n low) ∙ remaining_first (drop n changes) (raw_at nodes n) (drop (n + 1) nodes))

pub count_few : (changes : List Change) (nodes : List RawNode) (counts : List ℕ) (n next : ℕ) → next ≡ n → drop next counts ≡ remaining (drop next changes) (drop next nodes) → get_or counts n 0 ≤ length nodes
count_few changes nodes counts n next at h =
    let plain : n + 0 ≡ n = omega arith in
    let same : drop n counts ≡ remaining (drop n changes) (drop n nodes) = subst (λ k. drop k counts ≡ remaining (drop k changes) (drop k nodes)) at h in
    let read : get_or counts n 0 ≡ count_at (remaining (drop n changes) (drop n nodes)) 0 = sym (get_or-drop n counts 0 0 ∙ ap (λ k. get_or counts k 0) plain) ∙ ap (λ xs. count_at xs 0) same in
    let few = remaining_few (drop n changes) (drop n nodes) in
    let fewer = length-drop n nodes in
    omega arith

-- ---- the nodes that stay, one after another

pub edited_first : (changes : List Change) (node : RawNode) (nodes : List RawNode)
    → edited_nodes changes (node ∷ nodes) ≡ node_left (first_change changes) node (size_left changes node nodes) ++ edited_nodes (drop 1 changes) nodes
unfolding edited_nodes
edited_first changes node nodes = refl

pub edited_none : (changes : List Change) → edited_nodes changes [] ≡ []
unfolding edited_nodes
edited_none changes = refl

count_here : (changes : List Change) (nodes : List RawNode) (n k : ℕ) → n ≤ length nodes → count_at (remaining (drop n changes) (drop n nodes)) k ≡ count_at (remaining changes nodes) (n + k)
count_here changes nodes n k l = ap (λ xs. count_at xs k) (sym (drop-remaining n changes nodes l)) ∙ get_or-drop n (remaining changes nodes) k 0

pub nodes_go_on : (changes : List Change) (nodes now whole : List RawNode) (counts : List ℕ) (n end size : ℕ) (node : RawNode) (change : Change) → slice_get nodes n ≡ Some node → change ≡ get_or changes n Keep
    → counts ≡ remaining changes nodes → end ≡ n + node.size → size ≡ get_or counts n 0 - get_or counts end 0
    → now ++ edited_nodes (drop n changes) (drop n nodes) ≡ whole → (now ++ node_left change node size) ++ edited_nodes (drop (n + 1) changes) (drop (n + 1) nodes) ≡ whole
nodes_go_on changes nodes now whole counts n end size node change found is are ends sized h =
    let rest = drop (n + 1) nodes in
    let here : drop n nodes ≡ node ∷ rest = drop-here nodes n node found in
    let within = slice_get_within nodes n node found in
    let plain : n + 0 ≡ n = omega arith in
    let fewer : drop 1 (drop n changes) ≡ drop (n + 1) changes = drop-drop 1 n changes in
    let first : count_at (remaining (drop n changes) (node ∷ rest)) 0 ≡ get_or counts n 0 =
    ap (λ ns. count_at (remaining (drop n changes) ns) 0) (sym here) ∙ count_here changes nodes n 0 (omega arith) ∙ ap (λ k. get_or (remaining changes nodes) k 0) plain ∙ ap (λ xs. get_or xs n 0) (sym are) in
    let last : count_at (remaining (drop n changes) (node ∷ rest)) node.size ≡ get_or counts end 0 =
    ap (λ ns. count_at (remaining (drop n changes) ns) node.size) (sym here) ∙ count_here changes nodes n node.size (omega arith) ∙ ap (λ k. get_or (remaining changes nodes) k 0) (sym ends) ∙ ap (λ xs. get_or xs end 0) (sym are) in
    let same : size ≡ size_left (drop n changes) node rest = sized ∙ sym (ap (λ k. k - count_at (remaining (drop n changes) (node ∷ rest)) node.size) first ∙ ap (λ k. get_or counts n 0 - k) last) in
    append_assoc now (node_left change node size) (edited_nodes (drop (n + 1) changes) rest)
    ∙ ap (λ k. now ++ (node_left change node k ++ edited_nodes (drop (n + 1) changes) rest)) same
    ∙ ap (λ c. now ++ (node_left c node (size_left (drop n changes) node rest) ++ edited_nodes (drop (n + 1) changes) rest)) (is ∙ sym (change_at changes n))
    ∙ ap (λ cs. now ++ (node_left (first_change (drop n changes)) node (size_left (drop n changes) node rest) ++ edited_nodes cs rest)) (sym fewer)
    ∙ ap (λ xs. now ++ xs) (sym (ap (edited_nodes (drop n changes)) here ∙ edited_first (drop n changes) node rest)) ∙ h

pub nodes_end : (changes : List Change) (nodes now whole : List RawNode) (n : ℕ) → length nodes ≤ n → now ++ edited_nodes (drop n changes) (drop n nodes) ≡ whole → now ≡ whole
nodes_end changes nodes now whole n l h = sym (append-nil now) ∙ ap (λ xs. now ++ xs) (sym (ap (edited_nodes (drop n changes)) (drop-all nodes n l) ∙ edited_none (drop n changes))) ∙ h

-- a size
pub size_fits : (changes : List Change) (nodes : List RawNode) (counts : List ℕ) (n : ℕ) → counts ≡ remaining changes nodes → get_or counts n 0 ≤ length nodes
size_fits changes nodes counts n are =
    let same = ap (λ xs. get_or xs n 0) are in
    let falls = remaining_falls n changes nodes in
    let few = remaining_few changes nodes in
    omega arith

-- from a later node on not more of them
pub later_fewer : (changes : List Change) (nodes : List RawNode) (counts : List ℕ) (n end : ℕ) → counts ≡ remaining changes nodes → n ≤ end → n ≤ length nodes → get_or counts end 0 ≤ get_or counts n 0
later_fewer changes nodes counts n end are after within =
    let first = ap (λ xs. get_or xs n 0) are in
    let last = ap (λ xs. get_or xs end 0) are in
    let plain : n + 0 ≡ n = omega arith in
    let apart : n + (end - n) ≡ end = omega arith in
    let low = count_here changes nodes n 0 within ∙ ap (λ k. get_or (remaining changes nodes) k 0) plain in
    let high = count_here changes nodes n (end - n) within ∙ ap (λ k. get_or (remaining changes nodes) k 0) apart in
    let falls = remaining_falls (end - n) (drop n changes) (drop n nodes) in
    omega arith

-- ---- of a tree

pub few_nodes : (nodes : List RawNode) → AreNodes nodes → length nodes ≤ 2 ^ 20
few_nodes nodes h = let e = ap length h.in_preorder in omega (arith, h.is_lawful.not_large)

pub ends_at : (nodes : List RawNode) (n : ℕ) (node : RawNode) → slice_get nodes n ≡ Some node → end_of nodes n ≡ n + node.size
ends_at nodes n node found = ap (λ (x : RawNode). n + x.size) (get_or_from_slice_get nodes n node no_node found)
