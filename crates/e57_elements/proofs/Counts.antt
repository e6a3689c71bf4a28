-- The counts of the pieces are those of the machine's state; and what a tree within the limits says of the states before it.
use Rattle.std.proofs.Common.{◌≡◌, ℕ, ◌+◌, ◌^◌, ◌≤◌, max, List, [], ◌∷◌, ◌++◌, length, Option, Some, None, refl, sym, ap, subst, ◌∙◌, length-append, arith}
use Rattle.std.specs.List.{AllByRecursion}
use Rattle.e57_pieces.specs.declared.piece.Piece.{Piece}
use Rattle.e57_pieces.specs.declared.piece.Piece.TheVariants.{Start, Empty, End, Comment, CData, Text}
use Rattle.e57_elements.specs.declared.tree.RawNode.{RawNode}
use Rattle.e57_elements.specs.Limits.{max_elements}
use Rattle.e57_elements.specs.Tree.{Element, element, Elements, none, more, preorder, preorder_all, depth, depth_all}
use Rattle.e57_elements.specs.Fault.{begun, opened, closed, total, open_after, limit, passes}
use Rattle.e57_elements.specs.Machine.{Open, State, reading, done, join, begin, ended, put, step, run, open_node, nodes_of, state_nodes, state_depth, passes_in}
use Rattle.e57_elements.proofs.Within.{limit_none, limit_within}
use Rattle.e57_elements.proofs.Nodes.{put_nodes}
use Rattle.e57_elements.proofs.Runs.{run-append, run-none}
use Rattle.e57_elements.proofs.Lists.{all-parts}
use Rattle.e57_elements.proofs.Steps.{Steps, by_steps}
use Rattle.e57_base.proofs.Lists.{all_append}

put_depth : (e : Element) (opens : List Open) → state_depth (put e opens) ≡ length opens
put_depth e [] = refl
put_depth e (top ∷ outer) = refl

put_count : (e : Element) (opens : List Open) → length (state_nodes (put e opens)) ≡ length (nodes_of opens) + length (preorder e)
put_count e opens = ap length (put_nodes e opens) ∙ length-append (nodes_of opens) (preorder e)

-- ---- counts

record Counts (s : State) (x : Piece) (t : State) : Type 0 where
  depths : opened x + state_depth s ≡ closed x + state_depth t
  nodes : begun x + length (state_nodes s) ≡ length (state_nodes t)

counts : Steps Counts
counts = record {
  start = λ opens name attrs. record { depths = omega arith; nodes = (let l = length-append (nodes_of opens) (open_node (begin name attrs) ∷ []) in omega arith) };
  empty = λ opens name attrs. record { depths = (let d = put_depth (element name attrs [] none) opens in omega arith); nodes = (let n = put_count (element name attrs [] none) opens in omega arith) };
  end = λ top outer. record {
    depths = (let d = put_depth (ended top) outer in omega arith);
    nodes = (let n = put_count (ended top) outer in let l = length-append (nodes_of outer) (open_node top ∷ preorder_all top.children) in omega arith);
  };
  comment = λ s. record { depths = refl; nodes = omega arith };
  cdata = λ text top outer. record { depths = refl; nodes = omega arith };
  run = λ text top outer. record { depths = refl; nodes = omega arith };
  space_before = λ text h. record { depths = refl; nodes = omega arith };
  space_after = λ text e h. record { depths = refl; nodes = omega arith };
}

grown : (s : State) (x : Piece) (t : State) → step s x ≡ Some t → begun x + length (state_nodes s) ≡ length (state_nodes t)
grown s x t e = (by_steps Counts counts s x t e).nodes

-- a piece that passes no limit leads to no more elements than there may be
pub few_after : (s : State) (x : Piece) (t : State) → step s x ≡ Some t → passes_in s x ≡ None → length (state_nodes s) ≤ max_elements → length (state_nodes t) ≤ max_elements
few_after s (Start name attrs) t e fits few =
    let g = grown s (Start name attrs) t e in
    let w = (limit_within (length attrs) (state_depth s + 1) (length (state_nodes s) + 1) fits).place in
    omega arith
few_after s (Empty name attrs) t e fits few =
    let g = grown s (Empty name attrs) t e in
    let w = (limit_within (length attrs) (state_depth s + 1) (length (state_nodes s) + 1) fits).place in
    omega arith
few_after s (End name) t e fits few = let g = grown s (End name) t e in omega arith
few_after s Comment t e fits few = let g = grown s Comment t e in omega arith
few_after s (CData text) t e fits few = let g = grown s (CData text) t e in omega arith
few_after s (Text text) t e fits few = let g = grown s (Text text) t e in omega arith

-- over a run
record Counted (s : State) (xs : List Piece) (t : State) : Type 0 where
  depths : total opened xs + state_depth s ≡ total closed xs + state_depth t
  nodes : total begun xs + length (state_nodes s) ≡ length (state_nodes t)

-- a run of one piece more
pub run_one : (x : Piece) (xs : List Piece) (s t : State) → run (Some s) (x ∷ xs) ≡ Some t → (u : State) × (step s x ≡ Some u) × (run (Some u) xs ≡ Some t)
run_one x xs s t e = go (step s x) refl e where
  go : (o : Option State) → step s x ≡ o → run o xs ≡ Some t → (u : State) × (step s x ≡ Some u) × (run (Some u) xs ≡ Some t)
  go None eq r = absurd (let f : None ≡ Some t = sym (run-none xs) ∙ r in cc)
  go (Some u) eq r = (u, eq, r)

counted : (xs : List Piece) (s t : State) → run (Some s) xs ≡ Some t → Counted s xs t
counted [] s t e =
    let same : s ≡ t = cc in
    record { depths = (let f = ap state_depth same in omega arith); nodes = (let f = ap (λ u. length (state_nodes u)) same in omega arith) }
counted (x ∷ xs) s t e =
    let (u, first, rest) = run_one x xs s t e in
    let a = by_steps Counts counts s x u first in
    let b = counted xs u t rest in
    record { depths = (let p = a.depths in let q = b.depths in omega arith); nodes = (let p = a.nodes in let q = b.nodes in omega arith) }

tag_is : (before : List Piece) (s : State) (attrs : ℕ) → run (Some (reading [])) before ≡ Some s
    → limit attrs (open_after before + 1) (total begun before + 1) ≡ limit attrs (state_depth s + 1) (length (state_nodes s) + 1)
tag_is before s attrs e =
    let c = counted before (reading []) s e in
    let d : open_after before ≡ state_depth s = (let p = c.depths in omega arith) in
    let n : total begun before ≡ length (state_nodes s) = (let p = c.nodes in omega arith) in
    ap (λ k. limit attrs (k + 1) (total begun before + 1)) d ∙ ap (λ k. limit attrs (state_depth s + 1) (k + 1)) n

-- the limits as the pieces say them are those of the state
pub passes_is : (before : List Piece) (s : State) (piece : Piece) → run (Some (reading [])) before ≡ Some s → passes before piece ≡ passes_in s piece
passes_is before s (Start name attrs) e = tag_is before s (length attrs) e
passes_is before s (Empty name attrs) e = tag_is before s (length attrs) e
passes_is before s (End name) e = refl
passes_is before s Comment e = refl
passes_is before s (CData text) e = refl
passes_is before s (Text text) e = refl

-- ---- within the limits

-- how deep the elements of a state reach
abbrev pub peaks : List Open → ℕ
peaks [] = 0
peaks (top ∷ outer) = max (peaks outer) (length outer + 1 + depth_all top.children)

abbrev pub peak : State → ℕ
peak (reading opens) = peaks opens
peak (done e) = depth e

depth_all-join : (ds es : Elements) → depth_all (join ds es) ≡ max (depth_all ds) (depth_all es)
depth_all-join none es = omega arith
depth_all-join (more d ds) es = let h = depth_all-join ds es in omega arith

pub put_peak : (e : Element) (opens : List Open) → peak (put e opens) ≡ max (peaks opens) (length opens + depth e)
put_peak e [] = omega arith
put_peak e (top ∷ outer) = let h = depth_all-join top.children (more e none) in omega arith

abbrev pub FewAttrs : RawNode → Type 0
FewAttrs node = length node.attrs ≤ 64

pub record Fits (s : State) : Type 0 where
  pub attrs : AllByRecursion FewAttrs (state_nodes s)
  pub depth : peak s ≤ 64
  pub count : length (state_nodes s) ≤ 2 ^ 20

-- where the state after a piece fits, so does the one before, and the piece passes no limit
record Fitted (s : State) (x : Piece) (t : State) : Type 0 where
  back : Fits t → Fits s × (passes_in s x ≡ None)

put_fits : (e : Element) (opens : List Open) → Fits (put e opens) → AllByRecursion FewAttrs (nodes_of opens) × AllByRecursion FewAttrs (preorder e)
put_fits e opens f = all-parts FewAttrs (nodes_of opens) (preorder e) (subst (λ ns. AllByRecursion FewAttrs ns) (put_nodes e opens) f.attrs)

fitted : Steps Fitted
fitted = record {
  start = λ opens name attrs. record {
    back = λ f.
        let parts = all-parts FewAttrs (nodes_of opens) (open_node (begin name attrs) ∷ []) f.attrs in
        let d = f.depth in
        let n = f.count in
        let l = length-append (nodes_of opens) (open_node (begin name attrs) ∷ []) in
        (record { attrs = parts.0; depth = omega arith; count = omega arith }, limit_none (length attrs) (length opens + 1) (length (nodes_of opens) + 1) parts.1.0 (omega arith) (omega arith));
  };
  empty = λ opens name attrs. record {
    back = λ f.
        let e : Element = element name attrs [] none in
        let parts = put_fits e opens f in
        let d = f.depth in
        let p = put_peak e opens in
        let n = f.count in
        let l = put_count e opens in
        (record { attrs = parts.0; depth = omega arith; count = omega arith }, limit_none (length attrs) (length opens + 1) (length (nodes_of opens) + 1) parts.1.0 (omega arith) (omega arith));
  };
  end = λ top outer. record {
    back = λ f.
        let parts = put_fits (ended top) outer f in
        let d = f.depth in
        let p = put_peak (ended top) outer in
        let n = f.count in
        let l = put_count (ended top) outer in
        let m = length-append (nodes_of outer) (open_node top ∷ preorder_all top.children) in
        (record { attrs = all_append FewAttrs (nodes_of outer) (open_node top ∷ preorder_all top.children) parts.0 parts.1; depth = omega arith; count = omega arith }, refl);
  };
  comment = λ s. record { back = λ f. (f, refl) };
  cdata = λ text top outer. record { back = λ f. (record { attrs = f.attrs; depth = f.depth; count = f.count }, refl) };
  run = λ text top outer. record { back = λ f. (record { attrs = f.attrs; depth = f.depth; count = f.count }, refl) };
  space_before = λ text h. record { back = λ f. (f, refl) };
  space_after = λ text e h. record { back = λ f. (f, refl) };
}

pub run_fits : (xs : List Piece) (s t : State) → run (Some s) xs ≡ Some t → Fits t → Fits s
run_fits [] s t e f = let same : t ≡ s = cc in subst Fits same f
run_fits (x ∷ xs) s t e f =
    let (u, first, rest) = run_one x xs s t e in
    ((by_steps Fitted fitted s x u first).back (run_fits xs u t rest f)).0

-- no piece on the way to a state that fits passes a limit
pub fits_passes : (before after : List Piece) (piece : Piece) (t : State) → run (Some (reading [])) (before ++ piece ∷ after) ≡ Some t → Fits t → passes before piece ≡ None
fits_passes before after piece t e f = go (run (Some (reading [])) before) refl (sym (run-append (Some (reading [])) before (piece ∷ after)) ∙ e) where
  go : (o : Option State) → run (Some (reading [])) before ≡ o → run o (piece ∷ after) ≡ Some t → passes before piece ≡ None
  go None eq r = absurd (let g : None ≡ Some t = sym (run-none after) ∙ r in cc)
  go (Some s) eq r =
      let (u, first, rest) = run_one piece after s t r in
      passes_is before s piece eq ∙ ((by_steps Fitted fitted s piece u first).back (run_fits after u t rest f)).1
