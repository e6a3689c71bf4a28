-- How far the pieces of a body have led, and what comes where they stop.
use Rattle.std.proofs.Common.{◌≡◌, ℕ, ◌-◌, ◌≤◌, List, [], ◌∷◌, ◌++◌, length, Some, None, refl, sym, ap, subst, ◌∙◌, inl, inr, arith}
use Rattle.std.specs.List.{AllByRecursion}
use Rattle.e57_base.specs.Fault.{fault}
use Rattle.e57_base.specs.declared.kind.Kind.TheVariants as kind
use Rattle.e57_pieces.specs.declared.piece.Piece.{Piece}
use Rattle.e57_pieces.specs.Cut.{NoPiece, IsNext, IsFront}
use Rattle.e57_pieces.proofs.Laws.Cut.{IsFront-nil, IsFront-push}
use Rattle.e57_elements.specs.declared.tree.RawNode.{RawNode}
use Rattle.e57_elements.specs.Limits.{max_elements}
use Rattle.e57_elements.specs.Tree.{Element, preorder}
use Rattle.e57_elements.specs.Nested.{Nested}
use Rattle.e57_elements.specs.Lawful.{IsLawfulNode}
use Rattle.e57_elements.specs.Fault.{AreSound, IsBodyFault}
use Rattle.e57_elements.specs.Machine.{Open, State, reading, done, step, run, state_nodes, passes_in}
use Rattle.e57_elements.specs.Builder.{ReadsBody}
use Rattle.e57_elements.proofs.Runs.{run-append, nested_runs}
use Rattle.e57_elements.proofs.Represents.{run_alive, alive_runs, runs_nested}
use Rattle.e57_elements.proofs.Counts.{Fits, FewAttrs, passes_is, fits_passes, few_after}
use Rattle.e57_elements.proofs.Characters.{piece_lawful}
use Rattle.e57_elements.proofs.Lawful.{IsLawfulState, lawful_step, lawful_start}

-- these pieces lead from the body to here, and the machine to this state
pub record Led (body here : List ℕ) : Type 0 where
  pub before : List Piece
  pub state : State
  pub is_front : IsFront body before here
  pub runs : run (Some (reading [])) before ≡ Some state
  pub is_lawful : IsLawfulState state
  pub few : length (state_nodes state) ≤ max_elements

unfoldable pub led_start : (body : List ℕ) → Led body body
led_start body = record { before = []; state = reading []; is_front = IsFront-nil body; runs = refl; is_lawful = lawful_start; few = omega arith }

-- ---- soundness

pub few_from : (nodes : List RawNode) → AllByRecursion IsLawfulNode nodes → AllByRecursion FewAttrs nodes
few_from [] h = tt
few_from (n ∷ ns) h = (h.0.few_attrs, few_from ns h.1)

state_fits : (s : State) → IsLawfulState s → length (state_nodes s) ≤ max_elements → Fits s
state_fits s h few = record { attrs = few_from (state_nodes s) h.nodes; depth = h.not_deep; count = few }

sound_from : (before : List Piece) (s : State) → run (Some (reading [])) before ≡ Some s → Fits s → AreSound before
sound_from before s e fits =
    record { alive = run_alive before s e; within = λ front back piece parts. fits_passes front back piece s (ap (run (Some (reading []))) (sym parts) ∙ e) fits }

led_sound : (body here : List ℕ) (l : Led body here) → AreSound l.before
led_sound body here l = sound_from l.before l.state l.runs (state_fits l.state l.is_lawful l.few)

-- ---- one piece on

pub one_more : (before : List Piece) (piece : Piece) (s : State) → run (Some (reading [])) before ≡ Some s → run (Some (reading [])) (before ++ piece ∷ []) ≡ step s piece
one_more before piece s e = run-append (Some (reading [])) before (piece ∷ []) ∙ ap (λ o. run o (piece ∷ [])) e

unfoldable pub led_next : (body here rest : List ℕ) (piece : Piece) (after : State) (l : Led body here) → IsNext here piece rest → step l.state piece ≡ Some after → passes_in l.state piece ≡ None → Led body rest
led_next body here rest piece after l next steps fits =
    record {
      before = l.before ++ piece ∷ [];
      state = after;
      is_front = IsFront-push l.before body here piece rest l.is_front next;
      runs = one_more l.before piece l.state l.runs ∙ steps;
      is_lawful = lawful_step l.state piece after steps l.is_lawful (piece_lawful next.spelling piece next.is_piece) fits;
      few = few_after l.state piece after steps fits l.few;
    }

-- ---- the faults

-- with the next piece the pieces begin no nested list
pub nest_fault : (len : ℕ) (body here rest : List ℕ) (piece : Piece) (l : Led body here) → IsNext here piece rest → step l.state piece ≡ None → IsBodyFault len body (fault kind.Nest (len - length here) 0)
nest_fault len body here rest piece l next dead =
    record {
      before = l.before;
      here = here;
      is_front = l.is_front;
      are_sound = led_sound body here l;
      is_fault = inl (piece, rest, next, inl ((λ alive. alive_runs (l.before ++ piece ∷ []) alive (one_more l.before piece l.state l.runs ∙ dead)), refl));
    }

-- the next piece passes a limit
pub limit_fault : (len : ℕ) (body here rest : List ℕ) (piece : Piece) (after : State) (b : ℕ) (l : Led body here) → IsNext here piece rest → step l.state piece ≡ Some after → passes_in l.state piece ≡ Some b
    → IsBodyFault len body (fault kind.TreeLimit (len - length here) b)
limit_fault len body here rest piece after b l next steps passed =
    record {
      before = l.before;
      here = here;
      is_front = l.is_front;
      are_sound = led_sound body here l;
      is_fault = inl (piece, rest, next, inr (run_alive (l.before ++ piece ∷ []) after (one_more l.before piece l.state l.runs ∙ steps), b, passes_is l.before l.state piece l.runs ∙ passed, refl));
    }

-- no piece is spelled where text is left
pub piece_fault : (len : ℕ) (body : List ℕ) (b : ℕ) (bs : List ℕ) → Led body (b ∷ bs) → NoPiece (b ∷ bs) → IsBodyFault len body (fault kind.Piece (len - length (b ∷ bs)) 0)
piece_fault len body b bs l none_here =
    record { before = l.before; here = b ∷ bs; is_front = l.is_front; are_sound = led_sound body (b ∷ bs) l; is_fault = inr (none_here, refl) }

-- the text ends before the root
pub end_fault : (len : ℕ) (body : List ℕ) (opens : List Open) (l : Led body []) → NoPiece [] → l.state ≡ reading opens → IsBodyFault len body (fault kind.Nest (len - length {A = ℕ} []) 0)
end_fault len body opens l none_here is =
    record {
      before = l.before;
      here = [];
      is_front = l.is_front;
      are_sound = led_sound body [] l;
      is_fault = inr (none_here, ((λ tree nested. no_tree tree nested), refl));
    } where
      no_tree : (tree : Element) → Nested l.before tree → ⊥
      no_tree tree nested = let g : Some (reading opens) ≡ Some (done tree) = ap Some (sym is) ∙ sym l.runs ∙ nested_runs l.before tree nested in cc

-- ---- the tree

pub end_tree : (body : List ℕ) (d : Element) (l : Led body []) → NoPiece [] → l.state ≡ done d → ReadsBody body (preorder d)
end_tree body d l none_here is =
    let lawful : IsLawfulState (done d) = subst IsLawfulState is l.is_lawful in
    record {
      tree = d;
      pieces = l.before;
      is_cut = record { is_front = l.is_front; is_longest = none_here };
      nested = runs_nested l.before d (l.runs ∙ ap Some is);
      in_preorder = refl;
      is_lawful = record { each = lawful.nodes; not_deep = lawful.not_deep; not_large = subst (λ s. length (state_nodes s) ≤ max_elements) is l.few };
    }
