-- How far the reading of a body has come.
use Rattle.std.proofs.Common.{◌≡◌, ℕ, ◌-◌, ◌<◌, ◌≤◌, Bool, true, false, List, [], ◌∷◌, length, Option, Some, None, MatchOption, IfNone, OnSome, Result, Ok, Err, IfOk, IfErr, eqb, refl, sym, ap, subst, ◌∙◌, inl, inr, length-append, arith}
use Rattle.std.proofs.lemmas.Bool.{ne_eqb}
use Rattle.e57_base.specs.Fault.{fault}
use Rattle.e57_base.specs.declared.fault.TextFault.{TextFault}
use Rattle.e57_base.specs.declared.fault.TextFault.TheVariants as failure
use Rattle.e57_base.specs.declared.kind.Kind.TheVariants as kind
use Rattle.e57_pieces.specs.declared.piece.Piece.{Piece}
use Rattle.e57_pieces.specs.Cut.{NoPiece, IsNext}
use Rattle.e57_pieces.specs.Start.{Begins}
use Rattle.e57_pieces.proofs.Laws.Start.{after_mark_le}
use Rattle.e57_elements.specs.declared.tree.RawNode.{RawNode}
use Rattle.e57_elements.specs.declared.builder.Builder.{Builder}
use Rattle.e57_elements.specs.declared.builder.TakeFault.{TakeFault}
use Rattle.e57_elements.specs.declared.builder.TakeFault.TheVariants.{Nest, Limit, Memory}
use Rattle.e57_elements.specs.Machine.{State, reading, done}
use Rattle.e57_elements.specs.Builder.{Keeps, Takes, take_fault, ReadsBody, IsBodyFailure, Ends}
use Rattle.e57_elements.proofs.Led.{Led, led_start, led_next, nest_fault, limit_fault, piece_fault, end_fault, end_tree}

-- pieces lead from the body to here, and the builder is in the state to which they led
pub record Reached (body here : List ℕ) (builder : Builder) : Type 0 where
  pub led : Led body here
  pub keeps : Keeps builder led.state

pub reached_start : (body : List ℕ) (builder : Builder) → Keeps builder (reading []) → Reached body body builder
unfolding led_start
reached_start body builder h = record { led = led_start body; keeps = h }

pub reached_next : (body here rest : List ℕ) (piece : Piece) (old new : Builder) → Reached body here old → IsNext here piece rest
    → ((s : State) → Keeps old s → Takes {T = Unit {0}} s piece (Ok tt) new) → Reached body rest new
unfolding led_next
reached_next body here rest piece old new r next takes =
    let (after, steps, fits, keeps) = takes r.led.state r.keeps in
    record { led = led_next body here rest piece after r.led next steps fits; keeps = keeps }

-- ---- the ends

pub not_taken : (body here rest : List ℕ) (piece : Piece) (old new : Builder) (fault : TakeFault) (len : ℕ) → Reached body here old → IsNext here piece rest
    → ((s : State) → Keeps old s → Takes {T = Unit {0}} s piece (Err fault) new) → IsBodyFailure len body (take_fault fault (len - length here))
not_taken body here rest piece old new Nest len r next takes = nest_fault len body here rest piece r.led next (takes r.led.state r.keeps)
not_taken body here rest piece old new (Limit b) len r next takes =
    let (after, steps, passed) = takes r.led.state r.keeps in limit_fault len body here rest piece after b r.led next steps passed
not_taken body here rest piece old new Memory len r next takes = tt

-- no piece is spelled here
abbrev pub IsAnswered : ℕ → List ℕ → Result (List RawNode) TextFault → Type 0
IsAnswered len body result = IfOk result (λ nodes. ReadsBody body nodes) × IfErr result (λ failure. IsBodyFailure len body failure)

answered_at_end : (body : List ℕ) (len : ℕ) (result : Result (List RawNode) TextFault) (l : Led body []) → NoPiece [] → (s : State) → l.state ≡ s → Ends s true (len - 0) result → IsAnswered len body result
answered_at_end body len result l none_here (reading opens) is ends =
    subst (IsAnswered len body) (sym ends) (tt, end_fault len body opens l none_here is)
answered_at_end body len result l none_here (done d) is ends =
    subst (IsAnswered len body) (sym ends) (end_tree body d l none_here is, tt)

pub answered : (body here : List ℕ) (builder : Builder) (len : ℕ) (result : Result (List RawNode) TextFault) → Reached body here builder → NoPiece here
    → ((s : State) → Keeps builder s → Ends s (eqb (length here) 0) (len - length here) result) → IsAnswered len body result
answered body [] builder len result r none_here ends = answered_at_end body len result r.led none_here r.led.state refl (ends r.led.state r.keeps)
answered body (b ∷ bs) builder len result r none_here ends =
    let e : Ends r.led.state false (len - length (b ∷ bs)) result = subst (λ t. Ends r.led.state t (len - length (b ∷ bs)) result) (ne_eqb (length (b ∷ bs)) 0 (λ z. omega arith)) (ends r.led.state r.keeps) in
    subst (IsAnswered len body) (sym (stopped r.led.state (len - length (b ∷ bs)) result e)) (tt, piece_fault len body b bs r.led none_here) where
      stopped : (s : State) (byte : ℕ) (result : Result (List RawNode) TextFault) → Ends s false byte result → result ≡ Err (failure.Refused (fault kind.Piece byte 0))
      stopped s byte result e = e

-- what the end says, in the words of the body
pub told : (here left : List ℕ) (builder : Builder) (len k : ℕ) (at_end : Bool) (result : Result (List RawNode) TextFault) → at_end ≡ eqb (length left) 0 → left ≡ here → k ≡ length here
    → ((s : State) → Keeps builder s → Ends s at_end (len - k) result) → (s : State) → Keeps builder s → Ends s (eqb (length here) 0) (len - length here) result
told here left builder len k at_end result is_end same is_len ends s h =
    subst (λ n. Ends s (eqb (length here) 0) (len - n) result) is_len (subst (λ t. Ends s t (len - k) result) (is_end ∙ ap (λ (l : List ℕ). eqb (length l) 0) same) (ends s h))

pub body_shorter : (text body : List ℕ) → Begins text body → length body ≤ length text
body_shorter text body (inl (none_declared, same)) = let h = ap length same in let m = after_mark_le text in omega arith
body_shorter text body (inr (declared, spelling, is_declaration, parts)) =
    let h = ap length parts in
    let l = length-append spelling body in
    let m = after_mark_le text in
    omega arith

-- ---- what `next` said

pub none_next : (found : Option Piece) (here new : List ℕ) → found ≡ None → MatchOption found (NoPiece here) (λ piece. IsNext here piece new) → NoPiece here
none_next None here new e h = h
none_next (Some x) here new e h = cc

pub some_next : (found : Option Piece) (piece : Piece) (here new : List ℕ) → found ≡ Some piece → MatchOption found (NoPiece here) (λ x. IsNext here x new) → IsNext here piece new
some_next None piece here new e h = cc
some_next (Some x) piece here new e h = let same : x ≡ piece = cc in subst (λ y. IsNext here y new) same h

pub none_same : (found : Option Piece) (here new : List ℕ) → found ≡ None → IfNone found (new ≡ here) → new ≡ here
none_same None here new e h = h
none_same (Some x) here new e h = cc

pub some_shorter : (found : Option Piece) (piece : Piece) (here new : List ℕ) → found ≡ Some piece → OnSome found (length new < length here) → length new < length here
some_shorter None piece here new e h = cc
some_shorter (Some x) piece here new e h = h
