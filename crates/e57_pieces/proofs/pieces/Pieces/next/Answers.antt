use Rattle.std.proofs.Common.{List, ℕ, Some, ap, subst}
use Rattle.std.specs.Str.{IsUtf8}
use Rattle.e57_pieces.specs.declared.piece.Piece.{Piece}
use Rattle.e57_pieces.specs.Cut.{IsNext, NoPiece}
use Rattle.e57_pieces.proofs.Laws.Next.{one_next, next_is, none_next}
use Rattle.e57_pieces.proofs.pieces.Pieces.next.Goals as goal

pub returns-in-Ok-clause-only : goal.returns-in-Ok-clause-only
returns-in-Ok-clause-only c = λ piece rest is.
    let utf8 : IsUtf8 c.args.self.now = subst (λ (t : List ℕ). IsUtf8 t) c.self.view_is c.self.invariant.utf8 in
    let here : IsNext c.args.self.now c.in-Ok.found c.in-Ok.text.now = subst (λ (t : List ℕ). IsNext t c.in-Ok.found c.in-Ok.text.now) c.self.view_is c.in-Ok.ensures.0 in
    let same = one_next c.args.self.now c.in-Ok.found piece c.in-Ok.text.now rest utf8 here is in
    (ap (λ (p : Piece). Some p) same.0, same.1)

pub returns-in-Ok-clause-exact : goal.returns-in-Ok-clause-exact
returns-in-Ok-clause-exact c =
    let utf8 : IsUtf8 c.args.self.now = subst (λ (t : List ℕ). IsUtf8 t) c.self.view_is c.self.invariant.utf8 in
    let here : IsNext c.args.self.now c.in-Ok.found c.in-Ok.text.now = subst (λ (t : List ℕ). IsNext t c.in-Ok.found c.in-Ok.text.now) c.self.view_is c.in-Ok.ensures.0 in
    next_is c.args.self.now c.in-Ok.found c.in-Ok.text.now utf8 here

pub returns-in-Err-Absent-clause-exact : goal.returns-in-Err-Absent-clause-exact
returns-in-Err-Absent-clause-exact c =
    let utf8 : IsUtf8 c.args.self.now = subst (λ (t : List ℕ). IsUtf8 t) c.self.view_is c.self.invariant.utf8 in
    none_next c.args.self.now utf8 (subst (λ (t : List ℕ). NoPiece t) c.self.view_is (rw c.in-Err-Absent.field-0-is at c.in-Err-Absent.ensures))
