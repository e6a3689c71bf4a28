-- What a piece or a declaration that is read at the front of the clean part says of the whole text.
use Rattle.std.proofs.Common.{◌≡◌, ℕ, ◌+◌, ◌-◌, ◌≤◌, true, false, List, ◌++◌, length, take, drop, Some, Result, Ok, Err, MatchResult, inl, inr, refl, sym, ap, subst, ◌∙◌, arith, append_assoc}
use Rattle.std.specs.Str.{IsUtf8}
use Rattle.std.specs.Result.{IsErrAnd}
use denote.Ref.{Bor}
use Rattle.std.proofs.lemmas.List.{take-append-drop, length-append, length-take-le, take_at, drop_at}
use Rattle.e57_pieces.specs.declared.piece.Piece.{Piece}
use Rattle.e57_pieces.specs.declared.stop.Stop.{Stop}
use Rattle.e57_pieces.specs.declared.stop.Stop.TheVariants.{Memory, Absent}
use Rattle.e57_pieces.specs.Characters.{IsClean, clean_len}
use Rattle.e57_pieces.specs.Cut.{NoPiece, IsNext}
use Rattle.e57_pieces.specs.Start.{after_mark, declares, Begins}
use Rattle.e57_pieces.specs.Reading.{piece_at, declaration_at, IsCleanAt}
use Rattle.e57_pieces.specs.Gives.{Stops, StopsNext, DeclaredBefore, DeclaredClean, StopsDeclaration, StopsStart}
use Rattle.e57_pieces.proofs.Laws.Characters.{IsUtf8-after, IsClean-clean_len, clean_len_le}
use Rattle.e57_pieces.proofs.Laws.Next.{next_read, none_told, IsUtf8-next}
use Rattle.e57_pieces.proofs.Laws.Start.{declaration_read, declaration_none, IsUtf8-after_mark}

whole : (text : List ℕ) (n : ℕ) → take n text ++ drop n text ≡ text
whole text n = take-append-drop n text

-- what is left of the text after a spelling
left_is : (text front back spelling rest : List ℕ) (k : ℕ) → front ++ back ≡ text → front ≡ spelling ++ rest → k + length rest ≡ length front → drop k text ≡ rest ++ back
left_is text front back spelling rest k e f g =
    let at : text ≡ spelling ++ (rest ++ back) = sym e ∙ ap (λ (t : List ℕ). t ++ back) f ∙ append_assoc spelling rest back in
    let long : length spelling ≡ k = omega (arith, ap (λ (t : List ℕ). length t) f, length-append spelling rest, g) in
    ap (drop k) at ∙ drop_at spelling (rest ++ back) k long

clean_left : (rest back : List ℕ) → IsUtf8 (rest ++ back) → IsClean rest back → IsCleanAt (rest ++ back) (length rest)
clean_left rest back utf8 is_clean = record {
  utf8 = utf8;
  within = omega (arith, length-append rest back);
  clean = subst (λ (t : List ℕ). IsClean t (drop (length rest) (rest ++ back))) (sym (take_at rest back (length rest) refl)) (subst (λ (t : List ℕ). IsClean rest t) (sym (drop_at rest back (length rest) refl)) is_clean);
}

pub record NextFound (text : List ℕ) (n : ℕ) (x : Piece × List ℕ) : Type 0 where
  pub short : length x.1 ≤ n
  pub next : IsNext text x.0 (drop (n - length x.1) text) × IsCleanAt (drop (n - length x.1) text) (length x.1)

pub next_found : (text : List ℕ) (n : ℕ) (x : Piece × List ℕ) → IsCleanAt text n → piece_at (take n text) ≡ Some x → NextFound text n x
next_found text n x is e =
    let read = next_read (take n text) (drop n text) x is.clean e in
    let long : length (take n text) ≡ n = length-take-le n text is.within in
    let short : length x.1 ≤ n = omega (arith, long, ap (λ (t : List ℕ). length t) read.front_parts, length-append read.is_next.spelling x.1) in
    let left = left_is text (take n text) (drop n text) read.is_next.spelling x.1 (n - length x.1) (whole text n) read.front_parts (omega (arith, long, short)) in
    let next : IsNext text x.0 (x.1 ++ drop n text) = subst (λ (t : List ℕ). IsNext t x.0 (x.1 ++ drop n text)) (whole text n) read.is_next in
    let clean_rest = clean_left x.1 (drop n text) (IsUtf8-next text x.0 (x.1 ++ drop n text) is.utf8 next) read.clean_rest in
    record {
      short = short;
      next = (subst (λ (t : List ℕ). IsNext text x.0 t) (sym left) next, subst (λ (t : List ℕ). IsCleanAt t (length x.1)) (sym left) clean_rest);
    }

pub next_stops : (stop : Stop) (text : List ℕ) (n : ℕ) → IsCleanAt text n → Stops stop (piece_at (take n text)) → StopsNext stop text
next_stops Memory text n is e = tt
next_stops Absent text n is e = subst (λ (t : List ℕ). NoPiece t) (whole text n) (none_told (take n text) (drop n text) is.clean e)

pub record DeclarationFound (text : List ℕ) (n : ℕ) (rest : List ℕ) : Type 0 where
  pub short : length rest ≤ n
  pub found : DeclaredBefore text (drop (n - length rest) text) × IsCleanAt (drop (n - length rest) text) (length rest)

pub declaration_found : (text : List ℕ) (n : ℕ) (rest : List ℕ) → IsCleanAt text n → declaration_at (take n text) ≡ Some rest → DeclarationFound text n rest
declaration_found text n rest is e =
    let read = declaration_read (take n text) (drop n text) rest is.clean e in
    let long : length (take n text) ≡ n = length-take-le n text is.within in
    let short : length rest ≤ n = omega (arith, long, ap (λ (t : List ℕ). length t) read.front_parts, length-append read.spelling rest) in
    let left = left_is text (take n text) (drop n text) read.spelling rest (n - length rest) (whole text n) read.front_parts (omega (arith, long, short)) in
    let parts : text ≡ read.spelling ++ (rest ++ drop n text) = sym (whole text n) ∙ read.parts in
    let utf8 : IsUtf8 (rest ++ drop n text) = IsUtf8-after read.spelling (rest ++ drop n text) (subst (λ (t : List ℕ). IsUtf8 t) parts is.utf8) read.is_declaration.characters in
    let before : DeclaredBefore text (rest ++ drop n text) = (read.spelling, read.is_declaration, parts) in
    record {
      short = short;
      found = (subst (λ (t : List ℕ). DeclaredBefore text t) (sym left) before, subst (λ (t : List ℕ). IsCleanAt t (length rest)) (sym left) (clean_left rest (drop n text) utf8 read.clean_rest));
    }

pub declaration_stops : (stop : Stop) (text : List ℕ) (n : ℕ) → IsCleanAt text n → Stops stop (declaration_at (take n text)) → StopsDeclaration stop text
declaration_stops Memory text n is e = tt
declaration_stops Absent text n is e = λ spelling rest parts declared. declaration_none (take n text) (drop n text) is.clean e spelling rest (whole text n ∙ parts) declared

pub clean_start : (text : List ℕ) → IsUtf8 text → IsCleanAt (after_mark text) (clean_len (after_mark text))
clean_start text utf8 = record { utf8 = IsUtf8-after_mark text utf8; within = clean_len_le (after_mark text); clean = IsClean-clean_len (after_mark text) (IsUtf8-after_mark text utf8) }

pub begins_plain : (text : List ℕ) → declares (after_mark text) ≡ false → Begins text (after_mark text)
begins_plain text e = inl (e, refl)

pub begins_declared : (text body : List ℕ) → declares (after_mark text) ≡ true → DeclaredBefore (after_mark text) body → Begins text body
begins_declared text body e is = inr (e, is.0, is.1, is.2)

pub start_stops : (stop : Stop) (text : List ℕ) → declares (after_mark text) ≡ true → StopsDeclaration stop (after_mark text) → StopsStart stop text
start_stops Memory text e is = e
start_stops Absent text e is = record { declared = e; no_declaration = is }

pub body_from : (r : Result (Bor (List ℕ) × ℕ) Stop) (text : List ℕ) → declares (after_mark text) ≡ true
    → MatchResult r (λ x. DeclaredBefore (after_mark text) x.0.now × IsCleanAt x.0.now x.1) (λ stop. StopsDeclaration stop (after_mark text)) → MatchResult r (λ x. Begins text x.0.now × IsCleanAt x.0.now x.1) (λ stop. StopsStart stop text)
body_from (Ok x) text e h = (begins_declared text x.0.now e h.0, h.1)
body_from (Err stop) text e h = start_stops stop text e h

-- ---- what `?` hands on

pub next_err : (r : Result (Piece × Bor (List ℕ) × ℕ) Stop) (text : List ℕ) (stop : Stop) → IsErrAnd r (λ e. e ≡ stop) → StopsNext stop text
    → MatchResult r (λ x. IsNext text x.0 x.1.now × IsCleanAt x.1.now x.2) (λ s. StopsNext s text)
next_err (Ok x) text stop h is = absurd h
next_err (Err e) text stop h is = subst (λ s. StopsNext s text) (sym h) is

pub declaration_err : (r : Result (Bor (List ℕ) × ℕ) Stop) (text : List ℕ) (stop : Stop) → IsErrAnd r (λ e. e ≡ stop) → StopsDeclaration stop text
    → MatchResult r (λ x. DeclaredClean text x.0.now x.1) (λ s. StopsDeclaration s text)
declaration_err (Ok x) text stop h is = absurd h
declaration_err (Err e) text stop h is = subst (λ s. StopsDeclaration s text) (sym h) is
