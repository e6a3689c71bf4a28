-- The cut of a text is one.
use Rattle.std.proofs.Common.{◌≡◌, ℕ, zero, suc, None, inl, inr, ◌<◌, ◌≤◌, List, [], ◌∷◌, ◌++◌, length, refl, sym, ap, subst, ◌∙◌, arith}
use Rattle.std.proofs.lemmas.List.{append-nil, length-append}
use Rattle.std.specs.Str.{IsUtf8}
use Rattle.e57_pieces.specs.declared.piece.Piece.{Piece}
use Rattle.e57_pieces.specs.Cut.{NoPiece, IsNext, IsFront, IsCut}
use Rattle.e57_pieces.proofs.Laws.Next.{next_some, one_next, IsUtf8-next, no_next, is_next, next_shorter}
use Rattle.e57_pieces.specs.Reading.{next_at}
use Rattle.e57_base.proofs.Options.{option_cases}

pub IsFront-nil : (text : List ℕ) → IsFront text [] text
IsFront-nil text = refl

-- one more piece
pub IsFront-push : (pieces : List Piece) (text middle : List ℕ) (piece : Piece) (rest : List ℕ) → IsFront text pieces middle → IsNext middle piece rest → IsFront text (pieces ++ piece ∷ []) rest
IsFront-push [] text middle piece rest fronts next = (rest, subst (λ (t : List ℕ). IsNext t piece rest) (sym fronts) next, refl)
IsFront-push (x ∷ xs) text middle piece rest fronts next = (fronts.0, fronts.1, IsFront-push xs fronts.0 middle piece rest fronts.2 next)

pub IsFront-append : (xs ys : List Piece) (text middle rest : List ℕ) → IsFront text xs middle → IsFront middle ys rest → IsFront text (xs ++ ys) rest
IsFront-append [] ys text middle rest a b = subst (λ (t : List ℕ). IsFront t ys rest) (sym a) b
IsFront-append (x ∷ xs) ys text middle rest a b = (a.0, a.1, IsFront-append xs ys a.0 middle rest a.2 b)

pub IsUtf8-front : (pieces : List Piece) (text rest : List ℕ) → IsUtf8 text → IsFront text pieces rest → IsUtf8 rest
IsUtf8-front [] text rest utf8 fronts = subst (λ (t : List ℕ). IsUtf8 t) fronts utf8
IsUtf8-front (x ∷ xs) text rest utf8 fronts = IsUtf8-front xs fronts.0 rest (IsUtf8-next text x fronts.0 utf8 fronts.1) fronts.2

-- a front of the pieces goes on to the longer one
pub front_goes_on : (xs ys : List Piece) (text r s : List ℕ) → IsUtf8 text → IsFront text xs r → IsFront text ys s → length xs ≤ length ys → (zs : List Piece) × (ys ≡ xs ++ zs) × IsFront r zs s
front_goes_on [] ys text r s utf8 a b le = (ys, refl, subst (λ (t : List ℕ). IsFront t ys s) a b)
front_goes_on (x ∷ xs) [] text r s utf8 a b le = absurd (omega arith)
front_goes_on (x ∷ xs) (y ∷ ys) text r s utf8 a b le =
    let same = one_next text x y a.0 b.0 utf8 a.1 b.1 in
    let more = front_goes_on xs ys a.0 r s (IsUtf8-next text x a.0 utf8 a.1) a.2 (subst (λ (t : List ℕ). IsFront t ys s) (sym same.1) b.2) (omega arith) in
    (more.0, consed x y xs ys more.0 same.0 more.1, more.2) where
      consed : (x y : Piece) (xs ys zs : List Piece) → x ≡ y → ys ≡ xs ++ zs → y ∷ ys ≡ x ∷ (xs ++ zs)
      consed x y xs ys zs e f = ap (λ (p : Piece). p ∷ ys) (sym e) ∙ ap (λ (t : List Piece). x ∷ t) f

-- where nothing more is spelled, no front is longer
pub cut_longest : (xs ys : List Piece) (text r s : List ℕ) → IsUtf8 text → IsCut text xs r → IsFront text ys s → length ys ≤ length xs
cut_longest [] [] text r s utf8 a b = omega arith
cut_longest [] (y ∷ ys) text r s utf8 a b = absurd (next_some text y b.0 b.1 (subst (λ (t : List ℕ). NoPiece t) (sym a.is_front) a.is_longest))
cut_longest (x ∷ xs) [] text r s utf8 a b = omega arith
cut_longest (x ∷ xs) (y ∷ ys) text r s utf8 a b =
    let same = one_next text x y a.is_front.0 b.0 utf8 a.is_front.1 b.1 in
    let less = cut_longest xs ys a.is_front.0 r s (IsUtf8-next text x a.is_front.0 utf8 a.is_front.1) (record { is_front = a.is_front.2; is_longest = a.is_longest }) (subst (λ (t : List ℕ). IsFront t ys s) (sym same.1) b.2) in
    omega arith

-- the cut is one
pub one_cut : (xs ys : List Piece) (text r s : List ℕ) → IsUtf8 text → IsCut text xs r → IsCut text ys s → (xs ≡ ys) × (r ≡ s)
one_cut xs ys text r s utf8 a b =
    let le = cut_longest ys xs text s r utf8 b a.is_front in
    let more = front_goes_on xs ys text r s utf8 a.is_front b.is_front le in
    ended xs ys more.0 r s more.1 more.2 (cut_longest xs ys text r s utf8 a b.is_front) where
      ended : (xs ys zs : List Piece) (r s : List ℕ) → ys ≡ xs ++ zs → IsFront r zs s → length ys ≤ length xs → (xs ≡ ys) × (r ≡ s)
      ended xs ys [] r s e f le = (sym (e ∙ append-nil xs), f)
      ended xs ys (z ∷ zs) r s e f le = absurd (omega (arith, ap (λ (t : List Piece). length t) e, length-append xs (z ∷ zs)))

-- each text has a cut
pub record HasCut (text : List ℕ) : Type 0 where
  pub pieces : List Piece
  pub rest : List ℕ
  pub is_cut : IsCut text pieces rest

no_more : (text : List ℕ) → IsUtf8 text → next_at text ≡ None → HasCut text
no_more text utf8 e = record { pieces = []; rest = text; is_cut = record { is_front = refl; is_longest = no_next text utf8 e } }

one_more : (text : List ℕ) (piece : Piece) (after : List ℕ) → IsNext text piece after → HasCut after → HasCut text
one_more text piece after next more = record { pieces = piece ∷ more.pieces; rest = more.rest; is_cut = record { is_front = (after, next, more.is_cut.is_front); is_longest = more.is_cut.is_longest } }

cut_within : (n : ℕ) (text : List ℕ) → length text < n → IsUtf8 text → HasCut text
cut_within zero text lt utf8 = absurd (omega arith)
cut_within (suc n) text lt utf8 =
    elim (option_cases (next_at text)) [
      | inl none ↦ no_more text utf8 none
      | inr found ↦
          let next = is_next text found.0.0 found.0.1 utf8 found.1 in
          one_more text found.0.0 found.0.1 next (cut_within n found.0.1 (omega (arith, next_shorter text found.0.0 found.0.1 next)) (IsUtf8-next text found.0.0 found.0.1 utf8 next))
    ]

pub some_cut : (text : List ℕ) → IsUtf8 text → HasCut text
some_cut text utf8 = cut_within (suc (length text)) text (omega arith) utf8
