-- The next piece: the relation and the reading function are one.
use Rattle.std.proofs.Common.{◌≡◌, ℕ, ◌<◌, true, false, eqb, ◌||◌, List, [], ◌∷◌, ◌++◌, length, inl, inr, Option, Some, None, refl, sym, ap, subst, ◌∙◌, arith, append_assoc}
use Rattle.std.specs.Prelude.{codes}
use Rattle.std.specs.Option.{option_map}
use Rattle.std.specs.Str.{IsUtf8}
use Rattle.std.proofs.lemmas.Bool.{eqb-true}
use Rattle.std.proofs.lemmas.List.{append-nil, take-append-drop, length-append}
use Rattle.std.proofs.lemmas.Option.{some_pair_parts}
use Rattle.std.proofs.lemmas.Str.{encode_ascii}
use Rattle.e57_pieces.specs.declared.piece.Attr.{Attr}
use Rattle.e57_pieces.specs.declared.piece.Piece.{Piece}
use Rattle.e57_pieces.specs.declared.piece.Piece.TheVariants.{Start, Empty, End, Comment, CData, Text}
use Rattle.e57_pieces.proofs.Laws.Characters.{or_true, tested, AreCharacters-append, AreCharacters-nil, AreCharacters-parts, AreCharacters-after, AreCharacters-before, IsUtf8-AreCharacters, IsUtf8-after, in_front, IsClean-clean_len}
use Rattle.e57_pieces.proofs.Laws.Fronts.{map_some}
use Rattle.e57_pieces.proofs.Laws.References.{NoPart}
use Rattle.e57_pieces.proofs.Laws.Markup.{RunEnds, piece_took, run_found, run_none, run_begins, piece_again, piece_none}
use Rattle.e57_pieces.specs.Characters.{is_character, AreCharacters, IsClean, clean_len}
use Rattle.e57_pieces.specs.Words.{is_plain}
use Rattle.e57_pieces.specs.Grammar.{IsTag, IsInside, IsEndTag, IsComment, IsCData, Spelled}
use Rattle.e57_pieces.specs.Cut.{NoPiece, NoRun, IsWhole, IsNext}
use Rattle.e57_pieces.specs.Reading.{run_at, piece_at, clean, unclean, next_at}
use Rattle.e57_base.proofs.Options.{option_cases}

-- ---- where a text of characters is cut

abbrev pub EndsAngle : List ℕ → Type 0
EndsAngle s = (front : List ℕ) × (s ≡ front ++ 62 ∷ [])

pub after_front : (xs s whole : List ℕ) → whole ≡ xs ++ s → EndsAngle s → EndsAngle whole
after_front xs s whole e ends = (xs ++ ends.0, e ∙ ap (λ (t : List ℕ). xs ++ t) ends.1 ∙ sym (append_assoc xs ends.0 (62 ∷ [])))

angle_alone : EndsAngle (codes ">")
angle_alone = ([], refl)

slash_angle : EndsAngle (codes "/>")
slash_angle = (47 ∷ [], refl)

dashes_angle : EndsAngle (codes "-->")
dashes_angle = (45 ∷ 45 ∷ [], refl)

brackets_angle : EndsAngle (codes "]]>")
brackets_angle = (93 ∷ 93 ∷ [], refl)

pub mark_angle : EndsAngle (codes "?>")
mark_angle = (63 ∷ [], refl)

pub inside_ends : (s : List ℕ) (attrs : List Attr) (close : List ℕ) → IsInside s attrs close → EndsAngle close → EndsAngle s
inside_ends s attrs close is ends = after_front is.front (is.space ++ close) s is.spelled (after_front is.space close (is.space ++ close) refl ends)

tag_ends : (s name : List ℕ) (attrs : List Attr) (close : List ℕ) → IsTag s name attrs close → EndsAngle close → EndsAngle s
tag_ends s name attrs close is ends = after_front (codes "<") (name ++ is.inside) s is.spelled (after_front name is.inside (name ++ is.inside) refl (inside_ends is.inside attrs close is.is_inside ends))

end_ends : (s name : List ℕ) → IsEndTag s name → EndsAngle s
end_ends s name is = after_front (codes "</") (name ++ (is.space ++ codes ">")) s is.spelled (after_front name (is.space ++ codes ">") _ refl (after_front is.space (codes ">") _ refl angle_alone))

comment_ends : (s : List ℕ) → IsComment s → EndsAngle s
comment_ends s is = after_front (codes "<!--") (is.body ++ codes "-->") s is.spelled (after_front is.body (codes "-->") _ refl dashes_angle)

cdata_ends : (s text : List ℕ) → IsCData s text → EndsAngle s
cdata_ends s text is = after_front (codes "<![CDATA[") (text ++ codes "]]>") s is.spelled (after_front text (codes "]]>") _ refl brackets_angle)

angle_character : AreCharacters (62 ∷ [])
unfolding is_character
angle_character = record { numbers = 62 ∷ []; each = (refl, tt); spelled = ap (λ (t : List ℕ). t ++ []) (encode_ascii 62 (omega arith)) }

pub parts_at_angle : (s rest : List ℕ) → EndsAngle s → AreCharacters (s ++ rest) → AreCharacters s × AreCharacters rest
parts_at_angle s rest ends are =
    let whole : s ++ rest ≡ ends.0 ++ (62 ∷ rest) = ap (λ (t : List ℕ). t ++ rest) ends.1 ∙ append_assoc ends.0 (62 ∷ []) rest in
    let two = AreCharacters-before ends.0 62 rest (omega arith) (subst (λ (t : List ℕ). AreCharacters t) whole are) in
    let last = AreCharacters-parts (62 ∷ []) rest two.1 (IsUtf8-AreCharacters (62 ∷ []) angle_character) in
    (subst (λ (t : List ℕ). AreCharacters t) (sym ends.1) (AreCharacters-append ends.0 (62 ∷ []) two.0 last.0), last.1)

stops_low : (b : ℕ) → is_plain 60 b ≡ false → b < 128
unfolding is_plain
stops_low b e =
    elim (tested (eqb b 60 || eqb b 38 || eqb b 60)) [
      | inr other ↦ let f : true ≡ false = rw other at e in absurd cc
      | inl here ↦ elim (or_true (eqb b 60 || eqb b 38) (eqb b 60) here) [
        | inr is ↦ omega (arith, eqb-true b 60 is)
        | inl two ↦ elim (or_true (eqb b 60) (eqb b 38) two) [
          | inr is ↦ omega (arith, eqb-true b 38 is)
          | inl is ↦ omega (arith, eqb-true b 60 is)
        ]
      ]
    ]

parts_at_end : (s rest : List ℕ) → NoPart (is_plain 60) rest → AreCharacters (s ++ rest) → AreCharacters s × AreCharacters rest
parts_at_end s [] ends are = (subst (λ (t : List ℕ). AreCharacters t) (append-nil s) are, AreCharacters-nil)
parts_at_end s (b ∷ bs) ends are = AreCharacters-before s b bs (stops_low b ends.stops) are

piece_parts : (s : List ℕ) (piece : Piece) (rest : List ℕ) → Spelled s piece → RunEnds piece rest → AreCharacters (s ++ rest) → AreCharacters s × AreCharacters rest
piece_parts s (Start name attrs) rest is ends are = parts_at_angle s rest (tag_ends s name attrs (codes ">") is angle_alone) are
piece_parts s (Empty name attrs) rest is ends are = parts_at_angle s rest (tag_ends s name attrs (codes "/>") is slash_angle) are
piece_parts s (End name) rest is ends are = parts_at_angle s rest (end_ends s name is) are
piece_parts s Comment rest is ends are = parts_at_angle s rest (comment_ends s is) are
piece_parts s (CData text) rest is ends are = parts_at_angle s rest (cdata_ends s text is) are
piece_parts s (Text text) rest is ends are = parts_at_end s rest ends are

-- ---- of a clean front

front_clean : (front back rest : List ℕ) → IsClean front back → AreCharacters rest → IsClean rest back
front_clean front back rest clean_front are = record { characters = are; forbidden = clean_front.forbidden }

no_run_after : (rest back : List ℕ) → IsClean rest back → NoPart (is_plain 60) rest → NoRun (rest ++ back)
no_run_after rest back clean_rest ends = λ spelling more run e is.
    let inner = in_front rest back spelling more clean_rest e is.characters in
    run_begins spelling run inner.0 is.spelled (subst (λ (t : List ℕ). NoPart (is_plain 60) t) inner.1 ends)

whole_from : (piece : Piece) (rest back : List ℕ) → IsClean rest back → RunEnds piece rest → IsWhole piece (rest ++ back)
whole_from (Start name attrs) rest back clean_rest ends = tt
whole_from (Empty name attrs) rest back clean_rest ends = tt
whole_from (End name) rest back clean_rest ends = tt
whole_from Comment rest back clean_rest ends = tt
whole_from (CData text) rest back clean_rest ends = tt
whole_from (Text text) rest back clean_rest ends = no_run_after rest back clean_rest ends

-- what is read at the front of the clean front is the next piece
pub record ReadsNext (front back : List ℕ) (x : Piece × List ℕ) : Type 0 where
  pub is_next : IsNext (front ++ back) x.0 (x.1 ++ back)
  pub clean_rest : IsClean x.1 back
  pub front_parts : front ≡ is_next.spelling ++ x.1

some_spelled : (s : List ℕ) → EndsAngle s → 0 < length s
some_spelled s ends = omega (arith, ap (λ (t : List ℕ). length t) ends.1, length-append ends.0 (62 ∷ []))

piece_long : (s : List ℕ) (piece : Piece) → Spelled s piece → 0 < length s
piece_long s (Start name attrs) is = some_spelled s (tag_ends s name attrs (codes ">") is angle_alone)
piece_long s (Empty name attrs) is = some_spelled s (tag_ends s name attrs (codes "/>") is slash_angle)
piece_long s (End name) is = some_spelled s (end_ends s name is)
piece_long s Comment is = some_spelled s (comment_ends s is)
piece_long s (CData text) is = some_spelled s (cdata_ends s text is)
piece_long s (Text text) is = is.some

pub next_read : (front back : List ℕ) (x : Piece × List ℕ) → IsClean front back → piece_at front ≡ Some x → ReadsNext front back x
next_read front back x clean_front e =
    let t = piece_took front x e in
    let two = piece_parts t.spelling x.0 x.1 t.spelled t.ends (subst (λ (u : List ℕ). AreCharacters u) t.parts clean_front.characters) in
    let clean_rest = front_clean front back x.1 clean_front two.1 in
    record {
      is_next = record {
        spelling = t.spelling;
        is_piece = record { characters = two.0; spelled = t.spelled };
        is_whole = whole_from x.0 x.1 back clean_rest t.ends;
        parts = ap (λ (u : List ℕ). u ++ back) t.parts ∙ append_assoc t.spelling x.1 back;
      };
      clean_rest = clean_rest;
      front_parts = t.parts;
    }

run_ends_from : (rest back : List ℕ) → AreCharacters rest → NoRun (rest ++ back) → NoPart (is_plain 60) rest
run_ends_from rest back are never =
    elim (option_cases (run_at rest)) [
      | inl none ↦ run_none rest none
      | inr found ↦
          let r = run_found rest found.0 found.1 in
          let two = parts_at_end r.spelling found.0.1 r.ends (subst (λ (u : List ℕ). AreCharacters u) r.parts are) in
          absurd (never r.spelling (found.0.1 ++ back) r.meaning (ap (λ (u : List ℕ). u ++ back) r.parts ∙ append_assoc r.spelling found.0.1 back) (record { characters = two.0; spelled = r.is_run }))
    ]

ends_from : (piece : Piece) (rest back : List ℕ) → AreCharacters rest → IsWhole piece (rest ++ back) → RunEnds piece rest
ends_from (Start name attrs) rest back are is_whole = tt
ends_from (Empty name attrs) rest back are is_whole = tt
ends_from (End name) rest back are is_whole = tt
ends_from Comment rest back are is_whole = tt
ends_from (CData text) rest back are is_whole = tt
ends_from (Text text) rest back are is_whole = run_ends_from rest back are is_whole

-- the next piece is read at the front of the clean front
pub next_told : (front back : List ℕ) (piece : Piece) (rest : List ℕ) → IsClean front back → IsNext (front ++ back) piece rest → (more : List ℕ) × (piece_at front ≡ Some (piece, more)) × (rest ≡ more ++ back)
next_told front back piece rest clean_front is =
    let inner = in_front front back is.spelling rest clean_front is.parts is.is_piece.characters in
    let are = AreCharacters-after is.spelling inner.0 (subst (λ (u : List ℕ). AreCharacters u) inner.1 clean_front.characters) is.is_piece.characters in
    let ends = ends_from piece inner.0 back are (subst (λ (u : List ℕ). IsWhole piece u) inner.2 is.is_whole) in
    (inner.0, ap piece_at inner.1 ∙ piece_again is.spelling piece inner.0 is.is_piece.spelled ends, inner.2)

-- where none is read there, none is spelled
pub none_told : (front back : List ℕ) → IsClean front back → piece_at front ≡ None → NoPiece (front ++ back)
none_told front back clean_front e = λ spelling rest piece parts is.
    let inner = in_front front back spelling rest clean_front parts is.characters in
    piece_none spelling inner.0 piece (subst (λ (u : List ℕ). piece_at u ≡ None) inner.1 e) is.spelled

-- ---- of a text in UTF-8

pub clean_whole : (text : List ℕ) → clean text ++ unclean text ≡ text
clean_whole text = take-append-drop (clean_len text) text

pub is_next : (text : List ℕ) (piece : Piece) (rest : List ℕ) → IsUtf8 text → next_at text ≡ Some (piece, rest) → IsNext text piece rest
unfolding next_at
is_next text piece rest utf8 e =
    let m = map_some (λ (x : Piece × List ℕ). (x.0, x.1 ++ unclean text)) (piece_at (clean text)) (piece, rest) e in
    let read = next_read (clean text) (unclean text) m.0 (IsClean-clean_len text utf8) m.1 in
    let there : IsNext text m.0.0 (m.0.1 ++ unclean text) = subst (λ (u : List ℕ). IsNext u m.0.0 (m.0.1 ++ unclean text)) (clean_whole text) read.is_next in
    subst (λ (y : Piece × List ℕ). IsNext text y.0 y.1) m.2 there

pub next_is : (text : List ℕ) (piece : Piece) (rest : List ℕ) → IsUtf8 text → IsNext text piece rest → next_at text ≡ Some (piece, rest)
unfolding next_at
next_is text piece rest utf8 is =
    let told = next_told (clean text) (unclean text) piece rest (IsClean-clean_len text utf8) (subst (λ (u : List ℕ). IsNext u piece rest) (sym (clean_whole text)) is) in
    ap (λ (o : Option (Piece × List ℕ)). option_map (λ (x : Piece × List ℕ). (x.0, x.1 ++ unclean text)) o) told.1 ∙ ap (λ (u : List ℕ). Some (piece, u)) (sym told.2)

abbrev with_rest : List ℕ → Piece × List ℕ → Piece × List ℕ
with_rest back x = (x.0, x.1 ++ back)

unmapped : (back : List ℕ) (o : Option (Piece × List ℕ)) → option_map (with_rest back) o ≡ None → o ≡ None
unmapped back None e = refl
unmapped back (Some x) e = absurd cc

pub no_next : (text : List ℕ) → IsUtf8 text → next_at text ≡ None → NoPiece text
unfolding next_at
no_next text utf8 e = subst (λ (u : List ℕ). NoPiece u) (clean_whole text) (none_told (clean text) (unclean text) (IsClean-clean_len text utf8) (unmapped (unclean text) (piece_at (clean text)) e))

pub next_some : (text : List ℕ) (piece : Piece) (rest : List ℕ) → IsNext text piece rest → NoPiece text → ⊥
next_some text piece rest is never = never is.spelling rest piece is.parts is.is_piece

pub one_next : (text : List ℕ) (x y : Piece) (r s : List ℕ) → IsUtf8 text → IsNext text x r → IsNext text y s → (x ≡ y) × (r ≡ s)
one_next text x y r s utf8 a b = parts_same x y r s (sym (next_is text x r utf8 a) ∙ next_is text y s utf8 b) where
  parts_same : (x y : Piece) (r s : List ℕ) → ◌≡◌ {A = Option (Piece × List ℕ)} (Some (x, r)) (Some (y, s)) → (x ≡ y) × (r ≡ s)
  parts_same x y r s e = some_pair_parts x y r s e

pub IsUtf8-next : (text : List ℕ) (piece : Piece) (rest : List ℕ) → IsUtf8 text → IsNext text piece rest → IsUtf8 rest
IsUtf8-next text piece rest utf8 is = IsUtf8-after is.spelling rest (subst (λ (u : List ℕ). IsUtf8 u) is.parts utf8) is.is_piece.characters

pub next_shorter : (text : List ℕ) (piece : Piece) (rest : List ℕ) → IsNext text piece rest → length rest < length text
next_shorter text piece rest is = omega (arith, piece_long is.spelling piece is.is_piece.spelled, ap (λ (u : List ℕ). length u) is.parts, length-append is.spelling rest)

pub none_next : (text : List ℕ) → IsUtf8 text → NoPiece text → next_at text ≡ None
none_next text utf8 never =
    elim (option_cases (next_at text)) [
      | inl none ↦ none
      | inr found ↦ absurd (next_some text found.0.0 found.0.1 (is_next text found.0.0 found.0.1 utf8 found.1) never)
    ]
