-- Pieces: what is read is spelled so, and what is spelled so is read.
use Rattle.std.proofs.Common.{◌≡◌, ◌≢◌, ℕ, suc, ◌<◌, ◌≤◌, true, false, leb, List, [], ◌∷◌, ◌++◌, length, ◌⊎◌, inl, inr, Some, None, refl, sym, ap, subst, ◌∙◌, arith, append_assoc}
use Rattle.std.specs.Prelude.{codes}
use Rattle.std.specs.List.{AllByRecursion, flat_map}
use Rattle.std.specs.Option.{option_or, option_map}
use Rattle.std.proofs.lemmas.Bool.{leb-true, le-leb, cases_lt}
use Rattle.std.proofs.lemmas.List.{length-append, nil_from_length}
use Rattle.e57_pieces.specs.declared.piece.Attr.{Attr}
use Rattle.e57_pieces.specs.declared.piece.Piece.{Piece}
use Rattle.e57_pieces.specs.declared.piece.Piece.TheVariants.{Start, Empty, End, Comment, CData, Text}
use Rattle.e57_pieces.proofs.Laws.Characters.{false_from, not_both, eqb-from_ne}
use Rattle.e57_pieces.proofs.Laws.Fronts.{bind_some, given_some, map_some, or_some, or_none, some_none, strip_took, strip_again, BeginsOutside, run_after, run_each, run_again, name_took, name_again, cut_took, cut_first, cut_again}
use Rattle.e57_pieces.proofs.Laws.References.{NoPart, text_took, text_ends, text_again, parts_none, no_reference, reference_again, reference_begins}
use Rattle.e57_pieces.proofs.Laws.Attributes.{space_goes_on_none, space_stops_name, inside_took, inside_again}
use Rattle.e57_pieces.specs.Words.{is_space, begins_name, goes_on_name, is_plain, Each, Absent}
use Rattle.e57_pieces.specs.Grammar.{IsPart, IsAttr, AreAttrs, IsTag, IsEndTag, IsComment, IsCData, IsRun, Spelled}
use Rattle.e57_pieces.specs.Start.{strip}
use Rattle.e57_pieces.specs.Reading.{◌>>=◌, run, after, cut_at, name_at, text_at, inside_at, tag_at, end_at, comment_at, cdata_at, run_at, piece_at, reference_at}

-- a run ends where no part begins
abbrev pub RunEnds : Piece → List ℕ → Type 0
RunEnds (Start name attrs) rest = Unit {0}
RunEnds (Empty name attrs) rest = Unit {0}
RunEnds (End name) rest = Unit {0}
RunEnds Comment rest = Unit {0}
RunEnds (CData text) rest = Unit {0}
RunEnds (Text text) rest = NoPart (is_plain 60) rest

-- the text is the piece's spelling and the rest, and a run ends there
pub record TookPiece (text : List ℕ) (x : Piece × List ℕ) : Type 0 where
  pub spelling : List ℕ
  pub spelled : Spelled spelling x.0
  pub ends : RunEnds x.0 x.1
  pub parts : text ≡ spelling ++ x.1

one_some : {A : Type 0} (x y : A) → Some x ≡ Some y → x ≡ y
one_some x y e = cc

-- ---- what is read

tagged : (text name inside start left rest : List ℕ) → text ≡ codes "<" ++ start → start ≡ name ++ left → left ≡ inside ++ rest → text ≡ (codes "<" ++ (name ++ inside)) ++ rest
tagged text name inside start left rest a b c = a ∙ ap (λ (t : List ℕ). 60 ∷ t) (b ∙ ap (λ (t : List ℕ). name ++ t) c ∙ sym (append_assoc name inside rest))

tag_took : (text : List ℕ) (x : Piece × List ℕ) → tag_at text ≡ Some x → TookPiece text x
unfolding tag_at
tag_took text x e =
    let a = bind_some (strip (codes "<") text) (λ (start : List ℕ). name_at start >>= λ (name : List ℕ × List ℕ). inside_at name.1 >>= λ (inside : List Attr × List ℕ). option_or (option_map (λ (rest : List ℕ). (Start name.0 inside.0, rest)) (strip (codes ">") inside.1)) (option_map (λ (rest : List ℕ). (Empty name.0 inside.0, rest)) (strip (codes "/>") inside.1))) x e in
    let b = bind_some (name_at a.0) (λ (name : List ℕ × List ℕ). inside_at name.1 >>= λ (inside : List Attr × List ℕ). option_or (option_map (λ (rest : List ℕ). (Start name.0 inside.0, rest)) (strip (codes ">") inside.1)) (option_map (λ (rest : List ℕ). (Empty name.0 inside.0, rest)) (strip (codes "/>") inside.1))) x a.2 in
    let c = bind_some (inside_at b.0.1) (λ (inside : List Attr × List ℕ). option_or (option_map (λ (rest : List ℕ). (Start b.0.0 inside.0, rest)) (strip (codes ">") inside.1)) (option_map (λ (rest : List ℕ). (Empty b.0.0 inside.0, rest)) (strip (codes "/>") inside.1))) x b.2 in
    let n = name_took a.0 b.0 b.1 in
    elim (or_some (option_map (λ (rest : List ℕ). (Start b.0.0 c.0.0, rest)) (strip (codes ">") c.0.1)) (option_map (λ (rest : List ℕ). (Empty b.0.0 c.0.0, rest)) (strip (codes "/>") c.0.1)) x c.2) [
      | inl here ↦
          let m = map_some (λ (rest : List ℕ). (Start b.0.0 c.0.0, rest)) (strip (codes ">") c.0.1) x here in
          let t = inside_took b.0.1 c.0 (codes ">") m.0 c.1 m.1 in
          let made : TookPiece text (Start b.0.0 c.0.0, m.0) = record {
            spelling = codes "<" ++ (b.0.0 ++ t.spelling);
            spelled = record { inside = t.spelling; is_name = n.0; is_inside = t.holds; spelled = refl };
            ends = tt;
            parts = tagged text b.0.0 t.spelling a.0 b.0.1 m.0 (strip_took (codes "<") text a.0 a.1) n.1 t.parts;
          } in
          subst (λ (y : Piece × List ℕ). TookPiece text y) m.2 made
      | inr later ↦
          let m = map_some (λ (rest : List ℕ). (Empty b.0.0 c.0.0, rest)) (strip (codes "/>") c.0.1) x later.1 in
          let t = inside_took b.0.1 c.0 (codes "/>") m.0 c.1 m.1 in
          let made : TookPiece text (Empty b.0.0 c.0.0, m.0) = record {
            spelling = codes "<" ++ (b.0.0 ++ t.spelling);
            spelled = record { inside = t.spelling; is_name = n.0; is_inside = t.holds; spelled = refl };
            ends = tt;
            parts = tagged text b.0.0 t.spelling a.0 b.0.1 m.0 (strip_took (codes "<") text a.0 a.1) n.1 t.parts;
          } in
          subst (λ (y : Piece × List ℕ). TookPiece text y) m.2 made
    ]

ended : (text name space start left left_on rest : List ℕ) → text ≡ codes "</" ++ start → start ≡ name ++ left → left ≡ space ++ left_on → left_on ≡ codes ">" ++ rest → text ≡ (codes "</" ++ (name ++ (space ++ codes ">"))) ++ rest
ended text name space start left left_on rest a b c d = rw (a, b, c, d) (simp append_assoc)

end_took : (text : List ℕ) (x : Piece × List ℕ) → end_at text ≡ Some x → TookPiece text x
unfolding end_at
end_took text x e =
    let a = bind_some (strip (codes "</") text) (λ (start : List ℕ). name_at start >>= λ (name : List ℕ × List ℕ). strip (codes ">") (after is_space name.1) >>= λ (rest : List ℕ). Some (End name.0, rest)) x e in
    let b = bind_some (name_at a.0) (λ (name : List ℕ × List ℕ). strip (codes ">") (after is_space name.1) >>= λ (rest : List ℕ). Some (End name.0, rest)) x a.2 in
    let c = bind_some (strip (codes ">") (after is_space b.0.1)) (λ (rest : List ℕ). Some (End b.0.0, rest)) x b.2 in
    let n = name_took a.0 b.0 b.1 in
    let made : TookPiece text (End b.0.0, c.0) = record {
      spelling = codes "</" ++ (b.0.0 ++ (run is_space b.0.1 ++ codes ">"));
      spelled = record { space = run is_space b.0.1; is_name = n.0; white = run_each is_space b.0.1; spelled = refl };
      ends = tt;
      parts = ended text b.0.0 (run is_space b.0.1) a.0 b.0.1 (after is_space b.0.1) c.0 (strip_took (codes "</") text a.0 a.1) n.1 (run_after is_space b.0.1) (strip_took (codes ">") (after is_space b.0.1) c.0 c.1);
    } in
    subst (λ (y : Piece × List ℕ). TookPiece text y) (one_some (End b.0.0, c.0) x c.2) made

-- a word within the front would stand earlier than the first one
no_word : (word text front x back : List ℕ) (c : List ℕ × List ℕ) → cut_at word text ≡ Some c → c.0 ≡ front ++ x → 0 < length x → text ≡ front ++ (word ++ back) → ⊥
no_word word text front x back c e f some g =
    omega (arith, cut_first word text c front back e g, ap (λ (t : List ℕ). length t) f, length-append front x)

within : (text front word back more body : List ℕ) → text ≡ body ++ more → body ≡ front ++ (word ++ back) → text ≡ front ++ (word ++ (back ++ more))
within text front word back more body e f = e ∙ ap (λ (t : List ℕ). t ++ more) f ∙ append_assoc front (word ++ back) more ∙ ap (λ (t : List ℕ). front ++ t) (append_assoc word back more)

dash_within : (text front more body : List ℕ) → text ≡ body ++ (codes "--" ++ more) → body ≡ front ++ codes "-" → text ≡ front ++ (codes "--" ++ (codes "-" ++ more))
dash_within text front more body e f = e ∙ ap (λ (t : List ℕ). t ++ (codes "--" ++ more)) f ∙ append_assoc front (codes "-") (codes "--" ++ more)

commented : (text start body left rest : List ℕ) → text ≡ codes "<!--" ++ start → start ≡ body ++ (codes "--" ++ left) → left ≡ codes ">" ++ rest → text ≡ (codes "<!--" ++ (body ++ codes "-->")) ++ rest
commented text start body left rest a b c = rw (a, b, c) (simp append_assoc)

comment_took : (text : List ℕ) (x : Piece × List ℕ) → comment_at text ≡ Some x → TookPiece text x
unfolding comment_at
comment_took text x e =
    let a = bind_some (strip (codes "<!--") text) (λ (start : List ℕ). cut_at (codes "--") start >>= λ (body : List ℕ × List ℕ). strip (codes ">") body.1 >>= λ (rest : List ℕ). Some (Comment, rest)) x e in
    let b = bind_some (cut_at (codes "--") a.0) (λ (body : List ℕ × List ℕ). strip (codes ">") body.1 >>= λ (rest : List ℕ). Some (Comment, rest)) x a.2 in
    let c = bind_some (strip (codes ">") b.0.1) (λ (rest : List ℕ). Some (Comment, rest)) x b.2 in
    let t = cut_took (codes "--") a.0 b.0 b.1 in
    let made : TookPiece text (Comment, c.0) = record {
      spelling = codes "<!--" ++ (b.0.0 ++ codes "-->");
      spelled = record {
        body = b.0.0;
        no_dashes = λ front back is. no_word (codes "--") a.0 front (codes "--" ++ back) (back ++ (codes "--" ++ b.0.1)) b.0 b.1 is (omega arith) (within a.0 front (codes "--") back (codes "--" ++ b.0.1) b.0.0 t is);
        no_dash_last = λ front is. no_word (codes "--") a.0 front (codes "-") (codes "-" ++ b.0.1) b.0 b.1 is (omega arith) (dash_within a.0 front b.0.1 b.0.0 t is);
        spelled = refl;
      };
      ends = tt;
      parts = commented text a.0 b.0.0 b.0.1 c.0 (strip_took (codes "<!--") text a.0 a.1) t (strip_took (codes ">") b.0.1 c.0 c.1);
    } in
    subst (λ (y : Piece × List ℕ). TookPiece text y) (one_some (Comment, c.0) x c.2) made

cdata_whole : (text start body rest : List ℕ) → text ≡ codes "<![CDATA[" ++ start → start ≡ body ++ (codes "]]>" ++ rest) → text ≡ (codes "<![CDATA[" ++ (body ++ codes "]]>")) ++ rest
cdata_whole text start body rest a b = rw (a, b) (simp append_assoc)

cdata_took : (text : List ℕ) (x : Piece × List ℕ) → cdata_at text ≡ Some x → TookPiece text x
unfolding cdata_at
cdata_took text x e =
    let a = bind_some (strip (codes "<![CDATA[") text) (λ (start : List ℕ). cut_at (codes "]]>") start >>= λ (inner : List ℕ × List ℕ). Some (CData inner.0, inner.1)) x e in
    let b = bind_some (cut_at (codes "]]>") a.0) (λ (inner : List ℕ × List ℕ). Some (CData inner.0, inner.1)) x a.2 in
    let t = cut_took (codes "]]>") a.0 b.0 b.1 in
    let made : TookPiece text (CData b.0.0, b.0.1) = record {
      spelling = codes "<![CDATA[" ++ (b.0.0 ++ codes "]]>");
      spelled = record {
        no_close = λ front back is. no_word (codes "]]>") a.0 front (codes "]]>" ++ back) (back ++ (codes "]]>" ++ b.0.1)) b.0 b.1 is (omega arith) (within a.0 front (codes "]]>") back (codes "]]>" ++ b.0.1) b.0.0 t is);
        spelled = refl;
      };
      ends = tt;
      parts = cdata_whole text a.0 b.0.0 b.0.1 (strip_took (codes "<![CDATA[") text a.0 a.1) t;
    } in
    subst (λ (y : Piece × List ℕ). TookPiece text y) (one_some (CData b.0.0, b.0.1) x b.2) made

-- a run that is read
pub record TookRun (text : List ℕ) (x : Piece × List ℕ) : Type 0 where
  pub spelling : List ℕ
  pub meaning : List ℕ
  pub is_run : IsRun spelling meaning
  pub is_text : x.0 ≡ Text meaning
  pub ends : NoPart (is_plain 60) x.1
  pub parts : text ≡ spelling ++ x.1

pub run_found : (text : List ℕ) (x : Piece × List ℕ) → run_at text ≡ Some x → TookRun text x
unfolding run_at
run_found text x e =
    let g = given_some (leb (suc (length (text_at 60 text).1)) (length text)) (Text (text_at 60 text).0, (text_at 60 text).1) x e in
    let t = text_took 60 text in
    let shorter : suc (length (text_at 60 text).1) ≤ length text = leb-true (suc (length (text_at 60 text).1)) (length text) g.0 in
    let some : 0 < length t.spelling = omega (arith, shorter, ap (λ (u : List ℕ). length u) t.parts, length-append t.spelling (text_at 60 text).1) in
    let made : TookRun text (Text (text_at 60 text).0, (text_at 60 text).1) = record {
      spelling = t.spelling;
      meaning = (text_at 60 text).0;
      is_run = record { some = some; means = t.holds };
      is_text = refl;
      ends = text_ends 60 text;
      parts = t.parts;
    } in
    subst (λ (y : Piece × List ℕ). TookRun text y) g.1 made

run_took : (text : List ℕ) (x : Piece × List ℕ) → run_at text ≡ Some x → TookPiece text x
run_took text x e =
    let r = run_found text x e in
    let made : TookPiece text (Text r.meaning, x.1) = record { spelling = r.spelling; spelled = r.is_run; ends = r.ends; parts = r.parts } in
    subst (λ (y : Piece). TookPiece text (y, x.1)) (sym r.is_text) made

pub piece_took : (text : List ℕ) (x : Piece × List ℕ) → piece_at text ≡ Some x → TookPiece text x
unfolding piece_at
piece_took text x e =
    elim (or_some (tag_at text) (option_or (end_at text) (option_or (run_at text) (option_or (comment_at text) (cdata_at text)))) x e) [
      | inl here ↦ tag_took text x here
      | inr e1 ↦ elim (or_some (end_at text) (option_or (run_at text) (option_or (comment_at text) (cdata_at text))) x e1.1) [
        | inl here ↦ end_took text x here
        | inr e2 ↦ elim (or_some (run_at text) (option_or (comment_at text) (cdata_at text)) x e2.1) [
          | inl here ↦ run_took text x here
          | inr e3 ↦ elim (or_some (comment_at text) (cdata_at text) x e3.1) [
            | inl here ↦ comment_took text x here
            | inr last ↦ cdata_took text x last.1
          ]
        ]
      ]
    ]

-- ---- what is spelled

attr_begins : (s : List ℕ) (attr : Attr) → IsAttr s attr → (c : ℕ) × (more : List ℕ) × (is_space c ≡ true) × (s ≡ c ∷ more)
attr_begins s attr is = begins_so is.before s (attr.name ++ (is.left ++ (codes "=" ++ (is.right ++ (is.quote ∷ is.value ++ is.quote ∷ []))))) is.some_space is.spaces.0 is.spelled where
  begins_so : (before s more : List ℕ) → 0 < length before → Each is_space before → s ≡ before ++ more → (c : ℕ) × (rest : List ℕ) × (is_space c ≡ true) × (s ≡ c ∷ rest)
  begins_so [] s more some each e = absurd (omega arith)
  begins_so (b ∷ bs) s more some each e = (b, bs ++ more, each.0, e)

-- a name ends before the inside of a tag
inside_stops : (attrs : List Attr) (front space close rest : List ℕ) → AreAttrs front attrs → Each is_space space → BeginsOutside goes_on_name (close ++ rest) → BeginsOutside goes_on_name ((front ++ (space ++ close)) ++ rest)
inside_stops [] front space close rest are white stops =
    subst (λ (t : List ℕ). BeginsOutside goes_on_name ((t ++ (space ++ close)) ++ rest)) (sym are) (subst (λ (t : List ℕ). BeginsOutside goes_on_name t) (sym (append_assoc space close rest)) (space_stops_name space (close ++ rest) white stops))
inside_stops (attr ∷ attrs) front space close rest are white stops =
    let b = attr_begins are.0 attr are.3 in
    let whole : front ≡ b.0 ∷ (b.1 ++ are.1) = are.2 ∙ ap (λ (t : List ℕ). t ++ are.1) b.3 in
    subst (λ (t : List ℕ). BeginsOutside goes_on_name ((t ++ (space ++ close)) ++ rest)) (sym whole) (space_goes_on_none b.0 b.2)

tag_steps : (text start name left_on close_on : List ℕ) (attrs : List Attr) → strip (codes "<") text ≡ Some start → name_at start ≡ Some (name, left_on) → inside_at left_on ≡ Some (attrs, close_on)
    → tag_at text ≡ option_or (option_map (λ (rest : List ℕ). (Start name attrs, rest)) (strip (codes ">") close_on)) (option_map (λ (rest : List ℕ). (Empty name attrs, rest)) (strip (codes "/>") close_on))
unfolding tag_at
tag_steps text start name left_on close_on attrs a b c = rw (a, b, c) refl

tag_again : (s name : List ℕ) (attrs : List Attr) (close rest : List ℕ) → IsTag s name attrs close → BeginsOutside goes_on_name (close ++ rest) → BeginsOutside is_space (close ++ rest) → BeginsOutside begins_name (close ++ rest)
    → tag_at (s ++ rest) ≡ option_or (option_map (λ (more : List ℕ). (Start name attrs, more)) (strip (codes ">") (close ++ rest))) (option_map (λ (more : List ℕ). (Empty name attrs, more)) (strip (codes "/>") (close ++ rest)))
tag_again s name attrs close rest is goes_on white begins =
    let inner = is.is_inside in
    let stops : BeginsOutside goes_on_name (is.inside ++ rest) = subst (λ (t : List ℕ). BeginsOutside goes_on_name (t ++ rest)) (sym inner.spelled) (inside_stops attrs inner.front inner.space close rest inner.attributes inner.white goes_on) in
    let whole : s ++ rest ≡ codes "<" ++ (name ++ (is.inside ++ rest)) = ap (λ (t : List ℕ). t ++ rest) is.spelled ∙ ap (λ (t : List ℕ). 60 ∷ t) (append_assoc name is.inside rest) in
    ap tag_at whole ∙ tag_steps (codes "<" ++ (name ++ (is.inside ++ rest))) (name ++ (is.inside ++ rest)) name (is.inside ++ rest) (close ++ rest) attrs
    (strip_again (codes "<") (name ++ (is.inside ++ rest))) (name_again name (is.inside ++ rest) is.is_name stops) (inside_again is.inside attrs close rest inner white begins)

start_again : (s name : List ℕ) (attrs : List Attr) (rest : List ℕ) → IsTag s name attrs (codes ">") → tag_at (s ++ rest) ≡ Some (Start name attrs, rest)
unfolding goes_on_name begins_name is_space strip
start_again s name attrs rest is = tag_again s name attrs (codes ">") rest is refl refl refl ∙ refl

empty_again : (s name : List ℕ) (attrs : List Attr) (rest : List ℕ) → IsTag s name attrs (codes "/>") → tag_at (s ++ rest) ≡ Some (Empty name attrs, rest)
unfolding goes_on_name begins_name is_space strip
empty_again s name attrs rest is = tag_again s name attrs (codes "/>") rest is refl refl refl ∙ refl

end_steps : (text start name left_on rest : List ℕ) → strip (codes "</") text ≡ Some start → name_at start ≡ Some (name, left_on) → strip (codes ">") (after is_space left_on) ≡ Some rest → end_at text ≡ Some (End name, rest)
unfolding end_at
end_steps text start name left_on rest a b c = rw (a, b, c) refl

angle_no_name : goes_on_name 62 ≡ false
unfolding goes_on_name begins_name
angle_no_name = refl

angle_no_space : is_space 62 ≡ false
unfolding is_space
angle_no_space = refl

end_whole : (s name space rest : List ℕ) → s ≡ codes "</" ++ (name ++ (space ++ codes ">")) → s ++ rest ≡ codes "</" ++ (name ++ (space ++ (62 ∷ rest)))
end_whole s name space rest e = rw e (simp append_assoc)

end_again : (s name rest : List ℕ) → IsEndTag s name → end_at (s ++ rest) ≡ Some (End name, rest)
end_again s name rest is =
    ap end_at (end_whole s name is.space rest is.spelled)
    ∙ end_steps (codes "</" ++ (name ++ (is.space ++ (62 ∷ rest)))) (name ++ (is.space ++ (62 ∷ rest))) name (is.space ++ (62 ∷ rest)) rest (strip_again (codes "</") (name ++ (is.space ++ (62 ∷ rest))))
    (name_again name (is.space ++ (62 ∷ rest)) is.is_name (space_stops_name is.space (62 ∷ rest) is.white angle_no_name))
    (ap (strip (codes ">")) (run_again is_space is.space (62 ∷ rest) is.white angle_no_space).1 ∙ strip_again (codes ">") rest)

-- a front that is longer than another one begins with it
pub longer : (xs ys us vs : List ℕ) → xs ++ ys ≡ us ++ vs → length us ≤ length xs → (m : List ℕ) × (xs ≡ us ++ m) × (vs ≡ m ++ ys)
longer xs ys [] vs e le = (xs, refl, sym e)
longer [] ys (u ∷ us) vs e le = absurd (omega arith)
longer (x ∷ xs) ys (u ∷ us) vs e le =
    let tails : xs ++ ys ≡ us ++ vs = cc in
    let more = longer xs ys us vs tails (omega arith) in
    (more.0, same_heads x u xs us more.0 e more.1, more.2) where
      same_heads : (x u : ℕ) (xs us m : List ℕ) {zs ws : List ℕ} → x ∷ zs ≡ u ∷ ws → xs ≡ us ++ m → x ∷ xs ≡ u ∷ (us ++ m)
      same_heads x u xs us m e f = cc

dash_cases : (m back rest : List ℕ) → 45 ∷ 45 ∷ back ≡ m ++ (45 ∷ 45 ∷ rest) → 0 < length m → (m ≡ codes "-") ⊎ ((more : List ℕ) × (m ≡ codes "--" ++ more))
dash_cases [] back rest e some = absurd (omega arith)
dash_cases (x ∷ []) back rest e some = let h : x ≡ 45 = cc in inl (ap (λ (n : ℕ). n ∷ []) h)
dash_cases (x ∷ y ∷ ms) back rest e some =
    let h : x ≡ 45 = cc in
    let i : y ≡ 45 = cc in
    inr (ms, ap (λ (n : ℕ). n ∷ y ∷ ms) h ∙ ap (λ (n : ℕ). 45 ∷ n ∷ ms) i)

comment_least : (body rest front back : List ℕ) → Absent (codes "--") body → ((f : List ℕ) → body ≢ f ++ codes "-") → body ++ (codes "--" ++ rest) ≡ front ++ (codes "--" ++ back) → length body ≤ length front
comment_least body rest front back absent last e =
    elim (cases_lt (length front) (length body)) [
      | inr le ↦ le
      | inl lt ↦
          let m = longer body (codes "--" ++ rest) front (codes "--" ++ back) e (omega arith) in
          let some : 0 < length m.0 = omega (arith, ap (λ (t : List ℕ). length t) m.1, length-append front m.0) in
          elim (dash_cases m.0 back rest m.2 some) [
            | inl one ↦ absurd (last front (m.1 ∙ ap (λ (t : List ℕ). front ++ t) one))
            | inr two ↦ absurd (absent front two.0 (m.1 ∙ ap (λ (t : List ℕ). front ++ t) two.1))
          ]
    ]

close_cases : (m back rest : List ℕ) → 93 ∷ 93 ∷ 62 ∷ back ≡ m ++ (93 ∷ 93 ∷ 62 ∷ rest) → 0 < length m → (more : List ℕ) × (m ≡ codes "]]>" ++ more)
close_cases [] back rest e some = absurd (omega arith)
close_cases (x ∷ []) back rest e some = let h : ◌≡◌ {A = ℕ} 62 93 = cc in absurd (omega (arith, h))
close_cases (x ∷ y ∷ []) back rest e some = let h : ◌≡◌ {A = ℕ} 62 93 = cc in absurd (omega (arith, h))
close_cases (x ∷ y ∷ z ∷ ms) back rest e some =
    let h : x ≡ 93 = cc in
    let i : y ≡ 93 = cc in
    let j : z ≡ 62 = cc in
    (ms, ap (λ (n : ℕ). n ∷ y ∷ z ∷ ms) h ∙ ap (λ (n : ℕ). 93 ∷ n ∷ z ∷ ms) i ∙ ap (λ (n : ℕ). 93 ∷ 93 ∷ n ∷ ms) j)

cdata_least : (body rest front back : List ℕ) → Absent (codes "]]>") body → body ++ (codes "]]>" ++ rest) ≡ front ++ (codes "]]>" ++ back) → length body ≤ length front
cdata_least body rest front back absent e =
    elim (cases_lt (length front) (length body)) [
      | inr le ↦ le
      | inl lt ↦
          let m = longer body (codes "]]>" ++ rest) front (codes "]]>" ++ back) e (omega arith) in
          let some : 0 < length m.0 = omega (arith, ap (λ (t : List ℕ). length t) m.1, length-append front m.0) in
          let three = close_cases m.0 back rest m.2 some in
          absurd (absent front three.0 (m.1 ∙ ap (λ (t : List ℕ). front ++ t) three.1))
    ]

comment_steps : (text start body left rest : List ℕ) → strip (codes "<!--") text ≡ Some start → cut_at (codes "--") start ≡ Some (body, left) → strip (codes ">") left ≡ Some rest → comment_at text ≡ Some (Comment, rest)
unfolding comment_at
comment_steps text start body left rest a b c = rw (a, b, c) refl

comment_whole : (s body rest : List ℕ) → s ≡ codes "<!--" ++ (body ++ codes "-->") → s ++ rest ≡ codes "<!--" ++ (body ++ (codes "--" ++ (62 ∷ rest)))
comment_whole s body rest e = rw e (simp append_assoc)

comment_again : (s rest : List ℕ) → IsComment s → comment_at (s ++ rest) ≡ Some (Comment, rest)
comment_again s rest is =
    ap comment_at (comment_whole s is.body rest is.spelled)
    ∙ comment_steps (codes "<!--" ++ (is.body ++ (codes "--" ++ (62 ∷ rest)))) (is.body ++ (codes "--" ++ (62 ∷ rest))) is.body (62 ∷ rest) rest (strip_again (codes "<!--") (is.body ++ (codes "--" ++ (62 ∷ rest))))
    (cut_again (codes "--") is.body (62 ∷ rest) (omega arith) (λ front back e. comment_least is.body (62 ∷ rest) front back is.no_dashes is.no_dash_last e)) (strip_again (codes ">") rest)

cdata_steps : (text start body rest : List ℕ) → strip (codes "<![CDATA[") text ≡ Some start → cut_at (codes "]]>") start ≡ Some (body, rest) → cdata_at text ≡ Some (CData body, rest)
unfolding cdata_at
cdata_steps text start body rest a b = rw (a, b) refl

cdata_spread : (s body rest : List ℕ) → s ≡ codes "<![CDATA[" ++ (body ++ codes "]]>") → s ++ rest ≡ codes "<![CDATA[" ++ (body ++ (codes "]]>" ++ rest))
cdata_spread s body rest e = rw e (simp append_assoc)

cdata_again : (s text rest : List ℕ) → IsCData s text → cdata_at (s ++ rest) ≡ Some (CData text, rest)
cdata_again s text rest is =
    ap cdata_at (cdata_spread s text rest is.spelled)
    ∙ cdata_steps (codes "<![CDATA[" ++ (text ++ (codes "]]>" ++ rest))) (text ++ (codes "]]>" ++ rest)) text rest (strip_again (codes "<![CDATA[") (text ++ (codes "]]>" ++ rest)))
    (cut_again (codes "]]>") text rest (omega arith) (λ front back e. cdata_least text rest front back is.no_close e))

-- ---- text runs

angle_not_plain : is_plain 60 60 ≡ false
unfolding is_plain
angle_not_plain = refl

plain_no_angle : (b : ℕ) → is_plain 60 b ≡ true → b ≢ 60
plain_no_angle b e is = not_both (is_plain 60 b) e (ap (is_plain 60) is ∙ angle_not_plain)

leb-suc : (m n : ℕ) → n ≤ m → leb (suc m) n ≡ false
leb-suc m n le = false_from (leb (suc m) n) (λ e. absurd (omega (arith, leb-true (suc m) n e)))

no_run_step : (text left : List ℕ) (meaning : List ℕ) → text_at 60 text ≡ (meaning, left) → length text ≤ length left → run_at text ≡ None
unfolding run_at
no_run_step text left meaning e le = rw (e, leb-suc (length left) (length text) le) refl

run_step : (text left meaning : List ℕ) → text_at 60 text ≡ (meaning, left) → suc (length left) ≤ length text → run_at text ≡ Some (Text meaning, left)
unfolding run_at
run_step text left meaning e le = rw (e, le-leb (suc (length left)) (length text) le) refl

-- no run is read where no part begins
pub no_run : (text : List ℕ) → NoPart (is_plain 60) text → run_at text ≡ None
no_run text ends = no_run_step text text [] (parts_none (is_plain 60) (length text) text ends) (omega arith)

no_run_at_angle : (bs : List ℕ) → run_at (60 ∷ bs) ≡ None
no_run_at_angle bs = no_run (60 ∷ bs) (record { stops = angle_not_plain; none = no_reference (60 ∷ bs) refl })

run_again_at : (s text rest : List ℕ) → IsRun s text → NoPart (is_plain 60) rest → run_at (s ++ rest) ≡ Some (Text text, rest)
run_again_at s text rest is ends = run_step (s ++ rest) rest text (text_again 60 s text rest is.means ends) (omega (arith, is.some, length-append s rest))

-- where no run is read, no part begins
pub run_none : (text : List ℕ) → run_at text ≡ None → NoPart (is_plain 60) text
run_none text e =
    let t = text_took 60 text in
    elim (cases_lt (length (text_at 60 text).1) (length text)) [
      | inl lt ↦ absurd (some_none (run_at text) (Text (text_at 60 text).0, (text_at 60 text).1) (run_step text (text_at 60 text).1 (text_at 60 text).0 refl (omega arith)) e)
      | inr le ↦
          let short : length t.spelling ≡ 0 = omega (arith, le, ap (λ (u : List ℕ). length u) t.parts, length-append t.spelling (text_at 60 text).1) in
          let whole : text ≡ (text_at 60 text).1 = t.parts ∙ ap (λ (u : List ℕ). u ++ (text_at 60 text).1) (nil_from_length t.spelling short) in
          subst (λ (u : List ℕ). NoPart (is_plain 60) u) (sym whole) (text_ends 60 text)
    ]

-- a run begins with a part
first_part : (parts : List (List ℕ × List ℕ)) (rest : List ℕ) → AllByRecursion (λ part. IsPart (is_plain 60) part.0 part.1) parts → 0 < length (flat_map (λ (part : List ℕ × List ℕ). part.0) parts) → NoPart (is_plain 60) (flat_map (λ (part : List ℕ × List ℕ). part.0) parts ++ rest) → ⊥
first_part [] rest each some ends = omega arith
first_part (p ∷ ps) rest each some ends = at_part p.0 p.1 (flat_map (λ (part : List ℕ × List ℕ). part.0) ps) rest each.0 ends where
  at_part : (s m more rest : List ℕ) → IsPart (is_plain 60) s m → NoPart (is_plain 60) ((s ++ more) ++ rest) → ⊥
  at_part s m more rest (inl is) ends =
      let here : NoPart (is_plain 60) (is.0 ∷ (more ++ rest)) = subst (λ (t : List ℕ). NoPart (is_plain 60) ((t ++ more) ++ rest)) is.2 ends in
      not_both (is_plain 60 is.0) is.1 here.stops
  at_part s m more rest (inr is) ends =
      some_none (reference_at ((s ++ more) ++ rest)) (is.0, more ++ rest) (ap reference_at (append_assoc s more rest) ∙ reference_again s is.0 (more ++ rest) is.1) ends.none

pub run_begins : (s text rest : List ℕ) → IsRun s text → NoPart (is_plain 60) (s ++ rest) → ⊥
run_begins s text rest is ends =
    first_part is.means.parts rest is.means.each (omega (arith, is.some, ap (λ (t : List ℕ). length t) is.means.spelled)) (subst (λ (t : List ℕ). NoPart (is_plain 60) (t ++ rest)) is.means.spelled ends)

first_byte : (s text : List ℕ) → IsRun s text → (b : ℕ) × (more : List ℕ) × (b ≢ 60) × (s ≡ b ∷ more)
first_byte s text is = at_first is.means.parts s is.means.each (omega (arith, is.some)) is.means.spelled where
  at_part : (front m more s : List ℕ) → IsPart (is_plain 60) front m → s ≡ front ++ more → (b : ℕ) × (rest : List ℕ) × (b ≢ 60) × (s ≡ b ∷ rest)
  at_part front m more s (inl is) e = (is.0, more, plain_no_angle is.0 is.1, e ∙ ap (λ (t : List ℕ). t ++ more) is.2)
  at_part front m more s (inr is) e =
      let begins = reference_begins front is.0 is.1 in
      (38, begins.0 ++ more, (λ is. absurd (omega arith)), e ∙ ap (λ (t : List ℕ). t ++ more) begins.1)

  at_first : (parts : List (List ℕ × List ℕ)) (s : List ℕ) → AllByRecursion (λ part. IsPart (is_plain 60) part.0 part.1) parts → 0 < length s → s ≡ flat_map (λ (part : List ℕ × List ℕ). part.0) parts → (b : ℕ) × (more : List ℕ) × (b ≢ 60) × (s ≡ b ∷ more)
  at_first [] s each some e = absurd (omega (arith, ap (λ (t : List ℕ). length t) e))
  at_first (p ∷ ps) s each some e = at_part p.0 p.1 (flat_map (λ (part : List ℕ × List ℕ). part.0) ps) s each.0 e

-- ---- one form at each place

no_tag_elsewhere : (b : ℕ) (bs : List ℕ) → b ≢ 60 → tag_at (b ∷ bs) ≡ None
unfolding tag_at strip
no_tag_elsewhere b bs ne = rw (eqb-from_ne b 60 ne) refl

no_end_elsewhere : (b : ℕ) (bs : List ℕ) → b ≢ 60 → end_at (b ∷ bs) ≡ None
unfolding end_at strip
no_end_elsewhere b bs ne = rw (eqb-from_ne b 60 ne) refl

no_tag_at_slash : (bs : List ℕ) → tag_at (60 ∷ 47 ∷ bs) ≡ None
unfolding tag_at strip name_at begins_name
no_tag_at_slash bs = refl

no_tag_at_mark : (bs : List ℕ) → tag_at (60 ∷ 33 ∷ bs) ≡ None
unfolding tag_at strip name_at begins_name
no_tag_at_mark bs = refl

no_end_at_mark : (bs : List ℕ) → end_at (60 ∷ 33 ∷ bs) ≡ None
unfolding end_at strip
no_end_at_mark bs = refl

no_comment_at_bracket : (bs : List ℕ) → comment_at (60 ∷ 33 ∷ 91 ∷ bs) ≡ None
unfolding comment_at strip
no_comment_at_bracket bs = refl

by_tag : (text : List ℕ) (x : Piece × List ℕ) → tag_at text ≡ Some x → piece_at text ≡ Some x
unfolding piece_at
by_tag text x a = rw a refl

by_end : (text : List ℕ) (x : Piece × List ℕ) → tag_at text ≡ None → end_at text ≡ Some x → piece_at text ≡ Some x
unfolding piece_at
by_end text x a b = rw (a, b) refl

by_run : (text : List ℕ) (x : Piece × List ℕ) → tag_at text ≡ None → end_at text ≡ None → run_at text ≡ Some x → piece_at text ≡ Some x
unfolding piece_at
by_run text x a b c = rw (a, b, c) refl

by_comment : (text : List ℕ) (x : Piece × List ℕ) → tag_at text ≡ None → end_at text ≡ None → run_at text ≡ None → comment_at text ≡ Some x → piece_at text ≡ Some x
unfolding piece_at
by_comment text x a b c d = rw (a, b, c, d) refl

by_cdata : (text : List ℕ) (x : Piece × List ℕ) → tag_at text ≡ None → end_at text ≡ None → run_at text ≡ None → comment_at text ≡ None → cdata_at text ≡ Some x → piece_at text ≡ Some x
unfolding piece_at
by_cdata text x a b c d e = rw (a, b, c, d, e) refl

pub piece_again : (s : List ℕ) (piece : Piece) (rest : List ℕ) → Spelled s piece → RunEnds piece rest → piece_at (s ++ rest) ≡ Some (piece, rest)
piece_again s (Start name attrs) rest is ends = by_tag (s ++ rest) (Start name attrs, rest) (start_again s name attrs rest is)
piece_again s (Empty name attrs) rest is ends = by_tag (s ++ rest) (Empty name attrs, rest) (empty_again s name attrs rest is)
piece_again s (End name) rest is ends =
    by_end (s ++ rest) (End name, rest) (ap tag_at (end_whole s name is.space rest is.spelled) ∙ no_tag_at_slash (name ++ (is.space ++ (62 ∷ rest)))) (end_again s name rest is)
piece_again s Comment rest is ends =
    let whole = comment_whole s is.body rest is.spelled in
    by_comment (s ++ rest) (Comment, rest) (ap tag_at whole ∙ no_tag_at_mark _) (ap end_at whole ∙ no_end_at_mark _) (ap run_at whole ∙ no_run_at_angle _) (comment_again s rest is)
piece_again s (CData text) rest is ends =
    let whole = cdata_spread s text rest is.spelled in
    by_cdata (s ++ rest) (CData text, rest) (ap tag_at whole ∙ no_tag_at_mark _) (ap end_at whole ∙ no_end_at_mark _) (ap run_at whole ∙ no_run_at_angle _) (ap comment_at whole ∙ no_comment_at_bracket _) (cdata_again s text rest is)
piece_again s (Text text) rest is ends =
    let f = first_byte s text is in
    let whole : s ++ rest ≡ f.0 ∷ (f.1 ++ rest) = ap (λ (t : List ℕ). t ++ rest) f.3 in
    by_run (s ++ rest) (Text text, rest) (ap tag_at whole ∙ no_tag_elsewhere f.0 (f.1 ++ rest) f.2) (ap end_at whole ∙ no_end_elsewhere f.0 (f.1 ++ rest) f.2) (run_again_at s text rest is ends)

no_run_read : (text : List ℕ) → piece_at text ≡ None → run_at text ≡ None
unfolding piece_at
no_run_read text e =
    let a = or_none (tag_at text) (option_or (end_at text) (option_or (run_at text) (option_or (comment_at text) (cdata_at text)))) e in
    let b = or_none (end_at text) (option_or (run_at text) (option_or (comment_at text) (cdata_at text))) a.1 in
    (or_none (run_at text) (option_or (comment_at text) (cdata_at text)) b.1).0

-- where no piece is read, none is spelled
pub piece_none : (s rest : List ℕ) (piece : Piece) → piece_at (s ++ rest) ≡ None → Spelled s piece → ⊥
piece_none s rest (Start name attrs) e is = some_none (piece_at (s ++ rest)) (Start name attrs, rest) (piece_again s (Start name attrs) rest is tt) e
piece_none s rest (Empty name attrs) e is = some_none (piece_at (s ++ rest)) (Empty name attrs, rest) (piece_again s (Empty name attrs) rest is tt) e
piece_none s rest (End name) e is = some_none (piece_at (s ++ rest)) (End name, rest) (piece_again s (End name) rest is tt) e
piece_none s rest Comment e is = some_none (piece_at (s ++ rest)) (Comment, rest) (piece_again s Comment rest is tt) e
piece_none s rest (CData text) e is = some_none (piece_at (s ++ rest)) (CData text, rest) (piece_again s (CData text) rest is tt) e
piece_none s rest (Text text) e is = run_begins s text rest is (run_none (s ++ rest) (no_run_read (s ++ rest) e))
