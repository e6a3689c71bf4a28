-- Laws of strings that are put behind others, or let go.
use Rattle.std.proofs.Common.{◌≡◌, ℕ, ◌+◌, ◌-◌, ◌<◌, ◌≤◌, ◌^◌, List, [], ◌∷◌, ◌++◌, length, take, drop, refl, sym, ap, subst, ◌∙◌, arith, length-take}
use Rattle.std.specs.List.{AllByRecursion}
use Rattle.std.proofs.lemmas.List.{length-take-le, drop-drop, take-take, drop-take, take_at, drop_at, take_all}
use Rattle.e57_layout.specs.Values.{Value, octets}
use Rattle.e57_chunk_out.specs.Texts.{strings_at, AreEnds, AreGathered, IsMovable, moved_ends}
use Rattle.e57_chunk_out.proofs.Strings.{begin_at, ends-begin, ends-drop, strings_at-drop, begin_at-take}
use Rattle.e57_chunk_out.proofs.Waits.{take_part}

-- ---- ends

pub ends-more : (most more : ℕ) (begin : ℕ) (ends : List ℕ) → most ≤ more → AreEnds most begin ends → AreEnds more begin ends
unfolding AreEnds
ends-more most more begin [] g h = omega arith
ends-more most more begin (e ∷ es) g h = (h.0, h.1, ends-more most more e es g h.2)

-- where the last of them ends
abbrev pub last_of : ℕ → List ℕ → ℕ
last_of begin ends = begin_at begin ends (length ends)

pub last_of-take : (until : ℕ) (ends : List ℕ) → until ≤ length ends → last_of 0 (take until ends) ≡ begin_at 0 ends until
last_of-take until ends h = ap (begin_at 0 (take until ends)) (length-take-le until ends h) ∙ begin_at-take until until 0 ends (omega arith)

-- that many bytes are enough
pub ends-last : (most begin : ℕ) (ends : List ℕ) → AreEnds most begin ends → AreEnds (last_of begin ends) begin ends
unfolding AreEnds
ends-last most begin [] h = omega arith
ends-last most begin (e ∷ es) h = (h.0, h.1, ends-last most e es h.2)

pub last-within : (most begin : ℕ) (ends : List ℕ) → AreEnds most begin ends → (begin ≤ last_of begin ends) × (last_of begin ends ≤ most)
unfolding AreEnds
last-within most begin [] h = (omega arith, h)
last-within most begin (e ∷ es) h = let later = last-within most e es h.2 in (omega (arith, h.0, later.0), later.1)

pub ends-append : (most begin : ℕ) (xs ys : List ℕ) → AreEnds most begin xs → AreEnds most (last_of begin xs) ys → AreEnds most begin (xs ++ ys)
unfolding AreEnds
ends-append most begin [] ys h g = g
ends-append most begin (x ∷ xs) ys h g = (h.0, h.1, ends-append most x xs ys h.2 g)

-- with k bytes before in place of `begin`
pub ends-moved : (most begin start from : ℕ) (ends : List ℕ) → begin ≤ from → AreEnds most from ends → AreEnds (start + (most - begin)) (start + (from - begin)) (moved_ends begin start ends)
unfolding AreEnds
ends-moved most begin start from [] g h = omega arith
ends-moved most begin start from (e ∷ es) g h =
    (omega (arith, h.0), omega (arith, h.0, h.1), ends-moved most begin start e es (omega (arith, h.0)) h.2)

pub ends-movable : (most begin start from : ℕ) (ends : List ℕ) → begin ≤ from → start + (most - begin) < 2 ^ 64 → AreEnds most from ends → AllByRecursion (IsMovable begin start) ends
unfolding AreEnds
ends-movable most begin start from [] g few h = tt
ends-movable most begin start from (e ∷ es) g few h =
    let inside : e ≤ most = ends-begin most e es h.2 in
    ((omega (arith, h.0), omega (arith, h.0)), ends-movable most begin start e es (omega (arith, h.0)) few h.2)

-- ---- strings

pub strings_at-append : (bytes : List ℕ) (begin : ℕ) (xs ys : List ℕ) → strings_at bytes begin (xs ++ ys) ≡ strings_at bytes begin xs ++ strings_at bytes (last_of begin xs) ys
unfolding strings_at
strings_at-append bytes begin [] ys = refl
strings_at-append bytes begin (x ∷ xs) ys = ap (λ (values : List Value). octets (take (x - begin) (drop begin bytes)) ∷ values) (strings_at-append bytes x xs ys)

-- only the bytes before the last end count
pub strings_at-front : (most begin : ℕ) (ends bytes others : List ℕ) → take most bytes ≡ take most others → AreEnds most begin ends → strings_at bytes begin ends ≡ strings_at others begin ends
unfolding strings_at AreEnds
strings_at-front most begin [] bytes others same h = refl
strings_at-front most begin (e ∷ es) bytes others same h =
    let inside : e ≤ most = ends-begin most e es h.2 in
    let one : take (e - begin) (drop begin bytes) ≡ take (e - begin) (drop begin others) =
    sym (take_part begin (e - begin) most bytes (omega (arith, h.0)))
    ∙ ap (λ (xs : List ℕ). take (e - begin) (drop begin xs)) same
    ∙ take_part begin (e - begin) most others (omega (arith, h.0)) in
    ap (λ (text : List ℕ). octets text ∷ strings_at bytes e es) one
    ∙ ap (λ (values : List Value). octets (take (e - begin) (drop begin others)) ∷ values) (strings_at-front most e es bytes others same h.2)

-- a piece of bytes that stands elsewhere
piece-moved : (begin start from e : ℕ) (bytes others : List ℕ) (size : ℕ) → begin ≤ from → from ≤ e → e ≤ begin + size → take size (drop begin bytes) ≡ take size (drop start others)
    → take (start + (e - begin) - (start + (from - begin))) (drop (start + (from - begin)) others) ≡ take (e - from) (drop from bytes)
piece-moved begin start from e bytes others size low order high same =
    let count : start + (e - begin) - (start + (from - begin)) ≡ e - from = omega arith in
    let there : begin + (from - begin) ≡ from = omega arith in
    ap (λ k. take k (drop (start + (from - begin)) others)) count
    ∙ ap (take (e - from)) (sym (drop-drop (from - begin) start others))
    ∙ sym (take_part (from - begin) (e - from) size (drop start others) (omega arith))
    ∙ ap (λ (xs : List ℕ). take (e - from) (drop (from - begin) xs)) (sym same)
    ∙ take_part (from - begin) (e - from) size (drop begin bytes) (omega arith)
    ∙ ap (take (e - from)) (drop-drop (from - begin) begin bytes)
    ∙ ap (λ k. take (e - from) (drop k bytes)) there

pub strings_at-moved : (begin start from size : ℕ) (ends bytes others : List ℕ) → begin ≤ from → take size (drop begin bytes) ≡ take size (drop start others) → AreEnds (begin + size) from ends
    → strings_at others (start + (from - begin)) (moved_ends begin start ends) ≡ strings_at bytes from ends
unfolding strings_at AreEnds
strings_at-moved begin start from size [] bytes others low same h = refl
strings_at-moved begin start from size (e ∷ es) bytes others low same h =
    let inside : e ≤ begin + size = ends-begin (begin + size) e es h.2 in
    ap (λ (text : List ℕ). octets text ∷ strings_at others (start + (e - begin)) (moved_ends begin start es)) (piece-moved begin start from e bytes others size low h.0 inside same)
    ∙ ap (λ (values : List Value). octets (take (e - from) (drop from bytes)) ∷ values) (strings_at-moved begin start e size es bytes others (omega (arith, h.0)) same h.2)

-- ---- strings put behind others

pub take-front : (used size : ℕ) (front piece now : List ℕ) → length front ≡ used → take (used + size) now ≡ front ++ piece → take used now ≡ front
take-front used size front piece now long is =
    sym (take-take used (used + size) now (omega arith)) ∙ ap (take used) is ∙ take_at front piece used long

pub take-behind : (used size : ℕ) (front piece now : List ℕ) → length front ≡ used → take (used + size) now ≡ front ++ piece → take size (drop used now) ≡ piece
take-behind used size front piece now long is =
    sym (drop-take used size now) ∙ ap (drop used) is ∙ drop_at front piece used long

pub kept-long : (held now : List ℕ) → take (length held) now ≡ held → length held ≤ length now
kept-long held now is = let size = ap (λ (xs : List ℕ). length xs) (sym is) ∙ length-take (length held) now in omega (arith, size)

-- what was grown and then written
pub put-grown : (held grown now texts : List ℕ) (used end : ℕ) → used ≤ length held → take (length held) grown ≡ held → take end now ≡ take used grown ++ texts → take end now ≡ take used held ++ texts
put-grown held grown now texts used end h kept is =
    is ∙ ap (λ (xs : List ℕ). xs ++ texts) (sym (take-take used (length held) grown h) ∙ ap (take used) kept)

-- more bytes change nothing
pub are-kept : (held now here : List ℕ) → AreEnds (length held) 0 here → take (length held) now ≡ held → AreGathered now here (strings_at held 0 here)
are-kept held now here before same = record {
  strings = strings_at-front (length held) 0 here now held (same ∙ sym (take_all (length held) held (omega arith))) before;
  order = ends-more (length held) (length now) 0 here (kept-long held now same) before;
}

module _ (held bytes now : List ℕ) (here ends there : List ℕ) (begin used size : ℕ) where
  pub are-added : AreEnds (length held) 0 here → AreEnds (length bytes) begin ends → used ≡ last_of 0 here → size ≡ last_of begin ends - begin
      → take (used + size) now ≡ take used held ++ take size (drop begin bytes) → used + size ≤ length now → there ≡ here ++ moved_ends begin used ends
      → AreGathered now there (strings_at held 0 here ++ strings_at bytes begin ends)
  are-added before given is count puts room moved =
      let inside = last-within (length held) 0 here before in
      let within = last-within (length bytes) begin ends given in
      let long : length (take used held) ≡ used = length-take-le used held (omega (arith, is, inside.1)) in
      let front : take used now ≡ take used held = take-front used size (take used held) (take size (drop begin bytes)) now long puts in
      let piece : take size (drop used now) ≡ take size (drop begin bytes) = take-behind used size (take used held) (take size (drop begin bytes)) now long puts in
      let first : AreEnds used 0 here = subst (λ k. AreEnds k 0 here) (sym is) (ends-last (length held) 0 here before) in
      let second : AreEnds (begin + size) begin ends = subst (λ k. AreEnds k begin ends) (omega (arith, count, within.0)) (ends-last (length bytes) begin ends given) in
      let start : used + (begin - begin) ≡ used = omega arith in
      subst (λ (xs : List ℕ). AreGathered now xs (strings_at held 0 here ++ strings_at bytes begin ends)) (sym moved)
      (record {
        strings = strings_at-append now 0 here (moved_ends begin used ends)
            ∙ ap (λ (values : List Value). values ++ strings_at now (last_of 0 here) (moved_ends begin used ends)) (strings_at-front used 0 here now held front first)
            ∙ ap (λ (values : List Value). strings_at held 0 here ++ values)
            (ap (λ k. strings_at now k (moved_ends begin used ends)) (sym is ∙ sym start) ∙ strings_at-moved begin used begin size ends bytes now (omega arith) (sym piece) second);
        order = ends-append (length now) 0 here (moved_ends begin used ends) (ends-more used (length now) 0 here (omega arith) first)
            (subst (λ k. AreEnds (length now) k (moved_ends begin used ends)) (start ∙ is)
            (ends-more (used + (begin + size - begin)) (length now) (used + (begin - begin)) (moved_ends begin used ends) (omega arith) (ends-moved (begin + size) begin used begin ends (omega arith) second)));
      })

-- ---- strings let go

-- those that are left end within the bytes that are used
pub left-within : (most n : ℕ) (here : List ℕ) → AreEnds most 0 here → n ≤ length here → AreEnds (last_of 0 here) (begin_at 0 here n) (drop n here)
left-within most n here h few = ends-drop (last_of 0 here) n 0 here few (ends-last most 0 here h)

module _ (held now here there : List ℕ) (n cut used : ℕ) where
  pub are-left : AreEnds (length held) 0 here → n ≤ length here → cut ≡ begin_at 0 here n → used ≡ last_of 0 here → take (used - cut) now ≡ drop cut (take used held) → used - cut ≤ length now
      → there ≡ moved_ends cut 0 (drop n here) → AreGathered now there (drop n (strings_at held 0 here))
  are-left before few is end puts room moved =
      let first : AreEnds used 0 here = subst (λ k. AreEnds k 0 here) (sym end) (ends-last (length held) 0 here before) in
      let later : AreEnds used cut (drop n here) = subst (λ k. AreEnds used k (drop n here)) (sym is) (ends-drop used n 0 here few first) in
      let low : cut ≤ used = ends-begin used cut (drop n here) later in
      let whole : used ≡ cut + (used - cut) = omega arith in
      let none : 0 + (cut - cut) ≡ 0 = omega arith in
      let piece : take (used - cut) (drop cut held) ≡ take (used - cut) now =
      sym (drop-take cut (used - cut) held) ∙ ap (λ k. drop cut (take k held)) (sym whole) ∙ sym puts in
      subst (λ (xs : List ℕ). AreGathered now xs (drop n (strings_at held 0 here))) (sym moved)
      (record {
        strings = ap (λ k. strings_at now k (moved_ends cut 0 (drop n here))) (sym none)
            ∙ strings_at-moved cut 0 cut (used - cut) (drop n here) held now (omega arith) piece (subst (λ k. AreEnds k cut (drop n here)) whole later)
            ∙ ap (λ k. strings_at held k (drop n here)) is
            ∙ sym (strings_at-drop held n 0 here few);
        order = subst (λ k. AreEnds (length now) k (moved_ends cut 0 (drop n here))) none
            (ends-more (0 + (used - cut)) (length now) (0 + (cut - cut)) (moved_ends cut 0 (drop n here)) (omega arith) (ends-moved used cut 0 cut (drop n here) (omega arith) later));
      })
