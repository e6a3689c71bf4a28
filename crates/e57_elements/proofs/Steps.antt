-- The steps of the machine by cases.
use Rattle.std.proofs.Common.{◌≡◌, ℕ, Bool, true, false, cond, List, [], ◌∷◌, Some, None, refl, subst}
use Rattle.std.proofs.lemmas.Slice.Eq.{bytes_eq-Decides}
use Rattle.std.specs.Str.{bytes_eq}
use Rattle.e57_pieces.specs.declared.piece.Attr.{Attr}
use Rattle.e57_pieces.specs.declared.piece.Piece.{Piece}
use Rattle.e57_pieces.specs.declared.piece.Piece.TheVariants.{Start, Empty, End, Comment, CData, Text}
use Rattle.e57_elements.specs.Tree.{Element, element, none}
use Rattle.e57_elements.specs.Nested.{only_space}
use Rattle.e57_elements.specs.Machine.{Open, State, reading, done, begin, with_text, ended, put, end_tag, inner_text, text_run, step}

-- what holds of a state, a piece and the state after it, where it holds in these cases
pub record Steps (P : State → Piece → State → Type 0) : Type 0 where
  pub start : (opens : List Open) (name : List ℕ) (attrs : List Attr) → P (reading opens) (Start name attrs) (reading (begin name attrs ∷ opens))
  pub empty : (opens : List Open) (name : List ℕ) (attrs : List Attr) → P (reading opens) (Empty name attrs) (put (element name attrs [] none) opens)
  pub end : (top : Open) (outer : List Open) → P (reading (top ∷ outer)) (End top.name) (put (ended top) outer)
  pub comment : (s : State) → P s Comment s
  pub cdata : (text : List ℕ) (top : Open) (outer : List Open) → P (reading (top ∷ outer)) (CData text) (reading (with_text text top ∷ outer))
  pub run : (text : List ℕ) (top : Open) (outer : List Open) → P (reading (top ∷ outer)) (Text text) (reading (with_text text top ∷ outer))
  pub space_before : (text : List ℕ) → only_space text ≡ true → P (reading []) (Text text) (reading [])
  pub space_after : (text : List ℕ) (e : Element) → only_space text ≡ true → P (done e) (Text text) (done e)

some_same : {X : Type 0} (x y : X) → Some x ≡ Some y → x ≡ y
some_same x y e = cc

-- a choice by a test gave something: the test held
chosen : {X : Type 0} (b : Bool) (x y : X) → cond b (Some x) None ≡ Some y → (b ≡ true) × (x ≡ y)
chosen true x y e = (refl, cc)
chosen false x y e = cc

end_case : (P : State → Piece → State → Type 0) → Steps P → (name : List ℕ) (opens : List Open) (t : State) → end_tag name opens ≡ Some t → P (reading opens) (End name) t
end_case P steps name [] t e = cc
end_case P steps name (top ∷ outer) t e =
    let found = chosen (bytes_eq top.name name) (put (ended top) outer) t e in
    let same : top.name ≡ name = (bytes_eq-Decides top.name name).0 found.0 in
    subst (λ n. P (reading (top ∷ outer)) (End n) t) same (subst (λ u. P (reading (top ∷ outer)) (End top.name) u) found.1 (steps.end top outer))

cdata_case : (P : State → Piece → State → Type 0) → Steps P → (text : List ℕ) (opens : List Open) (t : State) → inner_text text opens ≡ Some t → P (reading opens) (CData text) t
cdata_case P steps text [] t e = cc
cdata_case P steps text (top ∷ outer) t e = subst (λ u. P (reading (top ∷ outer)) (CData text) u) (some_same (reading (with_text text top ∷ outer)) t e) (steps.cdata text top outer)

run_case : (P : State → Piece → State → Type 0) → Steps P → (text : List ℕ) (opens : List Open) (t : State) → text_run text opens ≡ Some t → P (reading opens) (Text text) t
run_case P steps text [] t e = let found = chosen (only_space text) (reading []) t e in subst (λ u. P (reading []) (Text text) u) found.1 (steps.space_before text found.0)
run_case P steps text (top ∷ outer) t e = subst (λ u. P (reading (top ∷ outer)) (Text text) u) (some_same (reading (with_text text top ∷ outer)) t e) (steps.run text top outer)

pub by_steps : (P : State → Piece → State → Type 0) → Steps P → (s : State) (x : Piece) (t : State) → step s x ≡ Some t → P s x t
by_steps P steps (reading opens) (Start name attrs) t e = subst (λ u. P (reading opens) (Start name attrs) u) (some_same (reading (begin name attrs ∷ opens)) t e) (steps.start opens name attrs)
by_steps P steps (reading opens) (Empty name attrs) t e = subst (λ u. P (reading opens) (Empty name attrs) u) (some_same (put (element name attrs [] none) opens) t e) (steps.empty opens name attrs)
by_steps P steps (reading opens) (End name) t e = end_case P steps name opens t e
by_steps P steps (reading opens) Comment t e = subst (λ u. P (reading opens) Comment u) (some_same (reading opens) t e) (steps.comment (reading opens))
by_steps P steps (reading opens) (CData text) t e = cdata_case P steps text opens t e
by_steps P steps (reading opens) (Text text) t e = run_case P steps text opens t e
by_steps P steps (done d) (Start name attrs) t e = cc
by_steps P steps (done d) (Empty name attrs) t e = cc
by_steps P steps (done d) (End name) t e = cc
by_steps P steps (done d) Comment t e = subst (λ u. P (done d) Comment u) (some_same (done d) t e) (steps.comment (done d))
by_steps P steps (done d) (CData text) t e = cc
by_steps P steps (done d) (Text text) t e = let found = chosen (only_space text) (done d) t e in subst (λ u. P (done d) (Text text) u) found.1 (steps.space_after text d found.0)
