-- What the pieces are that led the machine to a state; and the pieces that it takes are just those that begin a nested list.
use Rattle.std.proofs.Common.{◌≡◌, ℕ, cond, List, [], ◌∷◌, ◌++◌, Option, Some, None, refl, sym, ap, subst, ◌∙◌, inl, inr, append_assoc}
use Rattle.std.proofs.lemmas.List.{append-nil}
use Rattle.std.specs.List.{AllByRecursion}
use Rattle.e57_pieces.specs.declared.piece.Piece.{Piece}
use Rattle.e57_pieces.specs.declared.piece.Piece.TheVariants.{Start, Empty, End, Comment, CData, Text}
use Rattle.e57_elements.specs.Tree.{Element, element, Elements, none, more}
use Rattle.e57_elements.specs.Nested.{IsTextual, text_of, texts_of, IsElement, IsContent, IsOuter, Nested, Alive}
use Rattle.e57_elements.specs.Machine.{Open, State, reading, done, join, with_text, with_child, ended, put, step, run}
use Rattle.e57_elements.proofs.Steps.{Steps, by_steps}
use Rattle.e57_elements.proofs.Runs.{run-append, run-none, nested_runs, bytes_eq-same}
use Rattle.e57_base.proofs.Lists.{all_append}

texts_of-append : (xs ys : List Piece) → texts_of (xs ++ ys) ≡ texts_of xs ++ texts_of ys
texts_of-append [] ys = refl
texts_of-append (x ∷ xs) ys = ap (λ t. text_of x ++ t) (texts_of-append xs ys) ∙ sym (append_assoc (text_of x) (texts_of xs) (texts_of ys))

-- ---- a content that goes on

-- by one piece of text
content_text : (es : Elements) (xs : List Piece) (text : List ℕ) (x : Piece) → IsContent es xs text → IsTextual x → IsContent es (xs ++ x ∷ []) (text ++ text_of x)
content_text none xs text x h is_textual =
    record {
      each = all_append IsTextual xs (x ∷ []) h.each (is_textual, tt);
      joined = ap (λ t. t ++ text_of x) h.joined ∙ ap (λ t. texts_of xs ++ t) (sym (append-nil (text_of x))) ∙ sym (texts_of-append xs (x ∷ []));
    }
content_text (more e es) xs text x (before, inside, after, first, rest, parts, joined, texts, is_element, content) is_textual = (
  before,
  inside,
  after ++ x ∷ [],
  first,
  rest ++ text_of x,
  ap (λ ps. ps ++ x ∷ []) parts ∙ append_assoc before (inside ++ after) (x ∷ []) ∙ ap (λ ps. before ++ ps) (append_assoc inside after (x ∷ [])),
  ap (λ t. t ++ text_of x) joined ∙ append_assoc first rest (text_of x),
  texts,
  is_element,
  content_text es after rest x content is_textual,
)

-- by one element
content_child : (es : Elements) (xs ys : List Piece) (text : List ℕ) (e : Element) → IsContent es xs text → IsElement e ys → IsContent (join es (more e none)) (xs ++ ys) text
content_child none xs ys text e h is_element =
    (xs, ys, [], text, [], ap (λ ps. xs ++ ps) (sym (append-nil ys)), sym (append-nil text), h, is_element, record { each = tt; joined = refl })
content_child (more d es) xs ys text e (before, inside, after, first, rest, parts, joined, texts, is_first, content) is_element = (
  before,
  inside,
  after ++ ys,
  first,
  rest,
  ap (λ ps. ps ++ ys) parts ∙ append_assoc before (inside ++ after) ys ∙ ap (λ ps. before ++ ps) (append_assoc inside after ys),
  joined,
  texts,
  is_first,
  content_child es after ys rest e content is_element,
)

-- ---- the pieces that led to a state

abbrev pub Holds : List Open → List Piece → Type 0
Holds [] xs = AllByRecursion IsOuter xs
Holds (top ∷ outer) xs =
    (before inside : List Piece) × (xs ≡ before ++ (Start top.name top.attrs ∷ inside)) × IsContent top.children inside top.text × Holds outer before

abbrev pub Represents : State → List Piece → Type 0
Represents (reading opens) xs = Holds opens xs
Represents (done e) xs = Nested xs e

put_holds : (e : Element) (outer : List Open) (xs ys : List Piece) → IsElement e ys → Holds outer xs → Represents (put e outer) (xs ++ ys)
put_holds e [] xs ys is_element h =
    record { before = xs; inside = ys; after = []; parts = ap (λ ps. xs ++ ps) (sym (append-nil ys)); outer_before = h; is_element = is_element; outer_after = tt }
put_holds e (top ∷ outer) xs ys is_element (before, inside, parts, content, h) =
    (before, inside ++ ys, ap (λ ps. ps ++ ys) parts ∙ append_assoc before (Start top.name top.attrs ∷ inside) ys, content_child top.children inside ys top.text e content is_element, h)

-- text in an open element
text_holds : (top : Open) (outer : List Open) (xs : List Piece) (x : Piece) (t : List ℕ) → IsTextual x → text_of x ≡ t → Holds (top ∷ outer) xs → Holds (with_text t top ∷ outer) (xs ++ x ∷ [])
text_holds top outer xs x t is_textual e (before, inside, parts, content, h) = (
  before,
  inside ++ x ∷ [],
  ap (λ ps. ps ++ x ∷ []) parts ∙ append_assoc before (Start top.name top.attrs ∷ inside) (x ∷ []),
  subst (λ u. IsContent top.children (inside ++ x ∷ []) (top.text ++ u)) e (content_text top.children inside top.text x content is_textual),
  h,
)

-- comments and white space behind the root
outer_holds : (x : Piece) (e : Element) (xs : List Piece) → IsOuter x → Nested xs e → Nested (xs ++ x ∷ []) e
outer_holds x e xs outer h =
    record {
      before = h.before;
      inside = h.inside;
      after = h.after ++ x ∷ [];
      parts = ap (λ ps. ps ++ x ∷ []) h.parts ∙ append_assoc h.before (h.inside ++ h.after) (x ∷ []) ∙ ap (λ ps. h.before ++ ps) (append_assoc h.inside h.after (x ∷ []));
      outer_before = h.outer_before;
      is_element = h.is_element;
      outer_after = all_append IsOuter h.after (x ∷ []) h.outer_after (outer, tt);
    }

comment_holds : (s : State) (xs : List Piece) → Represents s xs → Represents s (xs ++ Comment ∷ [])
comment_holds (reading []) xs h = all_append IsOuter xs (Comment ∷ []) h (tt, tt)
comment_holds (reading (top ∷ outer)) xs (before, inside, parts, content, h) = (
  before,
  inside ++ Comment ∷ [],
  ap (λ ps. ps ++ Comment ∷ []) parts ∙ append_assoc before (Start top.name top.attrs ∷ inside) (Comment ∷ []),
  subst (λ u. IsContent top.children (inside ++ Comment ∷ []) u) (append-nil top.text) (content_text top.children inside top.text Comment content tt),
  h,
)
comment_holds (done e) xs h = outer_holds Comment e xs tt h

end_holds : (top : Open) (outer : List Open) (xs : List Piece) → Holds (top ∷ outer) xs → Represents (put (ended top) outer) (xs ++ End top.name ∷ [])
end_holds top outer xs (before, inside, parts, content, h) =
    let f = put_holds (ended top) outer before (Start top.name top.attrs ∷ (inside ++ End top.name ∷ [])) (inr (inside, top.text, refl, content, refl)) h in
    subst (λ ps. Represents (put (ended top) outer) ps) (sym (ap (λ ps. ps ++ End top.name ∷ []) parts ∙ append_assoc before (Start top.name top.attrs ∷ inside) (End top.name ∷ []))) f

-- ---- a step

record Represented (s : State) (x : Piece) (t : State) : Type 0 where
  on : (xs : List Piece) → Represents s xs → Represents t (xs ++ x ∷ [])

represented : Steps Represented
represented = record {
  start = λ opens name attrs. record { on = λ xs h. (xs, [], refl, record { each = tt; joined = refl }, h) };
  empty = λ opens name attrs. record { on = λ xs h. put_holds (element name attrs [] none) opens xs (Empty name attrs ∷ []) (inl (refl, refl, refl)) h };
  end = λ top outer. record { on = λ xs h. end_holds top outer xs h };
  comment = λ s. record { on = λ xs h. comment_holds s xs h };
  cdata = λ text top outer. record { on = λ xs h. text_holds top outer xs (CData text) text tt refl h };
  run = λ text top outer. record { on = λ xs h. text_holds top outer xs (Text text) text tt refl h };
  space_before = λ text e. record { on = λ xs h. all_append IsOuter xs (Text text ∷ []) h (e, tt) };
  space_after = λ text d e. record { on = λ xs h. outer_holds (Text text) d xs e h };
}

-- ---- a run

pub run_holds : (xs before : List Piece) (s t : State) → Represents s before → run (Some s) xs ≡ Some t → Represents t (before ++ xs)
run_holds [] before s t h e =
    let given : s ≡ t = cc in
    subst (λ ps. Represents t ps) (sym (append-nil before)) (subst (λ u. Represents u before) given h)
run_holds (x ∷ xs) before s t h e = go (step s x) refl e (λ u f r. run_holds xs (before ++ x ∷ []) u t f r) where
  go : (o : Option State) → step s x ≡ o → run o xs ≡ Some t
      → ((u : State) → Represents u (before ++ x ∷ []) → run (Some u) xs ≡ Some t → Represents t ((before ++ x ∷ []) ++ xs))
      → Represents t (before ++ (x ∷ xs))
  go None eq r goes_on = absurd (let f : None ≡ Some t = sym (run-none xs) ∙ r in cc)
  go (Some u) eq r goes_on = subst (λ ps. Represents t ps) (append_assoc before (x ∷ []) xs) (goes_on u ((by_steps Represented represented s x u eq).on before h) r)

-- pieces that lead to a tree are nested
pub runs_nested : (xs : List Piece) (tree : Element) → run (Some (reading [])) xs ≡ Some (done tree) → Nested xs tree
runs_nested xs tree e = run_holds xs [] (reading []) (done tree) tt e

-- ---- alive

-- each state leads to some tree
record Ending (s : State) : Type 0 where
  rest : List Piece
  tree : Element
  ends : run (Some s) rest ≡ Some (done tree)

ending_within : (outer : List Open) (top : Open) → Ending (reading (top ∷ outer))
ending_within [] top =
    record { rest = End top.name ∷ []; tree = ended top; ends = ap (λ b. run (cond b (Some (put (ended top) [])) None) []) (bytes_eq-same top.name) }
ending_within (next ∷ outer) top =
    let later = ending_within outer (with_child (ended top) next) in
    record { rest = End top.name ∷ later.rest; tree = later.tree; ends = ap (λ b. run (cond b (Some (put (ended top) (next ∷ outer))) None) later.rest) (bytes_eq-same top.name) ∙ later.ends }

ending : (s : State) → Ending s
ending (reading []) = record { rest = Empty [] [] ∷ []; tree = element [] [] [] none; ends = refl }
ending (reading (top ∷ outer)) = ending_within outer top
ending (done e) = record { rest = []; tree = e; ends = refl }

-- the pieces that the machine takes begin a nested list
pub run_alive : (xs : List Piece) (s : State) → run (Some (reading [])) xs ≡ Some s → Alive xs
run_alive xs s e =
    let end = ending s in
    record { rest = end.rest; tree = end.tree; nested = runs_nested (xs ++ end.rest) end.tree (run-append (Some (reading [])) xs end.rest ∙ ap (λ o. run o end.rest) e ∙ end.ends) }

-- and no others do
pub alive_runs : (xs : List Piece) → Alive xs → run (Some (reading [])) xs ≡ None → ⊥
alive_runs xs h e =
    let whole = nested_runs (xs ++ h.rest) h.tree h.nested in
    let none_left = run-append (Some (reading [])) xs h.rest ∙ ap (λ o. run o h.rest) e ∙ run-none h.rest in
    let f : None ≡ Some (done h.tree) = sym none_left ∙ whole in cc
