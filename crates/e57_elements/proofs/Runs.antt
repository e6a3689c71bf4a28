-- The machine takes the pieces of an element, and gives its tree.
use Rattle.std.proofs.Common.{◌≡◌, ℕ, true, cond, List, [], ◌∷◌, ◌++◌, Option, Some, None, refl, sym, ap, ◌∙◌, inl, inr, append_assoc}
use Rattle.std.proofs.lemmas.List.{append-nil}
use Rattle.std.proofs.lemmas.Slice.Eq.{bytes_eq-Decides}
use Rattle.std.specs.List.{AllByRecursion}
use Rattle.std.specs.Str.{bytes_eq}
use Rattle.e57_pieces.specs.declared.piece.Piece.{Piece}
use Rattle.e57_pieces.specs.declared.piece.Piece.TheVariants.{Start, Empty, End, Comment, CData, Text}
use Rattle.e57_elements.specs.Tree.{Element, element, Elements, none, more}
use Rattle.e57_elements.specs.Nested.{IsTextual, texts_of, IsElement, IsContent, IsOuter, Nested, only_space}
use Rattle.e57_elements.specs.Machine.{Open, State, reading, done, join, begin, with_text, with_child, ended, put, end_tag, outer_text, step_on, run}

pub run-append : (s : Option State) (xs ys : List Piece) → run s (xs ++ ys) ≡ run (run s xs) ys
run-append s [] ys = refl
run-append s (x ∷ xs) ys = run-append (step_on s x) xs ys

pub run-none : (xs : List Piece) → run None xs ≡ None
run-none [] = refl
run-none (x ∷ xs) = run-none xs

pub join-none : (es : Elements) → join es none ≡ es
join-none none = refl
join-none (more e es) = ap (more e) (join-none es)

pub join-assoc : (cs ds es : Elements) → join (join cs ds) es ≡ join cs (join ds es)
join-assoc none ds es = refl
join-assoc (more c cs) ds es = ap (more c) (join-assoc cs ds es)

-- an open element with more children and more text
abbrev pub grown : Elements → List ℕ → Open → Open
grown es text top = record { name = top.name; attrs = top.attrs; children = join top.children es; text = top.text ++ text }

pub grown-same : (top : Open) (cs ds : Elements) (t u : List ℕ) → cs ≡ ds → t ≡ u → ◌≡◌ {A = Open} (record { name = top.name; attrs = top.attrs; children = cs; text = t }) (record { name = top.name; attrs = top.attrs; children = ds; text = u })
grown-same top cs ds t u e f = cc

pub bytes_eq-same : (name : List ℕ) → bytes_eq name name ≡ true
bytes_eq-same name = (bytes_eq-Decides name name).1 refl

end_tag-same : (name : List ℕ) (top : Open) (outer : List Open) → top.name ≡ name → end_tag name (top ∷ outer) ≡ Some (put (ended top) outer)
end_tag-same name top outer e = ap (λ b. cond b (Some (put (ended top) outer)) None) (ap (λ n. bytes_eq n name) e ∙ bytes_eq-same name)

pub texts_run : (xs : List Piece) (top : Open) (outer : List Open) → AllByRecursion IsTextual xs → run (Some (reading (top ∷ outer))) xs ≡ Some (reading (with_text (texts_of xs) top ∷ outer))
texts_run [] top outer h = ap (λ o. Some (reading (o ∷ outer))) (grown-same top top.children top.children top.text (top.text ++ []) refl (sym (append-nil top.text)))
texts_run (Start name attrs ∷ xs) top outer h = absurd h.0
texts_run (Empty name attrs ∷ xs) top outer h = absurd h.0
texts_run (End name ∷ xs) top outer h = absurd h.0
texts_run (Comment ∷ xs) top outer h = texts_run xs top outer h.1
texts_run (CData text ∷ xs) top outer h =
    texts_run xs (with_text text top) outer h.1
    ∙ ap (λ o. Some (reading (o ∷ outer))) (grown-same top top.children top.children ((top.text ++ text) ++ texts_of xs) (top.text ++ (text ++ texts_of xs)) refl (append_assoc top.text text (texts_of xs)))
texts_run (Text text ∷ xs) top outer h =
    texts_run xs (with_text text top) outer h.1
    ∙ ap (λ o. Some (reading (o ∷ outer))) (grown-same top top.children top.children ((top.text ++ text) ++ texts_of xs) (top.text ++ (text ++ texts_of xs)) refl (append_assoc top.text text (texts_of xs)))

-- a run in three parts
run_parts : (s t u : State) (v : Option State) (xs before inside after : List Piece) → xs ≡ before ++ (inside ++ after)
    → run (Some s) before ≡ Some t → run (Some t) inside ≡ Some u → run (Some u) after ≡ v → run (Some s) xs ≡ v
run_parts s t u v xs before inside after parts first second third =
    ap (run (Some s)) parts ∙ run-append (Some s) before (inside ++ after) ∙ ap (λ o. run o (inside ++ after)) first
    ∙ run-append (Some t) inside after ∙ ap (λ o. run o after) second ∙ third

mutual
  pub element_runs : (e : Element) (xs : List Piece) (outer : List Open) → IsElement e xs → run (Some (reading outer)) xs ≡ Some (put e outer)
  element_runs (element name attrs text children) xs outer (inl (is_tag, no_text, childless)) =
      ap (run (Some (reading outer))) is_tag ∙ ap (λ t. Some (put (element name attrs t none) outer)) (sym no_text) ∙ ap (λ cs. Some (put (element name attrs text cs) outer)) (sym childless)
  element_runs (element name attrs text children) xs outer (inr (inside, runs, parts, content, is_text)) =
      ap (run (Some (reading outer))) parts
      ∙ run-append (Some (reading (begin name attrs ∷ outer))) inside (End name ∷ [])
      ∙ ap (λ o. run o (End name ∷ [])) (content_runs children inside runs (begin name attrs) outer content)
      ∙ end_tag-same name (grown children runs (begin name attrs)) outer refl
      ∙ ap (λ t. Some (put (element name attrs t children) outer)) (sym is_text)

  pub content_runs : (es : Elements) (xs : List Piece) (text : List ℕ) (top : Open) (outer : List Open) → IsContent es xs text → run (Some (reading (top ∷ outer))) xs ≡ Some (reading (grown es text top ∷ outer))
  content_runs none xs text top outer h =
      texts_run xs top outer h.each
      ∙ ap (λ o. Some (reading (o ∷ outer))) (grown-same top top.children (join top.children none) (top.text ++ texts_of xs) (top.text ++ text) (sym (join-none top.children)) (ap (λ t. top.text ++ t) (sym h.joined)))
  content_runs (more e es) xs text top outer (before, inside, after, first, rest, parts, joined, texts, is_element, content) =
      run_parts (reading (top ∷ outer)) (reading (with_text first top ∷ outer)) (reading (with_child e (with_text first top) ∷ outer)) (Some (reading (grown (more e es) text top ∷ outer))) xs before inside after parts
      (texts_run before top outer texts.each ∙ ap (λ t. Some (reading (with_text t top ∷ outer))) (sym texts.joined))
      (element_runs e inside (with_text first top ∷ outer) is_element)
      (content_runs es after rest (with_child e (with_text first top)) outer content
      ∙ ap (λ o. Some (reading (o ∷ outer))) (grown-same top (join (join top.children (more e none)) es) (join top.children (more e es)) ((top.text ++ first) ++ rest) (top.text ++ text) (join-assoc top.children (more e none) es) (append_assoc top.text first rest ∙ ap (λ t. top.text ++ t) (sym joined))))

outer_text-same : (text : List ℕ) (s : State) → only_space text ≡ true → outer_text text s ≡ Some s
outer_text-same text s h = ap (λ b. cond b (Some s) None) h

before_runs : (xs : List Piece) → AllByRecursion IsOuter xs → run (Some (reading [])) xs ≡ Some (reading [])
before_runs [] h = refl
before_runs (Start name attrs ∷ xs) h = absurd h.0
before_runs (Empty name attrs ∷ xs) h = absurd h.0
before_runs (End name ∷ xs) h = absurd h.0
before_runs (Comment ∷ xs) h = before_runs xs h.1
before_runs (CData text ∷ xs) h = absurd h.0
before_runs (Text text ∷ xs) h = ap (λ o. run o xs) (outer_text-same text (reading []) h.0) ∙ before_runs xs h.1

after_runs : (xs : List Piece) (e : Element) → AllByRecursion IsOuter xs → run (Some (done e)) xs ≡ Some (done e)
after_runs [] e h = refl
after_runs (Start name attrs ∷ xs) e h = absurd h.0
after_runs (Empty name attrs ∷ xs) e h = absurd h.0
after_runs (End name ∷ xs) e h = absurd h.0
after_runs (Comment ∷ xs) e h = after_runs xs e h.1
after_runs (CData text ∷ xs) e h = absurd h.0
after_runs (Text text ∷ xs) e h = ap (λ o. run o xs) (outer_text-same text (done e) h.0) ∙ after_runs xs e h.1

-- nested pieces lead to their tree
pub nested_runs : (xs : List Piece) (tree : Element) → Nested xs tree → run (Some (reading [])) xs ≡ Some (done tree)
nested_runs xs tree h =
    run_parts (reading []) (reading []) (done tree) (Some (done tree)) xs h.before h.inside h.after h.parts
    (before_runs h.before h.outer_before) (element_runs tree h.inside [] h.is_element) (after_runs h.after tree h.outer_after)
