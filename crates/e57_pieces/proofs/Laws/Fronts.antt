-- Words at the front of a text: what is read there is spelled there, and what is spelled there is read.
use Rattle.std.proofs.Common.{◌≡◌, ℕ, suc, ◌<◌, ◌≤◌, Bool, true, false, eqb, List, [], ◌∷◌, ◌++◌, length, ◌⊎◌, inl, inr, Option, Some, None, refl, sym, ap, subst, ◌∙◌, arith}
use Rattle.std.specs.Option.{option_or, option_map}
use Rattle.std.proofs.lemmas.Bool.{eqb-true, eq-eqb}
use Rattle.e57_pieces.proofs.Laws.Characters.{tested}
use Rattle.e57_pieces.specs.Words.{is_space, begins_name, goes_on_name, Each, IsName}
use Rattle.e57_pieces.specs.Start.{strip}
use Rattle.e57_pieces.specs.Reading.{◌>>=◌, given, run, after, cut_at, name_at, space_at}

-- the bytes are a spelling of which P holds, and then the rest
pub record Took (bytes rest : List ℕ) (P : List ℕ → Type 0) : Type 0 where
  pub spelling : List ℕ
  pub holds : P spelling
  pub parts : bytes ≡ spelling ++ rest

-- ---- steps

pub bind_some : {A B : Type 0} (o : Option A) (f : A → Option B) (y : B) → (o >>= f) ≡ Some y → (x : A) × (o ≡ Some x) × (f x ≡ Some y)
bind_some None f y e = absurd cc
bind_some (Some x) f y e = (x, refl, e)

pub given_some : {A : Type 0} (b : Bool) (x y : A) → given b x ≡ Some y → (b ≡ true) × (x ≡ y)
given_some true x y e = (refl, cc)
given_some false x y e = absurd cc

pub map_some : {A B : Type 0} (f : A → B) (o : Option A) (y : B) → option_map f o ≡ Some y → (x : A) × (o ≡ Some x) × (f x ≡ y)
map_some f None y e = absurd cc
map_some f (Some x) y e = (x, refl, cc)

pub or_some : {A : Type 0} (o p : Option A) (y : A) → option_or o p ≡ Some y → (o ≡ Some y) ⊎ ((o ≡ None) × (p ≡ Some y))
or_some None p y e = inr (refl, e)
or_some (Some x) p y e = inl e

pub or_none : {A : Type 0} (o p : Option A) → option_or o p ≡ None → (o ≡ None) × (p ≡ None)
or_none None p e = (refl, e)
or_none (Some x) p e = absurd cc

pub some_none : {A : Type 0} (o : Option A) (x : A) → o ≡ Some x → o ≡ None → ⊥
some_none None x e f = let g : None ≡ Some x = e in cc
some_none (Some y) x e f = let g : Some y ≡ None = f in cc

-- ---- a word

pub strip_took : (word text rest : List ℕ) → strip word text ≡ Some rest → text ≡ word ++ rest
unfolding strip
strip_took [] text rest e = cc
strip_took (p ∷ ps) [] rest e = absurd cc
strip_took (p ∷ ps) (b ∷ bs) rest e =
    elim (tested (eqb b p)) [
      | inl same ↦ consed b p bs (ps ++ rest) (eqb-true b p same) (strip_took ps bs rest (rw same at e))
      | inr differs ↦ let f : None ≡ Some rest = rw differs at e in absurd cc
    ] where
      consed : (b p : ℕ) (xs ys : List ℕ) → b ≡ p → xs ≡ ys → b ∷ xs ≡ p ∷ ys
      consed b p xs ys e f = cc

pub strip_again : (word rest : List ℕ) → strip word (word ++ rest) ≡ Some rest
unfolding strip
strip_again [] rest = refl
strip_again (p ∷ ps) rest = rw (eq-eqb p p refl) (strip_again ps rest)

-- ---- a class

-- the bytes don't begin in the class
abbrev pub BeginsOutside : (ℕ → Bool) → List ℕ → Type 0
BeginsOutside p [] = Unit {0}
BeginsOutside p (b ∷ bs) = p b ≡ false

pub run_after : (p : ℕ → Bool) (bytes : List ℕ) → bytes ≡ run p bytes ++ after p bytes
unfolding run after
run_after p [] = refl
run_after p (b ∷ bs) =
    elim (tested (p b)) [
      | inl holds ↦ rw holds (ap (λ (t : List ℕ). b ∷ t) (run_after p bs))
      | inr fails ↦ rw fails refl
    ]

pub run_each : (p : ℕ → Bool) (bytes : List ℕ) → Each p (run p bytes)
unfolding run
run_each p [] = tt
run_each p (b ∷ bs) =
    elim (tested (p b)) [
      | inl holds ↦ rw holds (holds, run_each p bs)
      | inr fails ↦ rw fails tt
    ]

pub after_stops : (p : ℕ → Bool) (bytes : List ℕ) → BeginsOutside p (after p bytes)
unfolding after
after_stops p [] = tt
after_stops p (b ∷ bs) =
    elim (tested (p b)) [
      | inl holds ↦ rw holds (after_stops p bs)
      | inr fails ↦ rw fails fails
    ]

pub run_stops : (p : ℕ → Bool) (rest : List ℕ) → BeginsOutside p rest → (run p rest ≡ []) × (after p rest ≡ rest)
unfolding run after
run_stops p [] stops = (refl, refl)
run_stops p (b ∷ bs) stops = (rw stops refl, rw stops refl)

pub run_again : (p : ℕ → Bool) (front rest : List ℕ) → Each p front → BeginsOutside p rest → (run p (front ++ rest) ≡ front) × (after p (front ++ rest) ≡ rest)
unfolding run after
run_again p [] rest each stops = run_stops p rest stops
run_again p (b ∷ bs) rest each stops =
    let more = run_again p bs rest each.1 stops in
    (rw each.0 (ap (λ (t : List ℕ). b ∷ t) more.0), rw each.0 more.1)

-- ---- white space and names

pub space_took : (text rest : List ℕ) → space_at text ≡ Some rest → Took text rest (λ s. (0 < length s) × Each is_space s)
unfolding space_at
space_took [] rest e = absurd cc
space_took (b ∷ bs) rest e =
    let g = given_some (is_space b) (after is_space bs) rest e in
    record { spelling = b ∷ run is_space bs; holds = (omega arith, (g.0, run_each is_space bs)); parts = ap (λ (t : List ℕ). b ∷ t) (run_after is_space bs ∙ ap (λ (t : List ℕ). run is_space bs ++ t) g.1) }

pub space_again : (space rest : List ℕ) → 0 < length space → Each is_space space → BeginsOutside is_space rest → space_at (space ++ rest) ≡ Some rest
unfolding space_at
space_again [] rest some each stops = absurd (omega arith)
space_again (b ∷ bs) rest some each stops = rw (each.0, (run_again is_space bs rest each.1 stops).1) refl

pub no_space : (rest : List ℕ) → BeginsOutside is_space rest → space_at rest ≡ None
unfolding space_at
no_space [] stops = refl
no_space (b ∷ bs) stops = rw stops refl

pub name_took : (text : List ℕ) (x : List ℕ × List ℕ) → name_at text ≡ Some x → IsName x.0 × (text ≡ x.0 ++ x.1)
unfolding name_at
name_took [] x e = absurd cc
name_took (b ∷ bs) x e =
    let g = given_some (begins_name b) (b ∷ run goes_on_name bs, after goes_on_name bs) x e in
    subst (λ (y : List ℕ × List ℕ). IsName y.0 × (b ∷ bs ≡ y.0 ++ y.1)) g.1 ((g.0, run_each goes_on_name bs), ap (λ (t : List ℕ). b ∷ t) (run_after goes_on_name bs))

pub name_again : (name rest : List ℕ) → IsName name → BeginsOutside goes_on_name rest → name_at (name ++ rest) ≡ Some (name, rest)
unfolding name_at
name_again [] rest is stops = absurd is
name_again (b ∷ bs) rest is stops =
    let more = run_again goes_on_name bs rest is.1 stops in
    rw (is.0, more.0, more.1) refl

pub no_name : (rest : List ℕ) → BeginsOutside begins_name rest → name_at rest ≡ None
unfolding name_at
no_name [] stops = refl
no_name (b ∷ bs) stops = rw stops refl

-- ---- the first place of a word

pub cut_took : (word text : List ℕ) (x : List ℕ × List ℕ) → cut_at word text ≡ Some x → text ≡ x.0 ++ (word ++ x.1)
unfolding cut_at
cut_took word [] x e = absurd cc
cut_took word (b ∷ bs) x e =
    elim (or_some (option_map (λ (rest : List ℕ). ([], rest)) (strip word (b ∷ bs))) (option_map (λ (y : List ℕ × List ℕ). (b ∷ y.0, y.1)) (cut_at word bs)) x e) [
      | inl here ↦
          let m = map_some (λ (rest : List ℕ). ([], rest)) (strip word (b ∷ bs)) x here in
          subst (λ (y : List ℕ × List ℕ). b ∷ bs ≡ y.0 ++ (word ++ y.1)) m.2 (strip_took word (b ∷ bs) m.0 m.1)
      | inr later ↦
          let m = map_some (λ (y : List ℕ × List ℕ). (b ∷ y.0, y.1)) (cut_at word bs) x later.1 in
          subst (λ (y : List ℕ × List ℕ). b ∷ bs ≡ y.0 ++ (word ++ y.1)) m.2 (ap (λ (t : List ℕ). b ∷ t) (cut_took word bs m.0 m.1))
    ]

abbrev here_then : List ℕ → List ℕ × List ℕ
here_then rest = ([], rest)

abbrev later_then : ℕ → List ℕ × List ℕ → List ℕ × List ℕ
later_then b y = (b ∷ y.0, y.1)

-- the word stands at no earlier place
pub cut_first : (word text : List ℕ) (x : List ℕ × List ℕ) (front back : List ℕ) → cut_at word text ≡ Some x → text ≡ front ++ (word ++ back) → length x.0 ≤ length front
unfolding cut_at
cut_first word [] x front back e f = absurd cc
cut_first word (b ∷ bs) x [] back e f =
    let first : option_map here_then (strip word (b ∷ bs)) ≡ Some ([], back) = rw f (rw strip_again refl) in
    let same : x ≡ ([], back) = one_some x ([], back) (sym e ∙ rw first refl) in
    rw same (omega arith) where
      one_some : (x y : List ℕ × List ℕ) → Some x ≡ Some y → x ≡ y
      one_some x y e = cc
cut_first word (b ∷ bs) x (c ∷ cs) back e f =
    elim (or_some (option_map here_then (strip word (b ∷ bs))) (option_map (later_then b) (cut_at word bs)) x e) [
      | inl here ↦
          let m = map_some here_then (strip word (b ∷ bs)) x here in
          subst (λ (y : List ℕ × List ℕ). length y.0 ≤ suc (length cs)) m.2 (omega arith)
      | inr later ↦
          let m = map_some (later_then b) (cut_at word bs) x later.1 in
          let t : bs ≡ cs ++ (word ++ back) = cc in
          let le : length m.0.0 ≤ length cs = cut_first word bs m.0 cs back m.1 t in
          subst (λ (y : List ℕ × List ℕ). length y.0 ≤ suc (length cs)) m.2 (omega arith)
    ]

-- what stands before a word that stands nowhere earlier
pub cut_again : (word text rest : List ℕ) → 0 < length word → ((front back : List ℕ) → text ++ (word ++ rest) ≡ front ++ (word ++ back) → length text ≤ length front) → cut_at word (text ++ (word ++ rest)) ≡ Some (text, rest)
unfolding cut_at
cut_again [] text rest some least = absurd (omega arith)
cut_again (p ∷ ps) [] rest some least =
    let first : strip (p ∷ ps) (p ∷ (ps ++ rest)) ≡ Some rest = strip_again (p ∷ ps) rest in
    rw first refl
cut_again (p ∷ ps) (b ∷ bs) rest some least =
    let never : strip (p ∷ ps) (b ∷ (bs ++ (p ∷ ps ++ rest))) ≡ None = not_here p ps b bs rest least in
    let more : cut_at (p ∷ ps) (bs ++ (p ∷ ps ++ rest)) ≡ Some (bs, rest) = cut_again (p ∷ ps) bs rest some (λ front back e. shorter b bs front (least (b ∷ front) back (ap (λ (t : List ℕ). b ∷ t) e))) in
    rw (never, more) refl where
      seen : {A : Type 0} (o : Option A) → (o ≡ None) ⊎ ((x : A) × (o ≡ Some x))
      seen None = inl refl
      seen (Some x) = inr (x, refl)

      not_here : (p : ℕ) (ps : List ℕ) (b : ℕ) (bs rest : List ℕ) → ((front back : List ℕ) → b ∷ (bs ++ (p ∷ ps ++ rest)) ≡ front ++ (p ∷ ps ++ back) → length (b ∷ bs) ≤ length front) → strip (p ∷ ps) (b ∷ (bs ++ (p ∷ ps ++ rest))) ≡ None
      not_here p ps b bs rest least =
          elim (seen (strip (p ∷ ps) (b ∷ (bs ++ (p ∷ ps ++ rest))))) [
            | inl none ↦ none
            | inr found ↦ absurd (omega (arith, least [] found.0 (strip_took (p ∷ ps) (b ∷ (bs ++ (p ∷ ps ++ rest))) found.0 found.1)))
          ]

      shorter : (b : ℕ) (bs front : List ℕ) → length (b ∷ bs) ≤ length (b ∷ front) → length bs ≤ length front
      shorter b bs front le = omega arith
