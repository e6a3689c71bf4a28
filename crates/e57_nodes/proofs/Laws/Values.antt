-- The value of one attribute is replaced.
use Rattle.std.proofs.Common.{◌≡◌, ℕ, suc, Bool, true, false, cond, not, ◌&&◌, ◌||◌, List, [], ◌∷◌, length, Some, None, option_map, refl, sym, ap, ◌∙◌}
use Rattle.std.specs.List.{list_any, AllByRecursion}
use Rattle.std.specs.Str.{bytes_eq}
use Rattle.std.proofs.lemmas.Slice.Eq.{bytes_eq-Decides}
use Rattle.e57_pieces.specs.declared.piece.Attr.{Attr}
use Rattle.e57_pieces.specs.Grammar.{differ}
use Rattle.e57_nodes.specs.Facts.{value_of}
use Rattle.e57_nodes.specs.Places.{with_value}

abbrev revalued : List ℕ → Attr → Attr
revalued value attr = record { name = attr.name; value = value }

-- one attribute at a time: it has the name, or another one follows
with_value-here : (name value : List ℕ) (attr : Attr) (attrs : List Attr) → bytes_eq attr.name name ≡ true → with_value name value (attr ∷ attrs) ≡ revalued value attr ∷ attrs
unfolding with_value
with_value-here name value attr attrs e = ap (λ (b : Bool). cond b (revalued value attr ∷ attrs) (attr ∷ with_value name value attrs)) e

with_value-later : (name value : List ℕ) (attr : Attr) (attrs : List Attr) → bytes_eq attr.name name ≡ false → with_value name value (attr ∷ attrs) ≡ attr ∷ with_value name value attrs
unfolding with_value
with_value-later name value attr attrs e = ap (λ (b : Bool). cond b (revalued value attr ∷ attrs) (attr ∷ with_value name value attrs)) e

value_of-here : (name : List ℕ) (attr : Attr) (attrs : List Attr) → bytes_eq attr.name name ≡ true → value_of name (attr ∷ attrs) ≡ Some attr.value
unfolding value_of
value_of-here name attr attrs e = ap (λ (b : Bool). cond b (Some attr.value) (value_of name attrs)) e

value_of-later : (name : List ℕ) (attr : Attr) (attrs : List Attr) → bytes_eq attr.name name ≡ false → value_of name (attr ∷ attrs) ≡ value_of name attrs
unfolding value_of
value_of-later name attr attrs e = ap (λ (b : Bool). cond b (Some attr.value) (value_of name attrs)) e

value_of-none : (name : List ℕ) → value_of name [] ≡ None
unfolding value_of
value_of-none name = refl

with_value-none : (name value : List ℕ) → with_value name value [] ≡ []
unfolding with_value
with_value-none name value = refl

-- The attribute has the new value, if it is there.
pub value_of-with_value : (name value : List ℕ) (attrs : List Attr) → value_of name (with_value name value attrs) ≡ option_map (λ _. value) (value_of name attrs)
value_of-with_value name value [] = rw (with_value-none name value, value_of-none name) refl
value_of-with_value name value (attr ∷ attrs) = by_test (value_of-with_value name value attrs) (bytes_eq attr.name name) refl where
  by_test : value_of name (with_value name value attrs) ≡ option_map (λ _. value) (value_of name attrs) → (b : Bool) → bytes_eq attr.name name ≡ b → value_of name (with_value name value (attr ∷ attrs)) ≡ option_map (λ _. value) (value_of name (attr ∷ attrs))
  by_test ih true e = rw (with_value-here name value attr attrs e, value_of-here name (revalued value attr) attrs e, value_of-here name attr attrs e) refl
  by_test ih false e =
      rw (with_value-later name value attr attrs e, value_of-later name attr (with_value name value attrs) e, value_of-later name attr attrs e)
      ih

-- An attribute of another name has the value that it had.
pub value_of-with_other : (name value other : List ℕ) (attrs : List Attr) → bytes_eq name other ≡ false → value_of other (with_value name value attrs) ≡ value_of other attrs
value_of-with_other name value other [] ne = ap (value_of other) (with_value-none name value)
value_of-with_other name value other (attr ∷ attrs) ne = by_tests (value_of-with_other name value other attrs ne) (bytes_eq attr.name name) refl (bytes_eq attr.name other) refl where
  by_tests : value_of other (with_value name value attrs) ≡ value_of other attrs → (b : Bool) → bytes_eq attr.name name ≡ b → (c : Bool) → bytes_eq attr.name other ≡ c → value_of other (with_value name value (attr ∷ attrs)) ≡ value_of other (attr ∷ attrs)
  by_tests ih true e true f =
      let same : attr.name ≡ name = (bytes_eq-Decides attr.name name).0 e in
      let g : bytes_eq name other ≡ true = ap (λ n. bytes_eq n other) (sym same) ∙ f in
      absurd (cc)
  by_tests ih true e false f = rw (with_value-here name value attr attrs e, value_of-later other (revalued value attr) attrs f, value_of-later other attr attrs f) refl
  by_tests ih false e true f = rw (with_value-later name value attr attrs e, value_of-here other attr (with_value name value attrs) f, value_of-here other attr attrs f) refl
  by_tests ih false e false f =
      rw (with_value-later name value attr attrs e, value_of-later other attr (with_value name value attrs) f, value_of-later other attr attrs f)
      ih

-- The last value counts.
pub with_value-twice : (name first second : List ℕ) (attrs : List Attr) → with_value name second (with_value name first attrs) ≡ with_value name second attrs
with_value-twice name first second [] = ap (with_value name second) (with_value-none name first)
with_value-twice name first second (attr ∷ attrs) = by_test (with_value-twice name first second attrs) (bytes_eq attr.name name) refl where
  by_test : with_value name second (with_value name first attrs) ≡ with_value name second attrs → (b : Bool) → bytes_eq attr.name name ≡ b → with_value name second (with_value name first (attr ∷ attrs)) ≡ with_value name second (attr ∷ attrs)
  by_test ih true e = rw (with_value-here name first attr attrs e, with_value-here name second (revalued first attr) attrs e, with_value-here name second attr attrs e) refl
  by_test ih false e =
      rw (with_value-later name first attr attrs e, with_value-later name second attr (with_value name first attrs) e, with_value-later name second attr attrs e)
      (ap (λ rest. attr ∷ rest) ih)

-- There are as many attributes.
pub length-with_value : (name value : List ℕ) (attrs : List Attr) → length (with_value name value attrs) ≡ length attrs
length-with_value name value [] = ap length (with_value-none name value)
length-with_value name value (attr ∷ attrs) = by_test (length-with_value name value attrs) (bytes_eq attr.name name) refl where
  by_test : length (with_value name value attrs) ≡ length attrs → (b : Bool) → bytes_eq attr.name name ≡ b → length (with_value name value (attr ∷ attrs)) ≡ length (attr ∷ attrs)
  by_test ih true e = ap length (with_value-here name value attr attrs e)
  by_test ih false e = ap length (with_value-later name value attr attrs e) ∙ ap suc ih

-- what holds of each attribute, and of one with the new value, holds of each afterwards
pub all-with_value : (P : Attr → Type 0) (name value : List ℕ) (attrs : List Attr) → ((attr : Attr) → P attr → P (revalued value attr)) → AllByRecursion P attrs → AllByRecursion P (with_value name value attrs)
all-with_value P name value [] keeps h = rw (with_value-none name value) tt
all-with_value P name value (attr ∷ attrs) keeps h = by_test (all-with_value P name value attrs keeps h.1) (bytes_eq attr.name name) refl where
  by_test : AllByRecursion P (with_value name value attrs) → (b : Bool) → bytes_eq attr.name name ≡ b → AllByRecursion P (with_value name value (attr ∷ attrs))
  by_test ih true e = rw (with_value-here name value attr attrs e) (keeps attr h.0, h.1)
  by_test ih false e = rw (with_value-later name value attr attrs e) (h.0, ih)

-- the names are the same ones
any_named : (word name value : List ℕ) (attrs : List Attr)
    → list_any (λ (other : Attr). bytes_eq word other.name) (with_value name value attrs) ≡ list_any (λ (other : Attr). bytes_eq word other.name) attrs
any_named word name value [] = ap (list_any (λ (other : Attr). bytes_eq word other.name)) (with_value-none name value)
any_named word name value (attr ∷ attrs) = by_test (any_named word name value attrs) (bytes_eq attr.name name) refl where
  by_test : list_any (λ (other : Attr). bytes_eq word other.name) (with_value name value attrs) ≡ list_any (λ (other : Attr). bytes_eq word other.name) attrs
      → (b : Bool) → bytes_eq attr.name name ≡ b
      → list_any (λ (other : Attr). bytes_eq word other.name) (with_value name value (attr ∷ attrs)) ≡ list_any (λ (other : Attr). bytes_eq word other.name) (attr ∷ attrs)
  by_test ih true e = ap (list_any (λ (other : Attr). bytes_eq word other.name)) (with_value-here name value attr attrs e)
  by_test ih false e =
      ap (list_any (λ (other : Attr). bytes_eq word other.name)) (with_value-later name value attr attrs e)
      ∙ ap (λ b. bytes_eq word attr.name || b) ih

-- The names differ where they differed.
pub differ-with_value : (name value : List ℕ) (attrs : List Attr) → differ (with_value name value attrs) ≡ differ attrs
differ-with_value name value [] = ap differ (with_value-none name value)
differ-with_value name value (attr ∷ attrs) = by_test (differ-with_value name value attrs) (bytes_eq attr.name name) refl where
  by_test : differ (with_value name value attrs) ≡ differ attrs → (b : Bool) → bytes_eq attr.name name ≡ b → differ (with_value name value (attr ∷ attrs)) ≡ differ (attr ∷ attrs)
  by_test ih true e = ap differ (with_value-here name value attr attrs e)
  by_test ih false e =
      ap differ (with_value-later name value attr attrs e)
      ∙ ap (λ b. not b && differ (with_value name value attrs)) (any_named attr.name name value attrs)
      ∙ ap (λ b. not (list_any (λ (other : Attr). bytes_eq attr.name other.name) attrs) && b) ih
