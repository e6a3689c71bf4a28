-- A run of a block is what a cloud takes.
use Rattle.std.proofs.Common.{◌≡◌, ℕ, suc, ◌-◌, true, List, [], ◌∷◌, length, take, drop, refl, ap, ◌∙◌}
use Rattle.std.specs.Prelude.{Result, Ok, Err, MatchResult}
use Rattle.e57_layout.specs.Values.{ItemKind, integers, words, strings, Value, octets}
use Rattle.e57_column.specs.Reading.{AreWhole}
use Rattle.e57_blocks.specs.Runs.{strings_from, AreEndsFrom}
use Rattle.e57_chunk_out.specs.CloudCalls.{kind_of, with_items, IsInteger}
use Rattle.e57_chunk_out.specs.Standing.{Cloud}
use Rattle.e57_chunk_out.specs.Texts.{strings_at, AreEnds}

pub strings_same : (bytes : List ℕ) (begin : ℕ) (ends : List ℕ) → strings_at bytes begin ends ≡ strings_from bytes begin ends
unfolding strings_at strings_from
strings_same bytes begin [] = refl
strings_same bytes begin (e ∷ ends) = ap (λ (values : List Value). octets (take (e - begin) (drop begin bytes)) ∷ values) (strings_same bytes e ends)

pub ends_same : (most begin : ℕ) (ends : List ℕ) → AreEndsFrom most begin ends → AreEnds most begin ends
unfolding AreEndsFrom AreEnds
ends_same most begin [] are = are
ends_same most begin (e ∷ ends) are = (are.0, are.1, ends_same most e ends are.2)

pub whole_integer : (kind : ItemKind) → AreWhole kind → IsInteger kind
whole_integer (integers low high) is = tt
whole_integer (words w) is = absurd is
whole_integer strings is = absurd is

pub length-strings_from : (bytes : List ℕ) (begin : ℕ) (ends : List ℕ) → length (strings_from bytes begin ends) ≡ length ends
unfolding strings_from
length-strings_from bytes begin [] = refl
length-strings_from bytes begin (e ∷ ends) = ap suc (length-strings_from bytes e ends)

-- strings that a cloud took, or for which there is no memory
pub strings_taken : {E : Type 0} (result : Result (Unit {0}) E) (c new : Cloud) (f : ℕ) (bytes : List ℕ) (begin : ℕ) (ends : List ℕ) → kind_of c f ≡ strings
    → MatchResult result (λ x. new ≡ with_items c f (strings_at bytes begin ends)) (λ x. new.is_spent ≡ true)
    → MatchResult result (λ x. new ≡ with_items c f (strings_from bytes begin ends)) (λ x. (new.is_spent ≡ true) × (kind_of c f ≡ strings))
strings_taken (Ok x) c new f bytes begin ends texts is = is ∙ ap (with_items c f) (strings_same bytes begin ends)
strings_taken (Err e) c new f bytes begin ends texts is = (is, texts)
