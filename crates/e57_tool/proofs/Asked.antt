-- What pages were asked for when a file was opened.
use Rattle.std.proofs.Common.{◌≡◌, ℕ, ◌≤◌, List, [], ◌∷◌, length, Option, Some, None, refl, lit≤}
use Rattle.std.specs.Prelude.{IfSome}
use Rattle.e57_base.specs.Source.{SourceView}
use Rattle.e57_base.specs.declared.fault.Fault.{Fault}
use Rattle.e57_page.specs.File.{length_fault, opening_fault}
use Rattle.e57_tool.specs.PagesAsked.{StopsAtOpening}

-- a fact of each value is one of the value there is
pub told_always : {A : Type 0} (P : A → Type 0) (held : Option A) → ((x : A) → P x) → IfSome held P
told_always P None f = tt
told_always P (Some x) f = f x

no_fault : (P : Fault → Type 0) (found : Option Fault) → found ≡ None → IfSome found P
no_fault P None is = tt
no_fault P (Some found) is = absurd cc

whole_length : (told : Option ℕ) (size : ℕ) (P : Type 0) → told ≡ Some size → length_fault size ≡ None → IfSome told (λ n. IfSome (length_fault n) (λ _. P))
whole_length None size P is whole = tt
whole_length (Some n) size P is whole = let same : n ≡ size = cc in rw same (no_fault (λ _. P) (length_fault size) whole)

sound_opening : (P : Type 0) (held : Option (List ℕ)) → IfSome held (λ file. opening_fault file ≡ None) → IfSome held (λ file. IfSome (opening_fault file) (λ _. P))
sound_opening P None sound = tt
sound_opening P (Some file) sound = no_fault (λ _. P) (opening_fault file) sound

pub stops_before : (source : SourceView) → StopsAtOpening [] source
stops_before source =
    let none : List ℕ = [] in
    record {
      by_length = told_always (λ n. IfSome (length_fault n) (λ _. none ≡ [])) source.size (λ n. told_always (λ _. none ≡ []) (length_fault n) (λ _. refl));
      by_first = told_always (λ file. IfSome (opening_fault file) (λ _. 0 ≤ 1)) source.held (λ file. told_always (λ _. 0 ≤ 1) (opening_fault file) (λ _. lit≤ tt));
    }

pub stops_at_first : (source : SourceView) (size : ℕ) → source.size ≡ Some size → length_fault size ≡ None → StopsAtOpening (0 ∷ []) source
stops_at_first source size is whole =
    record {
      by_length = whole_length source.size size (0 ∷ [] ≡ []) is whole;
      by_first = told_always (λ file. IfSome (opening_fault file) (λ _. 1 ≤ 1)) source.held (λ file. told_always (λ _. 1 ≤ 1) (opening_fault file) (λ _. lit≤ tt));
    }

-- of a file without such a fault any pages may be asked for
pub goes_on : (source : SourceView) (pages : List ℕ) (size : ℕ) → source.size ≡ Some size → length_fault size ≡ None → IfSome source.held (λ file. opening_fault file ≡ None) → StopsAtOpening pages source
goes_on source pages size is whole sound =
    record {
      by_length = whole_length source.size size (pages ≡ []) is whole;
      by_first = sound_opening (length pages ≤ 1) source.held sound;
    }
