-- A file whose first byte is 0 has the fault of its length, or no signature.
use Rattle.std.proofs.Common.{◌≡◌, ℕ, ◌*◌, ◌<◌, ◌≤◌, List, [], ◌∷◌, length, take, slice_index, Option, Some, None, IfSome, refl, sym, ap, subst, ◌∙◌, arith, ⊎_elim}
use Rattle.std.specs.Option.{option_or}
use Rattle.std.proofs.lemmas.List.{get_or-take}
use Rattle.e57_base.specs.Fault.{fault}
use Rattle.e57_base.specs.Target.{Torn, TornWhereTold}
use Rattle.e57_base.specs.declared.kind.Kind.TheVariants.{FileLength, Signature}
use Rattle.e57_page.specs.File.{length_fault}
use Rattle.e57_page.specs.Header.{header_fault}
use Rattle.e57_page_out.specs.Writing.{IsUnfinished}

-- no signature begins with 0
no_signature : (file : List ℕ) (n : ℕ) → header_fault (0 ∷ file) n ≡ Some (fault Signature 0 0)
unfolding header_fault
no_signature file n = refl

no_length : length_fault 0 ≡ Some (fault FileLength 0 0)
unfolding length_fault
no_length = refl

or_same : {A : Type 0} (a b c : Option A) → b ≡ c → option_or a b ≡ option_or a c
or_same a b c same = ap (option_or a) same

pub unfinished : (file : List ℕ) → slice_index file 0 ≡ 0 → IsUnfinished file
unfinished [] first = rw no_length refl
unfinished (b ∷ bs) first = subst (λ x. IsUnfinished (x ∷ bs)) (sym zero_first) (rw (no_signature bs (length (0 ∷ bs))) refl) where
  zero_first : b ≡ 0
  zero_first = first

-- a page behind page 0 leaves the first byte as it was
first_kept : (n : ℕ) (a b : List ℕ) → 1 ≤ n → take (1024 * n) a ≡ take (1024 * n) b → slice_index a 0 ≡ slice_index b 0
first_kept n a b from same =
    let inside : 0 < 1024 * n = omega arith in
    sym (get_or-take (1024 * n) a 0 0 inside) ∙ ap (λ (xs : List ℕ). slice_index xs 0) same ∙ get_or-take (1024 * n) b 0 0 inside

pub torn_behind : (n : ℕ) (page old new : List ℕ) → 1 ≤ n → Torn n page old new → slice_index old 0 ≡ 0 → slice_index new 0 ≡ 0
torn_behind n page old new from torn first = first_kept n new old from torn.before ∙ first

-- the same where the bytes may not be told
pub torn_told : (n : ℕ) (page : List ℕ) (old new : Option (List ℕ)) → 1 ≤ n → TornWhereTold n page old new → IfSome old (λ file. slice_index file 0 ≡ 0) → IfSome new IsUnfinished
torn_told n page None None from torn first = tt
torn_told n page (Some old) None from torn first = tt
torn_told n page None (Some new) from torn first = absurd torn
torn_told n page (Some old) (Some new) from torn first = unfinished new (torn_behind n page old new from torn first)

-- page 0 was put as zeros, or what is new of it was torn
pub torn_blank : (page old new : List ℕ) → slice_index old 0 ≡ 0 → slice_index page 0 ≡ 0 → Torn 0 page old new → slice_index new 0 ≡ 0
torn_blank page old [] first blank torn = refl
torn_blank page old (b ∷ bs) first blank torn =
    ⊎_elim
    (λ (same : slice_index (b ∷ bs) 0 ≡ slice_index old 0). same ∙ first)
    (λ (same : slice_index (b ∷ bs) 0 ≡ slice_index page 0). same ∙ blank)
    (torn.each 0 (omega arith) (omega arith) (omega arith))

pub torn_first : (page : List ℕ) (old new : Option (List ℕ)) → TornWhereTold 0 page old new → IfSome old (λ file. slice_index file 0 ≡ 0) → slice_index page 0 ≡ 0 → IfSome new IsUnfinished
torn_first page None None torn first blank = tt
torn_first page (Some old) None torn first blank = tt
torn_first page None (Some new) torn first blank = absurd torn
torn_first page (Some old) (Some new) torn first blank = unfinished new (torn_blank page old new first blank torn)
