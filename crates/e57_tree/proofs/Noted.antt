-- A name with its number among those that are noted.
use Rattle.std.proofs.Common.{◌≡◌, ℕ, Bool, true, false, cond, List, Option, Some, None, refl, sym, ap, ◌∙◌}
use Rattle.std.specs.Option.{option_or}
use Rattle.std.specs.Str.{bytes_eq}
use Rattle.std.proofs.lemmas.Slice.Eq.{bytes_eq-Decides}

or_none : (found : Option ℕ) → option_or found None ≡ found
or_none None = refl
or_none (Some n) = refl

-- one name more, which had no number
pub noted_new : (old new : List ℕ → Option ℕ) (name : List ℕ) (number : ℕ) → old name ≡ None → ((q : List ℕ) → new q ≡ cond (bytes_eq name q) (Some number) (old q))
    → (q : List ℕ) → new q ≡ option_or (old q) (cond (bytes_eq name q) (Some number) None)
noted_new old new name number absent updates q = by_test (bytes_eq name q) refl where
  by_test : (b : Bool) → bytes_eq name q ≡ b → new q ≡ option_or (old q) (cond (bytes_eq name q) (Some number) None)
  by_test true e =
      let same : name ≡ q = (bytes_eq-Decides name q).0 e in
      updates q ∙ ap (λ (b : Bool). cond b (Some number) (old q)) e ∙ sym (ap (λ o. option_or o (cond (bytes_eq name q) (Some number) None)) (ap old (sym same) ∙ absent) ∙ ap (λ (b : Bool). cond b (Some number) None) e)
  by_test false e =
      updates q ∙ ap (λ (b : Bool). cond b (Some number) (old q)) e ∙ sym (ap (λ (b : Bool). option_or (old q) (cond b (Some number) None)) e ∙ or_none (old q))
