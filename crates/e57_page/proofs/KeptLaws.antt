-- Laws of the pages that are kept.
use Rattle.std.specs.Prelude.{◌≡◌, ℕ, ◌<◌, ◌≤◌, Bool, true, false, List, [], ◌∷◌, ◌++◌}
use Rattle.std.proofs.Common.{refl, ◌∙◌, inl, inr, arith, ⊎_elim}
use Rattle.std.proofs.lemmas.Bool.{cases_lt}
use Rattle.e57_page.specs.Place.{RisesWithin}
use Rattle.e57_page.specs.Kept.{is_kept, AreUnkept, KeepsTo}

-- nothing was read
pub keeps_none : (kept : List ℕ) (low high : ℕ) → KeepsTo kept low low high kept
keeps_none kept low high =
    record {
      last = λ k below near held. ⊎_elim (λ (from : low ≤ k). absurd (omega arith)) (λ (is : is_kept kept k ≡ true). is) held;
      later = λ k from below. refl;
      no_other = λ k held. inl held;
    }

-- the same pages of a range were read in two steps
pub keeps_on : (a b c : List ℕ) (low mid end high : ℕ) → low ≤ mid → mid ≤ end → KeepsTo a low mid high b → KeepsTo b mid end high c → KeepsTo a low end high c
keeps_on a b c low mid end high begun on first next =
    record {
      last = λ k below near held.
          ⊎_elim
          (λ (before : k < mid). next.last k (omega arith) near (inr (first.last k before near held)))
          (λ (from : mid ≤ k). next.last k below near (inl from))
          (cases_lt k mid);
      later = λ k from below. next.later k from below ∙ first.later k (omega arith) below;
      no_other = λ k held.
          ⊎_elim
          (λ (was : is_kept b k ≡ true).
          ⊎_elim
          (λ (at_first : is_kept a k ≡ true). inl at_first)
          (λ (read : (low ≤ k) × (k < mid)). inr (read.0, omega (arith, read.1)))
          (first.no_other k was))
          (λ (read : (mid ≤ k) × (k < end)). inr (omega (arith, read.0), read.1))
          (next.no_other k held);
    }

-- pages that aren't kept, and others that aren't
pub unkept_on : (kept first next : List ℕ) → AreUnkept kept first → AreUnkept kept next → AreUnkept kept (first ++ next)
unkept_on kept [] next before after = after
unkept_on kept (page ∷ pages) next before after = (before.0, unkept_on kept pages next before.1 after)

-- pages that rise from a bound on and aren't kept rise from a later one on where all between are kept
pub rises_from_unkept : (kept : List ℕ) (low mid high : ℕ) (pages : List ℕ) → ((k : ℕ) → low ≤ k → k < mid → is_kept kept k ≡ true) → RisesWithin low high pages → AreUnkept kept pages → RisesWithin mid high pages
rises_from_unkept kept low mid high [] are_kept rises unkept = tt
rises_from_unkept kept low mid high (page ∷ pages) are_kept rises unkept =
    ⊎_elim
    (λ (below : page < mid). let held = are_kept page rises.0 below in absurd (true_is_false (is_kept kept page) held unkept.0))
    (λ (from : mid ≤ page). (from, rises.1, rises.2))
    (cases_lt page mid)
  where
    true_is_false : (b : Bool) → b ≡ true → b ≡ false → ⊥
    true_is_false true t f = cc
    true_is_false false t f = cc
