-- Laws of places and of pages that rise.
use Rattle.std.specs.Prelude.{◌≡◌, ℕ, ◌+◌, ◌≤◌, List, [], ◌∷◌, ◌++◌, Some}
use Rattle.std.proofs.Common.{arith}
use Rattle.e57_page.specs.Place.{place, RisesWithin}

-- a place has one physical offset
pub one_physical : (a b q : ℕ) → place a ≡ Some q → place b ≡ Some q → a ≡ b
one_physical a b q = grind arith

-- pages above a bound are above a lower one
pub rises_from_lower : (low' low high : ℕ) (pages : List ℕ) → low' ≤ low → RisesWithin low high pages → RisesWithin low' high pages
rises_from_lower low' low high [] below rises = tt
rises_from_lower low' low high (page ∷ pages) below rises = (omega arith, rises.1, rises.2)

-- pages below a bound, and then pages from it on
pub rises_on : (low mid high : ℕ) (first next : List ℕ) → low ≤ mid → mid ≤ high → RisesWithin low mid first → RisesWithin mid high next → RisesWithin low high (first ++ next)
rises_on low mid high [] next below above rises more = rises_from_lower low mid high next below more
rises_on low mid high (page ∷ pages) next below above rises more =
    (rises.0, omega arith, rises_on (page + 1) mid high pages next (omega arith) above rises.2 more)

pub rises_to_higher : (low high high' : ℕ) (pages : List ℕ) → high ≤ high' → RisesWithin low high pages → RisesWithin low high' pages
rises_to_higher low high high' [] le h = tt
rises_to_higher low high high' (page ∷ pages) le h = (h.0, omega (arith, h.1), rises_to_higher (page + 1) high high' pages le h.2)
