-- The physical offset of a place that a writer answers (ASTM E2807, physical layout).
use Rattle.std.proofs.Common.{◌≡◌, ℕ, ◌+◌, ◌*◌, ◌/◌, ◌%◌, ◌<◌, Some, refl, arith}
use Rattle.std.proofs.lemmas.Bool.{lt-ltb}
use Rattle.e57_layout.specs.Written.{physical}
use Rattle.e57_page.specs.Place.{place}
use Rattle.e57_page.proofs.PlaceLaws.{one_physical}

place_is : (q : ℕ) → place (physical q) ≡ Some q
unfolding physical
place_is q = rw (lt-ltb ((q / 1020 * 1024 + q % 1020) % 1024) 1020 (low q), whole q) refl
  where
    low : (q : ℕ) → (q / 1020 * 1024 + q % 1020) % 1024 < 1020
    low q = omega arith

    whole : (q : ℕ) → (q / 1020 * 1024 + q % 1020) / 1024 * 1020 + (q / 1020 * 1024 + q % 1020) % 1024 ≡ q
    whole q = omega arith

-- the offset whose place is q is that of the layouts
pub offset-place : (offset q : ℕ) → place offset ≡ Some q → offset ≡ physical q
offset-place offset q is = one_physical offset (physical q) q is (place_is q)
