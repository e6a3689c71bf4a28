-- Pages that are asked for beside others.
use Rattle.std.specs.Prelude.{ℕ, ◌-◌, ◌<◌, ◌⊎◌, List, [], ◌∷◌}
use Rattle.e57_base.specs.Source.{SourceView}
use Rattle.e57_page.specs.Pages.{AsksFor}
use Rattle.e57_cloud.specs.Met.{InSpan}

-- Of these pages at most n are near, and the others are of a search.
unfoldable pub AreApart : (ℕ → Type 0) → (ℕ → Type 0) → ℕ → List ℕ → Type 0
AreApart search near n [] = Unit {0}
AreApart search near n (p ∷ ps) = (search p × AreApart search near n ps) ⊎ ((0 < n) × near p × AreApart search near (n - 1) ps)

-- Pages of a search were asked for, and beside them pages of the bytes from place `low` on and before place `high`, at most
-- as many as there are bytes.
pub record AsksApart (search : ℕ → Type 0) (low high : ℕ) (old new : SourceView) : Type 0 where
  pub pages : List ℕ
  pub apart : AreApart search (InSpan low (high - low)) (high - low) pages
  pub asks : AsksFor old pages new
