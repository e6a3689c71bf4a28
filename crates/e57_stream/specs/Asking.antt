-- The pages that a reader of a stream asks for.
use Rattle.std.specs.Prelude.{ℕ, ◌-◌, ◌≤◌, List, length, IfSome}
use Rattle.std.specs.List.{AllByRecursion}
use Rattle.e57_base.specs.Source.{SourceView}
use Rattle.e57_page.specs.Pages.{AsksFor}
use Rattle.e57_cloud.specs.Met.{InSpan}

-- Pages were asked for, each of which is met in the file, where it is told.
pub record AsksMet (met : List ℕ → ℕ → Type 0) (old new : SourceView) : Type 0 where
  pub pages : List ℕ
  pub are_met : IfSome old.held (λ file. AllByRecursion (met file) pages)
  pub asks : AsksFor old pages new

-- Pages of the bytes from place `low` on and before place `high` were asked for, at most as many as there are bytes.
pub record AsksNear (low high : ℕ) (old new : SourceView) : Type 0 where
  pub pages : List ℕ
  pub in_span : AllByRecursion (InSpan low (high - low)) pages
  pub few : length pages ≤ high - low
  pub asks : AsksFor old pages new
