-- Pages of a file that are asked for, in any order.
use Rattle.std.specs.Prelude.{ℕ, ◌<◌, List, IfSome}
use Rattle.std.specs.List.{AllByRecursion}
use Rattle.e57_base.specs.Source.{SourceView}
use Rattle.e57_page.specs.Pages.{AsksFor}

-- Pages were asked for, each below this number of pages.
pub record AsksPages (count : ℕ) (old new : SourceView) : Type 0 where
  pub pages : List ℕ
  pub within : AllByRecursion (λ (p : ℕ). p < count) pages
  pub asks : AsksFor old pages new

-- The same, where the file is told and this holds of it.
pub record AsksWhere (holds : List ℕ → Type 0) (count : ℕ) (old new : SourceView) : Type 0 where
  pub pages : List ℕ
  pub within : IfSome old.held (λ file. holds file → AllByRecursion (λ (p : ℕ). p < count) pages)
  pub asks : AsksFor old pages new
