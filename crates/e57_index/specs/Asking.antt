-- The pages that a search in an index asks for.
use Rattle.std.specs.Prelude.{ℕ, ◌-◌, List, IfSome}
use Rattle.std.specs.List.{AllByRecursion}
use Rattle.e57_base.specs.Source.{SourceView}
use Rattle.e57_page.specs.Pages.{AsksFor}
use Rattle.e57_layout.specs.declared.section.Section.{Section}
use Rattle.e57_cloud.specs.Met.{InSpan}

-- page p has some of the section's bytes
abbrev pub InSection : Section → ℕ → Type 0
InSection s p = InSpan s.start (s.end - s.start) p

-- Pages of the section alone were asked for, and if the file is told, each is one that `met` allows of this file.
pub record AsksMet (s : Section) (met : List ℕ → ℕ → Type 0) (old new : SourceView) : Type 0 where
  pub pages : List ℕ
  pub asks : AsksFor old pages new
  pub within : AllByRecursion (InSection s) pages
  pub allowed : IfSome old.held (λ file. AllByRecursion (met file) pages)
