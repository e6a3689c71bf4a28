-- What pages a command asks for that opens its file and then reads on.
use Rattle.std.specs.Prelude.{◌≡◌, ℕ, ◌≤◌, List, [], length, IfSome}
use Rattle.e57_base.specs.Source.{SourceView}
use Rattle.e57_page.specs.File.{length_fault, opening_fault}

-- Of a file whose length has a fault no page is asked for, and of one with a fault of its header or of page 0 no other
-- page than that.
pub record StopsAtOpening (pages : List ℕ) (source : SourceView) : Type 0 where
  pub by_length : IfSome source.size (λ size. IfSome (length_fault size) (λ _. pages ≡ []))
  pub by_first : IfSome source.held (λ file. IfSome (opening_fault file) (λ _. length pages ≤ 1))
