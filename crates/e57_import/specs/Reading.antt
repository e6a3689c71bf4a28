-- The text of an open file, read as a whole.
use Rattle.std.specs.Prelude.{◌≡◌, ◌⊎◌, ℕ, ◌+◌, ◌-◌, ◌*◌, ◌/◌, ◌%◌, ◌^◌, ◌≤◌, List, [], ◌∷◌, ◌++◌, length, take, Some, IfSome, IsSomeAnd}
use Rattle.std.specs.List.{range_with_len}
use Rattle.e57_base.specs.Count.{Rose}
use Rattle.e57_base.specs.Source.{SourceView, page_length, rest_of}
use Rattle.e57_base.specs.declared.fault.RunFault.{RunFault}
use Rattle.e57_base.specs.declared.fault.RunFault.TheVariants.{Refused, Source, Out, Memory, Ask}
use Rattle.e57_page.specs.Pages.{AsksFor}

-- the most bytes of a text
abbrev pub text_limit : ℕ
text_limit = 2 ^ 30

-- The text has the length of the open file, and is what it holds, where that is told.
pub record IsText (source : SourceView) (text : List ℕ) : Type 0 where
  pub long : source.size ≡ Some (length text)
  pub told : IfSome source.held (λ file. text ≡ file)

-- The first n pages of the open file were asked for, in their order, each once; what stands behind whole pages counts as one.
abbrev pub ReadsFirst : ℕ → SourceView → SourceView → Type 0
ReadsFirst n old new = AsksFor old (range_with_len 0 n) new

-- at most so many of them were
pub record ReadsSome (most : ℕ) (old new : SourceView) : Type 0 where
  pub count : ℕ
  pub few : count ≤ most
  pub reads : ReadsFirst count old new

-- how many pages so many bytes have, with what stands behind whole pages
abbrev pub pages_of : ℕ → ℕ
pages_of size = (size + 1023) / page_length

-- why a text was not read: the source failed, or memory ran out
abbrev pub IsReadCause : SourceView → RunFault → SourceView → Type 0
IsReadCause old (Refused found) new = ⊥
IsReadCause old Source new = Rose old.faults new.faults
IsReadCause old Out new = ⊥
IsReadCause old Memory new = Unit {0}
IsReadCause old (Ask why) new = ⊥

-- ---- whole pages

-- the open file has so many
abbrev pub HasPages : ℕ → SourceView → Type 0
HasPages count source = IsSomeAnd source.size (λ size. count ≤ size / page_length)

-- The first n were read, and these are their bytes.
pub record ReadsFront (n : ℕ) (old : SourceView) (text : List ℕ) (new : SourceView) : Type 0 where
  pub reads : ReadsFirst n old new
  pub long : length text ≡ page_length * n
  pub told : IfSome old.held (λ file. text ≡ take (page_length * n) file)

-- Not all of so many pages were read.
pub record StopsWithin (most : ℕ) (old : SourceView) (fault : RunFault) (new : SourceView) : Type 0 where
  pub reads : ReadsSome most old new
  pub cause : IsReadCause old fault new

-- ---- what stands behind them

-- It was read and put behind these bytes.
pub record AddsRest (size : ℕ) (before : List ℕ) (old : SourceView) (text : List ℕ) (new : SourceView) : Type 0 where
  pub reads : AsksFor old (size / page_length ∷ []) new
  pub long : length text ≡ length before + size % page_length
  pub told : IfSome old.held (λ file. text ≡ before ++ take (size % page_length) (rest_of file))

pub record StopsAtRest (size : ℕ) (old : SourceView) (fault : RunFault) (new : SourceView) : Type 0 where
  pub reads : AsksFor old (size / page_length ∷ []) new
  pub cause : IsReadCause old fault new

-- ---- the whole

-- All of the open file was read: its pages, and what stands behind them.
pub record ReadsAll (size : ℕ) (old : SourceView) (text : List ℕ) (new : SourceView) : Type 0 where
  pub reads : ReadsFirst (pages_of size) old new
  pub long : length text ≡ size
  pub told : IfSome old.held (λ file. text ≡ file)

-- It was not.
abbrev pub ReadsNoText : ℕ → SourceView → RunFault → SourceView → Type 0
ReadsNoText size old fault new = StopsWithin (pages_of size) old fault new
