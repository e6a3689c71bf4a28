-- What a source of files tells, and what its calls do to it.
use Rattle.std.specs.Prelude.{◌≡◌, ℕ, ◌-◌, ◌*◌, ◌/◌, ◌%◌, ◌<◌, ◌≤◌, ◌≢◌, Bool, true, false, if◌then◌else◌, List, [], ◌∷◌, ◌++◌, length, take, drop, replicate, Option, Some, None, is_none, IfSome, IsSomeAnd, Result, IsErr, OnOk, OnErr}
use Rattle.std.specs.Result.{result_ok}
use Rattle.std.specs.Ordering.{nat_cmp}
use Rattle.std.specs.Cmp.Lexicographic.{slice_cmp}
use Rattle.std.specs.FinMap.{FinMap, get}
use Rattle.e57_base.specs.Count.{raised, Rose}
use Rattle.e57_base.specs.declared.fault.Failed.{Failed}

-- files by their names
abbrev pub Stock : Type 0
Stock = FinMap (slice_cmp nat_cmp) (List ℕ)

-- the meanings of a source
pub record SourceView : Type 0 where
  -- the files that it has; no call changes it
  pub stock : Option Stock
  -- the length of the open file, none where no file is open
  pub size : Option ℕ
  -- the bytes of the open file
  pub held : Option (List ℕ)
  -- the pages asked for so far, in order
  pub asked : Option (List ℕ)
  -- how many files were opened or failed to open
  pub opened : ℕ
  -- how many names were opened that aren't in the stock
  pub missed : ℕ
  -- how many calls failed, at least
  pub faults : ℕ

-- what is held is as long as the open file
abbrev pub HoldsSize : SourceView → Type 0
HoldsSize source = IfSome source.held (λ file. source.size ≡ Some (length file))

-- the stock is told and doesn't have the name
abbrev pub misses : Option Stock → List ℕ → Bool
misses None name = false
misses (Some files) name = is_none (get files name)

-- `open` of a name
pub record Opens (old : SourceView) (name : List ℕ) (result : Result ℕ Failed) (new : SourceView) : Type 0 where
  pub stock : new.stock ≡ old.stock
  -- a failed call leaves no file open
  pub size : new.size ≡ result_ok result
  pub held : OnOk result (IfSome old.stock (λ files. new.held ≡ get files name))
  pub asked : new.asked ≡ old.asked
  pub opened : new.opened ≡ raised old.opened
  pub missed : new.missed ≡ (if misses old.stock name then raised old.missed else old.missed)
  pub absent : misses old.stock name ≡ true → IsErr result
  pub faults : old.faults ≤ new.faults
  pub cause : OnErr result (Rose old.faults new.faults)

-- the bytes of a page (ASTM E2807, physical layout)
abbrev pub page_length : ℕ
page_length = 1024

-- the file has a page n
abbrev pub HasPage : SourceView → ℕ → Type 0
HasPage source n = IsSomeAnd source.size (λ size. n < size / page_length)

-- page n of a file: 1024 bytes where the file has them
abbrev pub page_of : List ℕ → ℕ → List ℕ
page_of file n = take page_length (drop (page_length * n) file)

-- the file's length is no multiple of 1024
abbrev pub HasRest : SourceView → Type 0
HasRest source = IsSomeAnd source.size (λ size. size % page_length ≢ 0)

-- the bytes of a file behind its whole pages, and zeros behind them, 1024 bytes in all
abbrev pub rest_of : List ℕ → List ℕ
rest_of file =
    let rest = drop (length file / page_length * page_length) file in
    rest ++ replicate (page_length - length rest) 0

-- The file that is open stays, and so do the stock and the counts of opens.
pub record SameFile (old new : SourceView) : Type 0 where
  pub stock : new.stock ≡ old.stock
  pub size : new.size ≡ old.size
  pub held : new.held ≡ old.held
  pub opened : new.opened ≡ old.opened
  pub missed : new.missed ≡ old.missed

-- These pages were asked for, in this order. Where the list isn't told any more, nothing is known of it.
abbrev pub Asks : Option (List ℕ) → List ℕ → Option (List ℕ) → Type 0
Asks before pages None = Unit {0}
Asks None pages (Some now) = ⊥
Asks (Some before) pages (Some now) = now ≡ before ++ pages

-- `read_page` of page n
pub record ReadsPage {T : Type 0} (old : SourceView) (n : ℕ) (page : List ℕ) (result : Result T Failed) (new : SourceView) : Type 0 where
  pub same : SameFile old new
  pub asked : Asks old.asked (n ∷ []) new.asked
  pub read : OnOk result (IfSome old.held (λ file. page ≡ page_of file n))
  pub faults : old.faults ≤ new.faults
  pub cause : OnErr result (Rose old.faults new.faults)

-- `read_rest`; in the log it stands as the page that the rest begins
pub record ReadsRest {T : Type 0} (old : SourceView) (rest : List ℕ) (result : Result T Failed) (new : SourceView) : Type 0 where
  pub same : SameFile old new
  pub asked : IfSome old.size (λ size. Asks old.asked (size / page_length ∷ []) new.asked)
  pub read : OnOk result (IfSome old.held (λ file. rest ≡ rest_of file))
  pub faults : old.faults ≤ new.faults
  pub cause : OnErr result (Rose old.faults new.faults)
