-- A file that is opened by its name, once, and then gives pages.
use Rattle.std.specs.Prelude.{◌≡◌, ℕ, ◌≤◌, List, if◌then◌else◌, IsSome, IfSome}
use Rattle.std.specs.FinMap.{get}
use Rattle.e57_base.specs.Count.{raised}
use Rattle.e57_base.specs.Source.{SourceView, misses}

-- The file of this name was opened or failed to open, once, and no other name was tried.
pub record OpensOnce (old : SourceView) (name : List ℕ) (new : SourceView) : Type 0 where
  pub stock : new.stock ≡ old.stock
  pub opened : new.opened ≡ raised old.opened
  pub missed : new.missed ≡ (if misses old.stock name then raised old.missed else old.missed)
  pub faults : old.faults ≤ new.faults

-- the file of this name is open
pub record IsOpen (old : SourceView) (name : List ℕ) (new : SourceView) : Type 0 where
  pub size : IsSome new.size
  pub held : IfSome old.stock (λ files. new.held ≡ get files name)
