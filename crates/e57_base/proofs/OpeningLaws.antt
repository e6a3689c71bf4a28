-- Laws of a file that is opened once.
use Rattle.std.specs.Prelude.{◌≡◌, ℕ, ◌≤◌, List, Option, Some, None, IfSome, Result, Ok}
use Rattle.std.specs.FinMap.{get}
use Rattle.std.proofs.Common.{refl, ◌∙◌, arith}
use Rattle.e57_base.specs.Source.{Stock, SourceView, SameFile, Opens}
use Rattle.e57_base.specs.declared.fault.Failed.{Failed}
use Rattle.e57_base.specs.Opening.{OpensOnce, IsOpen}

-- the file is opened, and then the source does no more than to give pages
pub opens_once : {old mid new : SourceView} {name : List ℕ} {result : Result ℕ Failed} → Opens old name result mid → SameFile mid new → mid.faults ≤ new.faults → OpensOnce old name new
opens_once opens same later =
    record {
      stock = same.stock ∙ opens.stock;
      opened = same.opened ∙ opens.opened;
      missed = same.missed ∙ opens.missed;
      faults = omega (arith, opens.faults, later);
    }

held_still : (stock : Option Stock) (name : List ℕ) (before now : Option (List ℕ)) → now ≡ before → IfSome stock (λ files. before ≡ get files name) → IfSome stock (λ files. now ≡ get files name)
held_still None name before now same held = tt
held_still (Some files) name before now same held = same ∙ held

pub is_open : (old mid new : SourceView) (name : List ℕ) (size : ℕ) → Opens old name (Ok size) mid → SameFile mid new → IsOpen old name new
is_open old mid new name size opens same =
    record {
      size = let known : new.size ≡ Some size = same.size ∙ opens.size in rw known refl;
      held = held_still old.stock name mid.held new.held same.held opens.held;
    }

-- an open file goes on giving pages
pub opens_later : {old mid new : SourceView} {name : List ℕ} → OpensOnce old name mid → SameFile mid new → mid.faults ≤ new.faults → OpensOnce old name new
opens_later opens same later =
    record {
      stock = same.stock ∙ opens.stock;
      opened = same.opened ∙ opens.opened;
      missed = same.missed ∙ opens.missed;
      faults = omega (arith, opens.faults, later);
    }

pub open_later : (old mid new : SourceView) (name : List ℕ) → IsOpen old name mid → SameFile mid new → IsOpen old name new
open_later old mid new name file same =
    record {
      size = rw same.size file.size;
      held = held_still old.stock name mid.held new.held same.held file.held;
    }
